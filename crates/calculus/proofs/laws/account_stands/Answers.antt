use Rattle.std.proofs.Common.{refl}
use Rattle.calculus.proofs.Answering.{smallest_first, return_undoes}
use Rattle.calculus.proofs.laws.account_stands.Goals as goal

pub returns : goal.returns
returns c = record {
  smallest_first = smallest_first;
  tests_rise = (λ _ _ _. refl, λ _ _ _ _. refl);
  return_undoes = return_undoes;
}
