use Rattle.calculus.proofs.Verdicts.{accepts_right, misfit_is, first_wrong, open_is}
use Rattle.calculus.proofs.laws.checks_stand.Goals as goal

pub returns : goal.returns
returns c = record {
  accepts_right = accepts_right;
  misfit_is = misfit_is;
  first_wrong = first_wrong;
  open_is = open_is;
}
