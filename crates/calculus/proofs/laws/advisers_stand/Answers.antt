use Rattle.calculus.proofs.Advising.{three_advise, three_advised, steady_stays, turned_twice, choice_open, choice_first, advice_after}
use Rattle.calculus.proofs.Unmoved.{only_moves_tell}
use Rattle.calculus.proofs.laws.advisers_stand.Goals as goal

pub returns : goal.returns
returns c = record {
  three_advise = three_advise;
  three_advised = three_advised;
  steady_stays = steady_stays;
  turned_twice = turned_twice;
  choice_open = choice_open;
  choice_first = choice_first;
  only_moves_tell = only_moves_tell;
  advice_after = advice_after;
}
