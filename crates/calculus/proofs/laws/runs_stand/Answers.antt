use Rattle.std.proofs.Common.{refl}
use Rattle.calculus.proofs.Appending.{append_writes, start_writes}
use Rattle.calculus.proofs.Running.{ended_stays, rest_stays, same_machines, larger_budget, soon_due, run_rests, run_answers, moves_within}
use Rattle.calculus.proofs.Running.{spent_is_budget, step_appends, log_after, log_same}
use Rattle.calculus.proofs.laws.runs_stand.Goals as goal

pub returns : goal.returns
returns c = record {
  ended_stays = ended_stays;
  rest_stays = rest_stays;
  same_machines = same_machines;
  larger_budget = larger_budget;
  soon_due = soon_due;
  run_rests = run_rests;
  run_answers = run_answers;
  moves_within = moves_within;
  spent_is_budget = spent_is_budget;
  start_writes = start_writes;
  step_appends = step_appends;
  log_after = log_after;
  log_same = log_same;
  append_writes = append_writes;
  more_tests_rise = (λ _ _ _ _. refl, λ _ _. refl, λ _ _ _ _ _. refl);
}
