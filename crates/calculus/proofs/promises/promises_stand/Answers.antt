use Rattle.calculus.proofs.Counts.{spent_right, moves_bounded, figure_enough}
use Rattle.calculus.proofs.Jumping.{jump_found}
use Rattle.calculus.proofs.Nones.{lines_right, none_right}
use Rattle.calculus.proofs.Plans.{plan_right}
use Rattle.calculus.proofs.SoundLogs.{accepted_right, lines_sound, log_sound}
use Rattle.calculus.proofs.promises.promises_stand.Goals as goal

pub returns : goal.returns
returns c = record {
  plan_right = plan_right;
  none_right = none_right;
  jump_found = jump_found;
  lines_right = lines_right;
  lines_sound = lines_sound;
  log_sound = log_sound;
  accepted_right = accepted_right;
  spent_right = spent_right;
  moves_bounded = moves_bounded;
  figure_enough = figure_enough;
}
