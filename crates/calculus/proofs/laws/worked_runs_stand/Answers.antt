use Rattle.std.proofs.Common.{refl}
use Rattle.calculus.proofs.Answering.{each_listed}
use Rattle.calculus.proofs.Cases.{reduces_out, doubles_out, rounds_out, ends_out, met_out}
use Rattle.calculus.proofs.WorkedOut.{no_unknowns_out, decision_out, propagation_out, none_out, without_room_out, frames_out}
use Rattle.calculus.proofs.WorkedOut.{backjumps_out, too_wide_out, aside_out, partner_out, checks_out, breaks_out}
use Rattle.calculus.proofs.WorkedOut.{row_again_out, row_without_room_out, open_part_out, no_partner_out, none_later_out}
use Rattle.calculus.proofs.WorkedOut.{decision_off_out, by_two_out}
use Rattle.calculus.proofs.laws.worked_runs_stand.Goals as goal

pub returns : goal.returns
returns c = record {
  no_unknowns = no_unknowns_out;
  one_decision = decision_out;
  one_propagation = propagation_out;
  none_at_once = none_out;
  none_frames = frames_out;
  none_without_room = without_room_out;
  two_backjumps = backjumps_out;
  too_wide = too_wide_out;
  set_aside_once = aside_out;
  partner_added = partner_out;
  row_line_again = row_again_out;
  row_without_room = row_without_room_out;
  term_comes_and_goes = open_part_out;
  partner_not_needed = no_partner_out;
  none_after_backjump = none_later_out;
  decision_dropped = decision_off_out;
  reduced_by_two = by_two_out;
  checks = checks_out;
  breaks = breaks_out;
  reduces = reduces_out;
  doubles = doubles_out;
  rounds = rounds_out;
  ends_included = ends_out;
  met_to_the_end = met_out;
  refusals_listed = (refl, refl, each_listed);
}
