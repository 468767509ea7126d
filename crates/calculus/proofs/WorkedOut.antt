-- The worked runs, computed. Each rests after fewer than 60 steps.
use Rattle.std.proofs.Common.{◌≡◌, ℕ, ◌≤◌, refl, ap, ◌∙◌, arith}
use Rattle.calculus.specs.Arithmetic.{divisor, divisor_within}
use Rattle.calculus.specs.Frames.{hex}
use Rattle.calculus.specs.Limits.{most_lines}
use Rattle.calculus.specs.Runs.{Left, steps_between, figure}
use Rattle.calculus.specs.WorkedRuns.{NoUnknowns, OneDecision, OnePropagation, NoneAtOnce, NoneFrames, NoneWithoutRoom}
use Rattle.calculus.specs.WorkedRuns.{TwoBackjumps, TooWide, SetAsideOnce, PartnerAdded, Checks, Breaks}
use Rattle.calculus.specs.WorkedRuns.{no_unknowns, decision_spent, decision_made, propagation, none_at_once, none_without_room}
use Rattle.calculus.specs.WorkedRuns.{backjumps, too_wide, aside_once, partner}
use Rattle.calculus.specs.WorkedRuns.{RowLineAgain, TermComesAndGoes, PartnerNotNeeded, NoneAfterBackjump, DecisionDropped}
use Rattle.calculus.specs.WorkedRuns.{row_again, open_part_of_x, no_partner, none_later, decision_off, by_two, ReducedByTwo}
use Rattle.calculus.specs.WorkedRuns.{run_of, none_lines, row_without_room, RowWithoutRoom}
use Rattle.calculus.proofs.ComingOut.{RestsAt, leaves, comes_to, comes_out}

few : 60 ≤ steps_between
few = omega arith

pub no_unknowns_out : NoUnknowns
no_unknowns_out = (
  comes_out no_unknowns 0 0 60 (refl, few, refl) refl,
  comes_out no_unknowns 0 most_lines 60 (refl, few, refl) refl,
  comes_out no_unknowns (figure no_unknowns.ranges) 0 60 (refl, few, refl) refl,
  comes_out no_unknowns (figure no_unknowns.ranges) most_lines 60 (refl, few, refl) refl,
)

pub decision_out : OneDecision
decision_out = (
  comes_out decision_spent 0 2 60 (refl, few, refl) refl,
  comes_out decision_spent 0 most_lines 60 (refl, few, refl) refl,
  (
    comes_out decision_made 1 2 60 (refl, few, refl) refl,
    comes_out decision_made 1 most_lines 60 (refl, few, refl) refl,
    comes_out decision_made (figure decision_made.ranges) 2 60 (refl, few, refl) refl,
    comes_out decision_made (figure decision_made.ranges) most_lines 60 (refl, few, refl) refl,
  ),
)

pub propagation_out : OnePropagation
propagation_out = (
  comes_out propagation 1 3 60 (refl, few, refl) refl,
  comes_out propagation 1 most_lines 60 (refl, few, refl) refl,
  comes_out propagation (figure propagation.ranges) 3 60 (refl, few, refl) refl,
  comes_out propagation (figure propagation.ranges) most_lines 60 (refl, few, refl) refl,
)

pub none_out : NoneAtOnce
unfolding divisor divisor_within
none_out = (
  comes_out none_at_once 0 4 60 (refl, few, refl) refl,
  comes_out none_at_once 0 most_lines 60 (refl, few, refl) refl,
  comes_out none_at_once (figure none_at_once.ranges) 4 60 (refl, few, refl) refl,
  comes_out none_at_once (figure none_at_once.ranges) most_lines 60 (refl, few, refl) refl,
)

pub without_room_out : NoneWithoutRoom
without_room_out = (
  comes_out none_without_room 0 3 60 (refl, few, refl) refl,
  comes_out none_without_room (figure none_at_once.ranges) 3 60 (refl, few, refl) refl,
)

left_lines : (budget capacity : ℕ) → RestsAt none_at_once budget capacity 60 →
    (leaves none_at_once budget capacity 60).log.lines ≡ none_lines →
    (run_of none_at_once budget capacity).log.lines ≡ none_lines
left_lines budget capacity h is = ap (λ (l : Left). l.log.lines) (comes_to none_at_once budget capacity 60 h) ∙ is

pub frames_out : NoneFrames
unfolding divisor divisor_within hex
frames_out = (
  left_lines 0 4 (refl, few, refl) refl,
  left_lines 0 most_lines (refl, few, refl) refl,
  left_lines (figure none_at_once.ranges) 4 (refl, few, refl) refl,
  left_lines (figure none_at_once.ranges) most_lines (refl, few, refl) refl,
  refl,
  refl,
)

pub backjumps_out : TwoBackjumps
unfolding divisor divisor_within
backjumps_out = (
  comes_out backjumps 7 20 60 (refl, few, refl) refl,
  comes_out backjumps 7 most_lines 60 (refl, few, refl) refl,
  comes_out backjumps (figure backjumps.ranges) 20 60 (refl, few, refl) refl,
  comes_out backjumps (figure backjumps.ranges) most_lines 60 (refl, few, refl) refl,
)

pub too_wide_out : TooWide
unfolding divisor divisor_within
too_wide_out = (
  comes_out too_wide 0 3 60 (refl, few, refl) refl,
  comes_out too_wide 0 most_lines 60 (refl, few, refl) refl,
  comes_out too_wide (figure too_wide.ranges) 3 60 (refl, few, refl) refl,
  comes_out too_wide (figure too_wide.ranges) most_lines 60 (refl, few, refl) refl,
)

pub aside_out : SetAsideOnce
unfolding divisor divisor_within
aside_out = (
  comes_out aside_once 4 11 60 (refl, few, refl) refl,
  comes_out aside_once 4 most_lines 60 (refl, few, refl) refl,
  comes_out aside_once (figure aside_once.ranges) 11 60 (refl, few, refl) refl,
  comes_out aside_once (figure aside_once.ranges) most_lines 60 (refl, few, refl) refl,
)

pub partner_out : PartnerAdded
unfolding divisor divisor_within
partner_out = (
  comes_out partner 3 8 60 (refl, few, refl) refl,
  comes_out partner 3 most_lines 60 (refl, few, refl) refl,
  comes_out partner (figure partner.ranges) 8 60 (refl, few, refl) refl,
  comes_out partner (figure partner.ranges) most_lines 60 (refl, few, refl) refl,
)

pub row_again_out : RowLineAgain
unfolding divisor divisor_within
row_again_out = (
  comes_out row_again 0 2 60 (refl, few, refl) refl,
  comes_out row_again 0 most_lines 60 (refl, few, refl) refl,
  comes_out row_again (figure row_again.ranges) 2 60 (refl, few, refl) refl,
  comes_out row_again (figure row_again.ranges) most_lines 60 (refl, few, refl) refl,
)

pub row_without_room_out : RowWithoutRoom
row_without_room_out = (
  comes_out row_without_room 0 1 60 (refl, few, refl) refl,
  ap (λ (l : Left). l.log.lines) (comes_to row_without_room 0 1 60 (refl, few, refl)) ∙ refl,
  refl,
)

pub open_part_out : TermComesAndGoes
unfolding divisor divisor_within
open_part_out = (
  comes_out open_part_of_x 3 8 60 (refl, few, refl) refl,
  comes_out open_part_of_x 3 most_lines 60 (refl, few, refl) refl,
  comes_out open_part_of_x (figure open_part_of_x.ranges) 8 60 (refl, few, refl) refl,
  comes_out open_part_of_x (figure open_part_of_x.ranges) most_lines 60 (refl, few, refl) refl,
)

pub no_partner_out : PartnerNotNeeded
unfolding divisor divisor_within
no_partner_out = (
  comes_out no_partner 4 11 60 (refl, few, refl) refl,
  comes_out no_partner 4 most_lines 60 (refl, few, refl) refl,
  comes_out no_partner (figure no_partner.ranges) 11 60 (refl, few, refl) refl,
  comes_out no_partner (figure no_partner.ranges) most_lines 60 (refl, few, refl) refl,
)

pub none_later_out : NoneAfterBackjump
unfolding divisor divisor_within
none_later_out = (
  comes_out none_later 4 13 60 (refl, few, refl) refl,
  comes_out none_later 4 most_lines 60 (refl, few, refl) refl,
  comes_out none_later (figure none_later.ranges) 13 60 (refl, few, refl) refl,
  comes_out none_later (figure none_later.ranges) most_lines 60 (refl, few, refl) refl,
)

pub decision_off_out : DecisionDropped
unfolding divisor divisor_within
decision_off_out = (
  comes_out decision_off 5 9 60 (refl, few, refl) refl,
  comes_out decision_off 5 most_lines 60 (refl, few, refl) refl,
  comes_out decision_off (figure decision_off.ranges) 9 60 (refl, few, refl) refl,
  comes_out decision_off (figure decision_off.ranges) most_lines 60 (refl, few, refl) refl,
)

pub by_two_out : ReducedByTwo
unfolding divisor divisor_within
by_two_out = (
  comes_out by_two 0 8 60 (refl, few, refl) refl,
  comes_out by_two 0 most_lines 60 (refl, few, refl) refl,
  comes_out by_two (figure by_two.ranges) 8 60 (refl, few, refl) refl,
  comes_out by_two (figure by_two.ranges) most_lines 60 (refl, few, refl) refl,
)

pub checks_out : Checks
checks_out = (refl, refl, refl, refl, refl, refl, refl, refl, refl, refl, refl, refl, refl, refl, refl, refl, refl, refl)

pub breaks_out : Breaks
breaks_out = (refl, refl, refl, refl, refl, refl, refl, refl, refl, refl, refl)
