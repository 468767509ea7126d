-- Worked runs, frames and checks, computed from the definitions.
use Rattle.std.specs.Prelude.{◌≡◌, ℕ, List, [], ◌∷◌, ◌++◌, length, take, replicate, ℤ, pos, negsuc, Some, None, codes, slice_set}
use Rattle.std.specs.List.{flat_map}
use Rattle.calculus.specs.Account.{standing}
use Rattle.calculus.specs.Advice.{Advice, steady, turned}
use Rattle.calculus.specs.Checking.{check_end}
use Rattle.calculus.specs.Frames.{text, breaks}
use Rattle.calculus.specs.Limits.{most_lines}
use Rattle.calculus.specs.Logs.{Line, Logbook}
use Rattle.calculus.specs.Rows.{Standing}
use Rattle.calculus.specs.Runs.{Left, run_end, figure}
use Rattle.calculus.specs.declared.endings.Ending.{Ending}
use Rattle.calculus.specs.declared.endings.Ending.TheVariants.{Plan, NoPlan, Refused}
use Rattle.calculus.specs.declared.endings.Objection.TheVariants.{Misfit, Wrong, Open}
use Rattle.calculus.specs.declared.ranges.Range.{Range}
use Rattle.calculus.specs.declared.refusals.Refusal.TheVariants.{Spent, Wide, Log, Kind, Operand, Multiplier, Mismatch}

-- What a worked run is held to: its answer, its moves, the plan list after it and the number of lines held.
pub record Seen : Type 0 where
  pub ending : Ending
  pub moves : ℕ
  pub plan : List ℤ
  pub lines : ℕ

-- what is seen of what a run leaves
abbrev pub seen : Left → Seen
seen l = record { ending = l.ending; moves = l.moves; plan = l.plan; lines = length l.log.lines }

-- A worked run: its ticket, its adviser and what is to be seen of it.
pub record Case : Type 0 where
  pub ranges : List Range
  pub rows : List Standing
  pub advice : Advice
  pub result : Seen

-- a range, a row under label 1, and an empty log
abbrev pub from_to : ℤ → ℤ → Range
from_to lo hi = record { low = lo; high = hi }

abbrev pub row : List ℤ → ℤ → Standing
row cs k = standing 1 cs k

abbrev pub log_for : ℕ → ℕ → Logbook
log_for n capacity = record { unknowns = n; capacity = capacity; lines = [] }

-- a plan list as it is handed in: sevens
abbrev pub sevens : ℕ → List ℤ
sevens n = replicate n (pos 7)

-- the run with so large a budget and so large a log
abbrev pub run_of : Case → ℕ → ℕ → Left
run_of w budget capacity =
    run_end w.ranges w.rows w.advice (log_for (length w.ranges) capacity) (sevens (length w.ranges)) budget

-- it comes out as said
abbrev pub ComesOutAt : Case → ℕ → ℕ → Type 0
ComesOutAt w budget capacity = seen (run_of w budget capacity) ≡ w.result

-- it does with a budget of exactly its moves and of the figure, each with a log of exactly its lines and of the most lines
abbrev pub ComesOut : Case → Type 0
ComesOut w =
    ComesOutAt w w.result.moves w.result.lines
    × ComesOutAt w w.result.moves most_lines
    × ComesOutAt w (figure w.ranges) w.result.lines
    × ComesOutAt w (figure w.ranges) most_lines

-- a line as it is written down
abbrev pub line : ℕ → ℕ → ℕ → ℕ → ℕ → List ℤ → ℤ → Line
line kind i j k m cs c =
    record { fields = record { kind = kind; i = i; j = j; k = k; m = m }; row = record { coefs = cs; constant = c } }

-- a log for n unknowns with these lines
abbrev pub held_log : ℕ → List Line → Logbook
held_log n ls = record { unknowns = n; capacity = most_lines; lines = ls }

-- n = 0, no rows, budget 0, even with a log of capacity 0: plan, 0 moves
abbrev pub no_unknowns : Case
no_unknowns = record {
  ranges = [];
  rows = [];
  advice = steady 0;
  result = record { ending = Plan; moves = 0; plan = []; lines = 0 };
}

abbrev pub NoUnknowns : Type 0
NoUnknowns = ComesOut no_unknowns

-- x in 1..3, no rows: budget 0 spent, budget 1 plan 1
abbrev pub decision_spent : Case
decision_spent = record {
  ranges = from_to (pos 1) (pos 3) ∷ [];
  rows = [];
  advice = steady 1;
  result = record { ending = Refused Spent; moves = 0; plan = pos 7 ∷ []; lines = 2 };
}

abbrev pub decision_made : Case
decision_made = record {
  ranges = from_to (pos 1) (pos 3) ∷ [];
  rows = [];
  advice = steady 1;
  result = record { ending = Plan; moves = 1; plan = pos 1 ∷ []; lines = 2 };
}

abbrev pub OneDecision : Type 0
OneDecision = ComesOutAt decision_spent 0 2 × ComesOutAt decision_spent 0 most_lines × ComesOut decision_made

-- x in 0..5, -x + 5: plan 5 after 1 move
abbrev pub propagation : Case
propagation = record {
  ranges = from_to (pos 0) (pos 5) ∷ [];
  rows = row (negsuc 0 ∷ []) (pos 5) ∷ [];
  advice = steady 1;
  result = record { ending = Plan; moves = 1; plan = pos 5 ∷ []; lines = 3 };
}

abbrev pub OnePropagation : Type 0
OnePropagation = ComesOut propagation

-- x in 0..5, -x + 6: none after 0 moves, 4 lines
abbrev pub none_at_once : Case
none_at_once = record {
  ranges = from_to (pos 0) (pos 5) ∷ [];
  rows = row (negsuc 0 ∷ []) (pos 6) ∷ [];
  advice = steady 1;
  result = record { ending = NoPlan; moves = 0; plan = pos 7 ∷ []; lines = 4 };
}

abbrev pub NoneAtOnce : Type 0
NoneAtOnce = ComesOut none_at_once

-- with room for 3 lines only the answer is log
abbrev pub none_without_room : Case
none_without_room = record {
  ranges = none_at_once.ranges;
  rows = none_at_once.rows;
  advice = steady 1;
  result = record { ending = Refused Log; moves = 0; plan = pos 7 ∷ []; lines = 3 };
}

abbrev pub NoneWithoutRoom : Type 0
NoneWithoutRoom = ComesOutAt none_without_room 0 3 × ComesOutAt none_without_room (figure none_at_once.ranges) 3

-- x, y, z in 0..1, x + y + 2z - 2 and x + y - 2z, turned steady adviser: plan 0, 0, 1 after 7 moves, 20 lines
abbrev pub backjumps : Case
backjumps = record {
  ranges = replicate 3 (from_to (pos 0) (pos 1));
  rows = row (pos 1 ∷ pos 1 ∷ pos 2 ∷ []) (negsuc 1) ∷ row (pos 1 ∷ pos 1 ∷ negsuc 1 ∷ []) (pos 0) ∷ [];
  advice = turned (steady 3);
  result = record { ending = Plan; moves = 7; plan = pos 0 ∷ pos 0 ∷ pos 1 ∷ []; lines = 20 };
}

abbrev pub TwoBackjumps : Type 0
TwoBackjumps = ComesOut backjumps

-- x in 1..1, x + 1,073,741,824: wide after 0 moves
abbrev pub too_wide : Case
too_wide = record {
  ranges = from_to (pos 1) (pos 1) ∷ [];
  rows = row (pos 1 ∷ []) (pos 1073741824) ∷ [];
  advice = steady 1;
  result = record { ending = Refused Wide; moves = 0; plan = pos 7 ∷ []; lines = 3 };
}

abbrev pub TooWide : Type 0
TooWide = ComesOut too_wide

-- x in 0..1, y in 0..3, z in 0..2, x + z and -x - 2y - 3z + 2: plan 0, 1, 0 after 4 moves, 11 lines.
-- In tightening, terms are set aside once, at the start, and an added line enters the open part whole.
abbrev pub aside_once : Case
aside_once = record {
  ranges = from_to (pos 0) (pos 1) ∷ from_to (pos 0) (pos 3) ∷ from_to (pos 0) (pos 2) ∷ [];
  rows = row (pos 1 ∷ pos 0 ∷ pos 1 ∷ []) (pos 0) ∷ row (negsuc 0 ∷ negsuc 1 ∷ negsuc 2 ∷ []) (pos 2) ∷ [];
  advice = steady 3;
  result = record { ending = Plan; moves = 4; plan = pos 0 ∷ pos 1 ∷ pos 0 ∷ []; lines = 11 };
}

abbrev pub SetAsideOnce : Type 0
SetAsideOnce = ComesOut aside_once

-- x in 0..3, y in 0..1, -x - 2y + 3: plan 1, 1 after 3 moves, 8 lines.
-- A decided entry's partner is added the least number of times, and then its term is set aside.
abbrev pub partner : Case
partner = record {
  ranges = from_to (pos 0) (pos 3) ∷ from_to (pos 0) (pos 1) ∷ [];
  rows = row (negsuc 0 ∷ negsuc 1 ∷ []) (pos 3) ∷ [];
  advice = steady 2;
  result = record { ending = Plan; moves = 3; plan = pos 1 ∷ pos 1 ∷ []; lines = 8 };
}

abbrev pub PartnerAdded : Type 0
PartnerAdded = ComesOut partner

-- n = 0, one row of constant 1: none after 0 moves; no sum was made, so its row line is added once more
abbrev pub row_again : Case
row_again = record {
  ranges = [];
  rows = row ([]) (pos 1) ∷ [];
  advice = steady 0;
  result = record { ending = NoPlan; moves = 0; plan = []; lines = 2 };
}

abbrev pub RowLineAgain : Type 0
RowLineAgain = ComesOut row_again

-- with room for 1 line only the answer is log, and a check accepts that line all the same: it contradicts
abbrev pub row_without_room : Case
row_without_room = record {
  ranges = [];
  rows = row_again.rows;
  advice = steady 0;
  result = record { ending = Refused Log; moves = 0; plan = []; lines = 1 };
}

abbrev pub RowWithoutRoom : Type 0
RowWithoutRoom =
    ComesOutAt row_without_room 0 1
    × ((run_of row_without_room 0 1).log.lines ≡ line 3 0 0 0 0 [] (pos 1) ∷ [])
    × (check_end [] row_again.rows (held_log 0 (line 3 0 0 0 0 [] (pos 1) ∷ [])) ≡ None)

-- x in 0..3, y in 0..1, x + 2y - 2, turned steady adviser: plan 2, 0 after 3 moves, 8 lines. A term of the bounded unknown enters
-- the open part with a line and leaves it again.
abbrev pub open_part_of_x : Case
open_part_of_x = record {
  ranges = from_to (pos 0) (pos 3) ∷ from_to (pos 0) (pos 1) ∷ [];
  rows = row (pos 1 ∷ pos 2 ∷ []) (negsuc 1) ∷ [];
  advice = turned (steady 2);
  result = record { ending = Plan; moves = 3; plan = pos 2 ∷ pos 0 ∷ []; lines = 8 };
}

abbrev pub TermComesAndGoes : Type 0
TermComesAndGoes = ComesOut open_part_of_x

-- x in -1..0, y in 0..3, z in 0..1, 4x + 2y + 4z - 4, turned steady adviser: plan 0, 2, 0 after 4 moves, 11 lines.
-- A decided entry whose term divides already needs no partner.
abbrev pub no_partner : Case
no_partner = record {
  ranges = from_to (negsuc 0) (pos 0) ∷ from_to (pos 0) (pos 3) ∷ from_to (pos 0) (pos 1) ∷ [];
  rows = row (pos 4 ∷ pos 2 ∷ pos 4 ∷ []) (negsuc 3) ∷ [];
  advice = turned (steady 3);
  result = record { ending = Plan; moves = 4; plan = pos 0 ∷ pos 2 ∷ pos 0 ∷ []; lines = 11 };
}

abbrev pub PartnerNotNeeded : Type 0
PartnerNotNeeded = ComesOut no_partner

-- x in 2..5, y in -2..1, x - y - 4, -x + y + 4, 2x + 2y - 6 and -2x - 2y + 5: none after 4 moves, 13 lines, with a backjump between
abbrev pub none_later : Case
none_later = record {
  ranges = from_to (pos 2) (pos 5) ∷ from_to (negsuc 1) (pos 1) ∷ [];
  rows = row (pos 1 ∷ negsuc 0 ∷ []) (negsuc 3) ∷ row (negsuc 0 ∷ pos 1 ∷ []) (pos 4) ∷ row (pos 2 ∷ pos 2 ∷ []) (negsuc 5) ∷ row
      (negsuc 1 ∷ negsuc 1 ∷ []) (pos 5) ∷ [];
  advice = steady 2;
  result = record { ending = NoPlan; moves = 4; plan = pos 7 ∷ pos 7 ∷ []; lines = 13 };
}

abbrev pub NoneAfterBackjump : Type 0
NoneAfterBackjump = ComesOut none_later

-- x in 1..2, y in 1..4, z in -2..-1, x + y + z - 2 and -x - y - z + 3: none after 5 moves, 9 lines. A decision is dropped in repair
abbrev pub decision_off : Case
decision_off = record {
  ranges = from_to (pos 1) (pos 2) ∷ from_to (pos 1) (pos 4) ∷ from_to (negsuc 1) (negsuc 0) ∷ [];
  rows = row (pos 1 ∷ pos 1 ∷ pos 1 ∷ []) (negsuc 1) ∷ row (negsuc 0 ∷ negsuc 0 ∷ negsuc 0 ∷ []) (pos 3) ∷ [];
  advice = steady 3;
  result = record { ending = NoPlan; moves = 5; plan = pos 7 ∷ pos 7 ∷ pos 7 ∷ []; lines = 9 };
}

abbrev pub DecisionDropped : Type 0
DecisionDropped = ComesOut decision_off

-- x in 1..2, y in -1..0, 2x - y: none after 0 moves, 8 lines. The conflict is reduced by 2 after its first sum
abbrev pub by_two : Case
by_two = record {
  ranges = from_to (pos 1) (pos 2) ∷ from_to (negsuc 0) (pos 0) ∷ [];
  rows = row (pos 2 ∷ negsuc 0 ∷ []) (pos 0) ∷ [];
  advice = steady 2;
  result = record { ending = NoPlan; moves = 0; plan = pos 7 ∷ pos 7 ∷ []; lines = 8 };
}

abbrev pub ReducedByTwo : Type 0
ReducedByTwo = ComesOut by_two

-- ---- lines and frames of the run that ends in none

-- the lines it leaves
abbrev pub none_lines : List Line
none_lines =
    line 1 0 0 0 0 (negsuc 0 ∷ []) (pos 0)
    ∷ line 2 0 0 0 0 (pos 1 ∷ []) (negsuc 4)
    ∷ line 3 0 0 0 0 (negsuc 0 ∷ []) (pos 6)
    ∷ line 4 2 1 1 1 (pos 0 ∷ []) (pos 1)
    ∷ []

-- a line of text
abbrev pub ended_line : List ℕ → List ℕ
ended_line bytes = bytes ++ 10 ∷ []

-- the four frames of that run
abbrev pub four_frames : List ℕ
four_frames =
    flat_map ended_line
    (codes "01000000000000000000000000FFFFFFFF00000000"
    ∷ codes "0200000000000000000000000000000001FFFFFFFB"
    ∷ codes "03000000000000000000000000FFFFFFFF00000006"
    ∷ codes "040002000100000001000000010000000000000001"
    ∷ [])

-- that run leaves these lines, their text is these frames, and it is a text that passes
abbrev pub NoneFrames : Type 0
NoneFrames =
    ((run_of none_at_once 0 4).log.lines ≡ none_lines)
    × ((run_of none_at_once 0 most_lines).log.lines ≡ none_lines)
    × ((run_of none_at_once (figure none_at_once.ranges) 4).log.lines ≡ none_lines)
    × ((run_of none_at_once (figure none_at_once.ranges) most_lines).log.lines ≡ none_lines)
    × (text none_lines ≡ four_frames)
    × (breaks 1 four_frames ≡ None)

-- ---- the checker on the log of the run that ends in none

-- low and row of the run that ends in wide, and their sum, which leaves the limits
abbrev pub wide_lines : List Line
wide_lines =
    line 1 0 0 0 0 (negsuc 0 ∷ []) (pos 1)
    ∷ line 3 0 0 0 0 (pos 1 ∷ []) (pos 1073741824)
    ∷ line 4 1 0 1 1 (pos 0 ∷ []) (pos 1073741825)
    ∷ []

-- accepted as it is; open without its last line, and where it is empty; misfit for another number of unknowns; and each of the four
-- refusals of a line, the smallest number first; a sum outside the limits too
abbrev pub Checks : Type 0
Checks =
    let check = λ (ls : List Line). check_end none_at_once.ranges none_at_once.rows (held_log 1 ls) in
    (check none_lines ≡ None)
    × (check (take 3 none_lines) ≡ Some (Open 3))
    × (check [] ≡ Some (Open 0))
    × (check_end none_at_once.ranges none_at_once.rows (held_log 2 none_lines) ≡ Some Misfit)
    × (check (slice_set none_lines 0 (line 6 0 0 0 0 (negsuc 0 ∷ []) (pos 0))) ≡ Some (Wrong Kind 0))
    × (check (slice_set none_lines 1 (line 2 0 0 1 0 (pos 1 ∷ []) (negsuc 4))) ≡ Some (Wrong Kind 1))
    × (check (slice_set none_lines 0 (line 1 1 0 0 0 (negsuc 0 ∷ []) (pos 0))) ≡ Some (Wrong Operand 0))
    × (check (slice_set none_lines 0 (line 1 1 0 0 9 (negsuc 0 ∷ []) (pos 0))) ≡ Some (Wrong Kind 0))
    × (check (slice_set none_lines 2 (line 3 1 0 0 0 (negsuc 0 ∷ []) (pos 6))) ≡ Some (Wrong Operand 2))
    × (check (slice_set none_lines 3 (line 4 2 3 1 1 (pos 0 ∷ []) (pos 1))) ≡ Some (Wrong Operand 3))
    × (check (slice_set none_lines 3 (line 4 2 1 1 1073741825 (pos 0 ∷ []) (pos 1))) ≡ Some (Wrong Multiplier 3))
    × (check (slice_set none_lines 3 (line 4 2 1 1 1 (pos 0 ∷ []) (pos 2))) ≡ Some (Wrong Mismatch 3))
    × (check (slice_set none_lines 3 (line 4 2 1 1 2 (pos 0 ∷ []) (pos 1))) ≡ Some (Wrong Mismatch 3))
    × (check (none_lines ++ line 5 3 0 1 0 (pos 0 ∷ []) (pos 1) ∷ []) ≡ None)
    × (check (none_lines ++ line 5 3 0 0 0 (pos 0 ∷ []) (pos 1) ∷ []) ≡ Some (Wrong Multiplier 4))
    × (check (none_lines ++ line 1 0 0 0 0 (negsuc 0 ∷ []) (pos 0) ∷ []) ≡ Some (Open 5))
    × (check_end none_at_once.ranges [] (held_log 1 none_lines) ≡ Some (Wrong Operand 2))
    × (check_end too_wide.ranges too_wide.rows (held_log 1 wide_lines) ≡ Some (Wrong Mismatch 2))

-- ---- texts that break, for no unknowns

-- a frame without its end
abbrev pub bare_frame : List ℕ
bare_frame = codes "0300000000000000000000000000000001"

-- an empty text passes, and so do one frame and two, and a kind that does not exist; a lower-case digit, a digit that is none, a line that
-- ends early, one that goes on too long, one that stops short and an empty one break where the first byte is not due
abbrev pub Breaks : Type 0
Breaks =
    (breaks 0 [] ≡ None)
    × (breaks 0 (ended_line bare_frame) ≡ None)
    × (breaks 0 (ended_line bare_frame ++ ended_line bare_frame) ≡ None)
    × (breaks 0 (ended_line (codes "FF00000000000000000000000000000001")) ≡ None)
    × (breaks 0 (ended_line (codes "0a00000000000000000000000000000001")) ≡ Some 1)
    × (breaks 0 (ended_line (codes "G300000000000000000000000000000001")) ≡ Some 0)
    × (breaks 0 (ended_line (take 10 bare_frame)) ≡ Some 10)
    × (breaks 0 (ended_line (bare_frame ++ 13 ∷ [])) ≡ Some 34)
    × (breaks 0 bare_frame ≡ Some 34)
    × (breaks 0 (ended_line bare_frame ++ take 4 bare_frame) ≡ Some 39)
    × (breaks 0 (ended_line bare_frame ++ 10 ∷ []) ≡ Some 35)
