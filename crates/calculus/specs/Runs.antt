-- Whole runs: the start, the run under a budget, and what it leaves.
use Rattle.std.specs.Prelude.{ℕ, zero, suc, ◌+◌, ◌*◌, ◌^◌, Bool, true, false, not, ◌||◌, List, [], ◌∷◌, ◌++◌, map, length, take, replicate, ℤ, pos, negsuc, ◌-ℤ◌, neg_ℤ, Ok, Err, Result, ◌==◌, nat_le, slice_set, unsigned_abs, Some}
use Rattle.calculus.specs.Account.{Test, when, answered}
use Rattle.calculus.specs.Advice.{Advice, advised}
use Rattle.calculus.specs.Bounds.{Trail, range_at, row_at, lows}
use Rattle.calculus.specs.Limits.{most_entries}
use Rattle.calculus.specs.Logs.{Line, Logbook, fields_of, with_lines}
use Rattle.calculus.specs.Machines.{Context, Machine, Phase, looking, repairing, ended, Acted, free, halted, moved, act}
use Rattle.calculus.specs.Rows.{Row, Standing}
use Rattle.calculus.specs.Tables.{table}
use Rattle.calculus.specs.declared.endings.Ending.{Ending}
use Rattle.calculus.specs.declared.endings.Ending.TheVariants.{Plan, NoPlan, Refused}
use Rattle.calculus.specs.declared.kinds.Kind.{Kind}
use Rattle.calculus.specs.declared.kinds.Kind.TheVariants.{Low as LowLine, High as HighLine, Row as Placed}
use Rattle.calculus.specs.declared.ranges.Range.{Range}
use Rattle.calculus.specs.declared.refusals.Refusal.{Refusal}
use Rattle.calculus.specs.declared.refusals.Refusal.TheVariants.{List as NoList, Misfit, Spent, Log}
use Rattle.calculus.specs.declared.sides.Side.TheVariants.{Low, High}

-- ---- the start

-- a row of n unknowns with one coefficient, that of x
abbrev pub lone : ℕ → ℕ → ℤ → ℤ → Row
lone n x a k = record { coefs = slice_set (replicate n (pos 0)) x a; constant = k }

-- -x + low
abbrev pub low_row : List Range → ℕ → Row
low_row rs x = lone (length rs) x (negsuc 0) (range_at rs x).low

-- x - high
abbrev pub high_row : List Range → ℕ → Row
high_row rs x = lone (length rs) x (pos 1) (neg_ℤ (range_at rs x).high)

-- a line of a kind, with its row
abbrev pub line_of : Kind → Row → Line
line_of k r = record { fields = fields_of k; row = r }

-- the lines of the first k ranges: low and high of each unknown in turn
abbrev pub range_lines : List Range → ℕ → List Line
range_lines rs zero = []
range_lines rs (suc x) =
    range_lines rs x ++ line_of (LowLine x) (low_row rs x) ∷ line_of (HighLine x) (high_row rs x) ∷ []

-- the lines of the first k rows
abbrev pub row_lines : List Row → ℕ → List Line
row_lines rows k = table (λ p. line_of (Placed p) (row_at rows p)) k

-- the base lines: low and high of each unknown in turn, then the rows
abbrev pub base_lines : List Range → List Row → List Line
base_lines rs rows = range_lines rs (length rs) ++ row_lines rows (length rows)

-- the range entries of the first k unknowns, newest first, each implied by its line
abbrev pub range_entries : List Range → ℕ → Trail
range_entries rs zero = []
range_entries rs (suc x) =
    record { unknown = x; side = High; bound = (range_at rs x).high; cause = Some (suc (x + x)) }
    ∷ record { unknown = x; side = Low; bound = (range_at rs x).low; cause = Some (x + x) }
    ∷ range_entries rs x

-- the machine after the base lines: they fit, or the run ends in log and as many of them stay as there is room for
abbrev pub start_by : Bool → Context → Advice → Machine
start_by true c a = record {
  trail = range_entries c.ranges (length c.ranges);
  lines = base_lines c.ranges c.rows;
  advice = a;
  phase = looking;
}
start_by false c a = record {
  trail = range_entries c.ranges (length c.ranges);
  lines = take c.capacity (base_lines c.ranges c.rows);
  advice = a;
  phase = ended (Refused Log);
}

-- the start of a run: the base lines in the emptied log, the range entries on the trail
abbrev pub start : Context → Advice → Machine
start c a = start_by (nat_le (length (base_lines c.ranges c.rows)) c.capacity) c a

-- ---- the run under a budget

-- How far a run has come: its machine, and the moves it made.
pub record Progress : Type 0 where
  pub at : Machine
  pub made : ℕ

-- a move is due: where the moves have reached the budget everything stays as it is, and else the step is taken
abbrev pub within_budget : Bool → Progress → Progress → Progress
within_budget true now next = now
within_budget false now next = next

-- what a step makes of the run
abbrev pub advanced : ℕ → Acted → Progress → Progress
advanced budget (free m) g = record { at = m; made = g.made }
advanced budget (halted m) g = within_budget (nat_le budget g.made) g (record { at = m; made = g.made })
advanced budget (moved m) g = within_budget (nat_le budget g.made) g (record { at = m; made = suc g.made })

-- so many steps
abbrev pub run : Context → ℕ → ℕ → Progress → Progress
run c budget zero g = g
run c budget (suc steps) g = run c budget steps (advanced budget (act c g.at) g)

-- how the run ended, after enough steps: a machine that has not ended was stopped by its budget
abbrev pub ending_of : Phase → Ending
ending_of looking = Refused Spent
ending_of (repairing j line place) = Refused Spent
ending_of (ended e) = e

-- the steps that a run has at most from one move to the next, or to its end: one to look, one for each entry, one to close
abbrev pub steps_between : ℕ
steps_between = most_entries + 2

-- steps enough for a budget: more of them change nothing
abbrev pub enough_steps : ℕ → ℕ
enough_steps budget = suc budget * steps_between

-- the whole run
abbrev pub whole_run : Context → ℕ → Advice → Progress
whole_run c budget a = run c budget (enough_steps budget) (record { at = start c a; made = 0 })

-- ---- what it leaves

-- What a run leaves: its answer with the moves, the plan list, the adviser and the log.
pub record Left : Type 0 where
  pub ending : Ending
  pub moves : ℕ
  pub plan : List ℤ
  pub advice : Advice
  pub log : Logbook

-- the tests that come first, in the order of their numbers: the plan list has not n places; adviser or log is for another n
abbrev pub run_tests : List Range → Advice → Logbook → List ℤ → List Test
run_tests rs a log plan =
    when (not (length plan == length rs)) NoList
    ∷ when (not (advised a == length rs) || not (log.unknowns == length rs)) Misfit
    ∷ []

-- what is answered before the run begins
abbrev pub begin_answer : List Range → Advice → Logbook → List ℤ → Result (Unit {0}) Refusal
begin_answer rs a log plan = answered (run_tests rs a log plan) tt

-- a plan goes into the plan list, and anything else leaves the list as found
abbrev pub plan_after : Ending → List ℤ → List ℤ → List ℤ
plan_after Plan lows found = lows
plan_after NoPlan lows found = found
plan_after (Refused r) lows found = found

-- what a run leaves as it stopped
abbrev pub left_at : Progress → List Range → Logbook → List ℤ → Left
left_at g rs log plan = record {
  ending = ending_of g.at.phase;
  moves = g.made;
  plan = plan_after (ending_of g.at.phase) (lows rs g.at.trail) plan;
  advice = g.at.advice;
  log = with_lines log g.at.lines;
}

-- a refusal that comes first makes no move and leaves all as found
abbrev pub left_by : Result (Unit {0}) Refusal → List Range → List Row → Advice → Logbook → List ℤ → ℕ → Left
left_by (Err r) rs rows a log plan budget = record { ending = Refused r; moves = 0; plan = plan; advice = a; log = log }
left_by (Ok u) rs rows a log plan budget =
    left_at (whole_run (record { ranges = rs; rows = rows; capacity = log.capacity }) budget a) rs log plan

-- the rows without their labels
abbrev pub rows_of : List Standing → List Row
rows_of ss = map (λ s. s.row) ss

-- what a run leaves, by ranges, standing rows, adviser, log, plan list and budget
abbrev pub run_end : List Range → List Standing → Advice → Logbook → List ℤ → ℕ → Left
run_end rs rows a log plan budget = left_by (begin_answer rs a log plan) rs (rows_of rows) a log plan budget

-- ---- the figure

-- W: the sum of high - low over all ranges
abbrev pub width : List Range → ℕ
width [] = 0
width (r ∷ rs) = unsigned_abs (r.high -ℤ r.low) + width rs

-- (W + 2)^(n + 1), the figure that the promises name
abbrev pub figure : List Range → ℕ
figure rs = (width rs + 2) ^ (length rs + 1)
