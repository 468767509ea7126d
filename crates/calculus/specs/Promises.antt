-- The promises on runs and checks, in the subject's words. Functions of src/promises.rt name them, so that each is proved.
use Rattle.std.specs.Prelude.{◌≡◌, ℕ, ◌^◌, ◌<◌, ◌≤◌, true, false, List, [], ◌∷◌, length, take, ℤ, Some, None, Ok, Option}
use Rattle.std.specs.List.{AllByRecursion}
use Rattle.calculus.specs.Account.{bad_range, heavy}
use Rattle.calculus.specs.Advice.{Advice, Advises, turned_side}
use Rattle.calculus.specs.Arithmetic.{near}
use Rattle.calculus.specs.Bounds.{Trail, fails_under, better_under}
use Rattle.calculus.specs.Checking.{Justified, closes, check_end}
use Rattle.calculus.specs.Limits.{most_unknowns, most_rows, most_lines, added_constant_limit}
use Rattle.calculus.specs.Logs.{Line, Logbook, line_at, line_row}
use Rattle.calculus.specs.Machines.{Context, repairing}
use Rattle.calculus.specs.RunLaws.{OneOf}
use Rattle.calculus.specs.Rows.{Row, Standing, Meets, MeetsAll, Within}
use Rattle.calculus.specs.Runs.{start, run, rows_of, begin_answer, run_end, figure}
use Rattle.calculus.specs.Tightening.{fits}
use Rattle.calculus.specs.declared.endings.Ending.TheVariants.{Plan, NoPlan, Refused}
use Rattle.calculus.specs.declared.kinds.Fields.{Fields}
use Rattle.calculus.specs.declared.ranges.Range.{Range}
use Rattle.calculus.specs.declared.refusals.Refusal.TheVariants.{Spent, Long, Wide, Log}
use Rattle.calculus.specs.declared.trails.Bound.{Bound}
use Rattle.calculus.specs.declared.trails.Entry.{Entry}

-- Ranges as a draft takes them: few enough, low not above high, and ends within their limits.
pub record FitRanges (rs : List Range) : Type 0 where
  pub few : length rs ≤ most_unknowns
  pub good : AllByRecursion (λ r. bad_range r.low r.high ≡ false) rs

-- Rows as a ticket takes them: few enough, one coefficient for each unknown, and numbers within their limits.
pub record FitRows (rs : List Range) (rows : List Standing) : Type 0 where
  pub few : length rows ≤ most_rows
  pub shaped : AllByRecursion (λ s. length s.row.coefs ≡ length rs) rows
  pub light : AllByRecursion (λ s. heavy s.row.coefs ≡ false) rows
  pub small : AllByRecursion (λ s. near added_constant_limit s.row.constant ≡ true) rows

-- no assignment within the ranges meets every row
abbrev pub Excluded : List Range → List Standing → Type 0
Excluded rs rows = (xs : List ℤ) → Within rs xs → MeetsAll xs rows → ⊥

-- a plan lies within the ranges and meets every row
abbrev pub PlanRight : Type 0
PlanRight = (rs : List Range) (rows : List Standing) (a : Advice) (log : Logbook) (plan : List ℤ) (budget : ℕ) →
    FitRanges rs → Advises a →
    let end = run_end rs rows a log plan budget in
    end.ending ≡ Plan → Within rs end.plan × MeetsAll end.plan rows

-- every line is justified by the ranges, the rows and the lines before it
abbrev pub AllJustified : List Range → List Standing → List Line → Type 0
AllJustified rs rows ls = (q : ℕ) → q < length ls → Justified rs (rows_of rows) (take q ls) (line_at ls q)

-- the fields of a line fit the widths that a log has for them
abbrev pub FieldsFit : Fields → Type 0
FieldsFit f = (f.kind < 2 ^ 8) × (f.i < 2 ^ 16) × (f.j < 2 ^ 16) × (f.k < 2 ^ 32) × (f.m < 2 ^ 32)

-- a line fits the widths that a log has: its fields, n coefficients, and entries within the limits of formed rows
abbrev pub LineFits : ℕ → Line → Type 0
LineFits n l = FieldsFit l.fields × (length l.row.coefs ≡ n) × (fits l.row ≡ true)

-- whatever a run ends in, every line that it leaves is what its kind gives, and fits
abbrev pub LinesRight : Type 0
LinesRight = (rs : List Range) (rows : List Standing) (a : Advice) (log : Logbook) (plan : List ℤ) (budget : ℕ) →
    FitRanges rs → FitRows rs rows → log.capacity ≤ most_lines → begin_answer rs a log plan ≡ Ok tt →
    let end = run_end rs rows a log plan budget in
    AllJustified rs rows end.log.lines × AllByRecursion (LineFits (length rs)) end.log.lines

-- in every machine of a run that repairs: a decision on top without which the conflict does not fail is one whose unknown the conflict
-- bounds better there, on the other side than the entry's
abbrev pub JumpFound : Type 0
JumpFound = (rs : List Range) (rows : List Standing) (a : Advice) (capacity budget steps : ℕ) → FitRanges rs → FitRows rs rows →
    let c : Context = record { ranges = rs; rows = rows_of rows; capacity = capacity } in
    let m = (run c budget steps (record { at = start c a; made = 0 })).at in
    (j : Row) (line : ℕ) (place : Option ℕ) (e : Entry) (t : Trail) → m.phase ≡ repairing j line place → m.trail ≡ e ∷ t →
    e.cause ≡ None → fails_under rs t j ≡ false →
    (b : Bound) × (better_under rs t j e.unknown ≡ Some b) × (b.side ≡ turned_side e.side)

-- whoever lies within the ranges and meets every row meets every line of a log whose lines are justified
abbrev pub LinesSound : Type 0
LinesSound = (rs : List Range) (rows : List Standing) (ls : List Line) (xs : List ℤ) →
    AllJustified rs rows ls → Within rs xs → MeetsAll xs rows → (q : ℕ) → q < length ls → Meets xs (line_row ls q)

-- so a log all of whose lines are justified, and whose last one is a constant above 0 without coefficients, excludes every assignment
abbrev pub LogSound : Type 0
LogSound = (rs : List Range) (rows : List Standing) (ls : List Line) → AllJustified rs rows ls → closes ls ≡ true → Excluded rs rows

-- after none every line is justified and fits, the last one is a constant above 0 without coefficients, a check accepts the log, and no
-- assignment within the ranges meets every row
abbrev pub NoneRight : Type 0
NoneRight = (rs : List Range) (rows : List Standing) (a : Advice) (log : Logbook) (plan : List ℤ) (budget : ℕ) →
    FitRanges rs → FitRows rs rows → log.capacity ≤ most_lines →
    let end = run_end rs rows a log plan budget in
    end.ending ≡ NoPlan →
    AllJustified rs rows end.log.lines
    × AllByRecursion (LineFits (length rs)) end.log.lines
    × (closes end.log.lines ≡ true)
    × (check_end rs rows end.log ≡ None)
    × Excluded rs rows

-- whatever log a check accepts, whoever wrote it, no assignment within the ranges meets every row
abbrev pub AcceptedRight : Type 0
AcceptedRight = (rs : List Range) (rows : List Standing) (log : Logbook) → check_end rs rows log ≡ None → Excluded rs rows

-- spent says that the moves equal the budget and that the budget was below the figure
abbrev pub SpentRight : Type 0
SpentRight = (rs : List Range) (rows : List Standing) (a : Advice) (log : Logbook) (plan : List ℤ) (budget : ℕ) →
    FitRanges rs →
    let end = run_end rs rows a log plan budget in
    end.ending ≡ Refused Spent → (end.moves ≡ budget) × (budget < figure rs)

-- no run makes as many moves as the figure
abbrev pub MovesBounded : Type 0
MovesBounded = (rs : List Range) (rows : List Standing) (a : Advice) (log : Logbook) (plan : List ℤ) (budget : ℕ) →
    FitRanges rs → (run_end rs rows a log plan budget).moves < figure rs

-- from the figure on, a run that is not refused first ends in plan, none, long, wide or log
abbrev pub FigureEnough : Type 0
FigureEnough = (rs : List Range) (rows : List Standing) (a : Advice) (log : Logbook) (plan : List ℤ) (budget : ℕ) →
    FitRanges rs → begin_answer rs a log plan ≡ Ok tt → figure rs ≤ budget →
    OneOf (Plan ∷ NoPlan ∷ Refused Long ∷ Refused Wide ∷ Refused Log ∷ []) (run_end rs rows a log plan budget).ending
