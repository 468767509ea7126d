-- What is true of whole runs and of advisers, in the subject's words. Functions of src/laws.rt name these laws, so that each is proved.
use Rattle.std.specs.Prelude.{◌≡◌, ℕ, zero, suc, ◌+◌, ◌<◌, ◌≤◌, Bool, true, false, ◌&&◌, ◌||◌, ◌⊎◌, List, [], ◌∷◌, ◌++◌, length, take, ℤ, Some, None, Ok, ◌≢◌, nat_le}
use Rattle.std.specs.List.{AllByRecursion}
use Rattle.calculus.specs.Advice.{Order, Advice, Orderly, Advises, advised, choice, told, steady, blaming, turned}
use Rattle.calculus.specs.Checking.{line_tests}
use Rattle.calculus.specs.Laws.{rising}
use Rattle.calculus.specs.Limits.{most_unknowns}
use Rattle.calculus.specs.Logs.{Line, Logbook, Written, written, written_by, append_answer, append_tests, appended, fields_of, entries}
use Rattle.calculus.specs.Machines.{Context, Phase, looking, repairing, ended, Machine, Acted, free, halted, moved, act}
use Rattle.calculus.specs.Rows.{Row, Standing, coef}
use Rattle.calculus.specs.Runs.{Progress, start, run, enough_steps, whole_run, base_lines, rows_of, run_tests, begin_answer, run_end}
use Rattle.calculus.specs.declared.endings.Ending.{Ending}
use Rattle.calculus.specs.declared.endings.Ending.TheVariants.{Plan, NoPlan, Refused}
use Rattle.calculus.specs.declared.kinds.Kind.{Kind}
use Rattle.calculus.specs.declared.ranges.Range.{Range}
use Rattle.calculus.specs.declared.refusals.Refusal.TheVariants.{Spent, Long, Wide, Log}
use Rattle.calculus.specs.declared.sides.Side.{Side}

-- ---- steps and runs

-- a run has ended
abbrev pub is_over : Phase → Bool
is_over looking = false
is_over (repairing j line place) = false
is_over (ended e) = true

-- a move is due: it is made, or something comes in its place
abbrev pub is_due : Acted → Bool
is_due (free m) = false
is_due (halted m) = true
is_due (moved m) = true

-- a run rests: it has ended, or a move is due and the moves have reached the budget
abbrev pub rests : Context → ℕ → Progress → Bool
rests c budget g = is_over g.at.phase || (is_due (act c g.at) && nat_le budget g.made)

-- an ended machine stays as it is
abbrev pub EndedStays : Type 0
EndedStays = (c : Context) (m : Machine) → is_over m.phase ≡ true → act c m ≡ free m

-- more steps change nothing where a run rests
abbrev pub RestStays : Type 0
RestStays = (c : Context) (budget steps : ℕ) (g : Progress) → rests c budget g ≡ true → run c budget steps g ≡ g

-- under a larger budget a run comes through the same machines with the same counts
abbrev pub SameMachines : Type 0
SameMachines = (c : Context) (budget larger steps : ℕ) (g : Progress) → budget ≤ larger →
    (k : ℕ) × (k ≤ steps) × (run c budget steps g ≡ run c larger k g)

-- so a run that ends in anything but spent leaves the same under every larger budget
abbrev pub LargerBudget : Type 0
LargerBudget = (rs : List Range) (rows : List Standing) (a : Advice) (log : Logbook) (plan : List ℤ) (budget larger : ℕ) →
    budget ≤ larger → ((run_end rs rows a log plan budget).ending ≢ Refused Spent) →
    run_end rs rows a log plan larger ≡ run_end rs rows a log plan budget

-- where a free step goes on, and where a move is due nothing is done
abbrev pub coast_by : Acted → Machine → (Machine → Machine) → Machine
coast_by (free next) m onward = onward next
coast_by (halted next) m onward = m
coast_by (moved next) m onward = m

-- at most k steps, as long as they are free
abbrev pub coast : Context → ℕ → Machine → Machine
coast c zero m = m
coast c (suc k) m = coast_by (act c m) m (coast c k)

-- after at most as many free steps as the trail is long and two more, the run has ended or a move is due
abbrev pub SoonDue : Type 0
SoonDue = (c : Context) (m : Machine) →
    let after = coast c (length m.trail + 2) m in
    (is_over after.phase || is_due (act c after)) ≡ true

-- so every run rests after enough steps for its budget, and more of them change nothing
abbrev pub RunRests : Type 0
RunRests = (c : Context) (budget : ℕ) (a : Advice) → length c.ranges ≤ most_unknowns →
    (rests c budget (whole_run c budget a) ≡ true)
    × ((steps : ℕ) → enough_steps budget ≤ steps → run c budget steps (record { at = start c a; made = 0 }) ≡ whole_run c budget a)

-- one of some endings
abbrev pub OneOf : List Ending → Ending → Type 0
OneOf [] e = ⊥
OneOf (x ∷ xs) e = (e ≡ x) ⊎ OneOf xs e

-- a run that is not refused first ends in plan, none, spent, long, wide or log
abbrev pub RunAnswers : Type 0
RunAnswers = (rs : List Range) (rows : List Standing) (a : Advice) (log : Logbook) (plan : List ℤ) (budget : ℕ) →
    begin_answer rs a log plan ≡ Ok tt →
    OneOf (Plan ∷ NoPlan ∷ Refused Spent ∷ Refused Long ∷ Refused Wide ∷ Refused Log ∷ []) (run_end rs rows a log plan budget).ending

-- the moves never pass the budget
abbrev pub MovesWithin : Type 0
MovesWithin = (rs : List Range) (rows : List Standing) (a : Advice) (log : Logbook) (plan : List ℤ) (budget : ℕ) →
    (run_end rs rows a log plan budget).moves ≤ budget

-- spent says that the moves equal the budget
abbrev pub SpentIsBudget : Type 0
SpentIsBudget = (rs : List Range) (rows : List Standing) (a : Advice) (log : Logbook) (plan : List ℤ) (budget : ℕ) →
    length rs ≤ most_unknowns →
    (run_end rs rows a log plan budget).ending ≡ Refused Spent → (run_end rs rows a log plan budget).moves ≡ budget

-- ---- lines

-- More lines: the old ones, followed by others.
pub record Grown (ls more : List Line) : Type 0 where
  pub rest : List Line
  pub is : more ≡ ls ++ rest

-- the machine after a step
abbrev pub after : Acted → Machine
after (free m) = m
after (halted m) = m
after (moved m) = m

-- a step only appends lines
abbrev pub StepAppends : Type 0
StepAppends = (c : Context) (m : Machine) → Grown m.lines (after (act c m)).lines

-- lines written one after another, as long as there is room
abbrev pub written_all : ℕ → List Line → List Line → List Line
written_all capacity [] held = held
written_all capacity (l ∷ ls) held = written_all capacity ls (written_by (nat_le capacity (length held)) l held).1

-- the lines at the start are the base lines, written one after another into an empty log
abbrev pub StartWrites : Type 0
StartWrites = (c : Context) (a : Advice) → (start c a).lines ≡ written_all c.capacity (base_lines c.ranges c.rows) []

-- the log after a run that is not refused first holds the base lines and then others; or there was no room for them, it holds as many as
-- there was room for, and the answer is log without a move
abbrev pub LogAfter : Type 0
LogAfter = (rs : List Range) (rows : List Standing) (a : Advice) (log : Logbook) (plan : List ℤ) (budget : ℕ) →
    begin_answer rs a log plan ≡ Ok tt →
    let end = run_end rs rows a log plan budget in
    let base = base_lines rs (rows_of rows) in
    Grown base end.log.lines
    ⊎ ((log.capacity < length base) × (end.log.lines ≡ take log.capacity base) × (end.ending ≡ Refused Log) × (end.moves ≡ 0))

-- whatever a run ends in, the log is still for the same number of unknowns and has the same capacity
abbrev pub LogSame : Type 0
LogSame = (rs : List Range) (rows : List Standing) (a : Advice) (log : Logbook) (plan : List ℤ) (budget : ℕ) →
    let end = run_end rs rows a log plan budget in
    (end.log.unknowns ≡ log.unknowns) × (end.log.capacity ≡ log.capacity)

-- a row with as many coefficients as the log has unknowns is appended just as a run writes it
abbrev pub AppendWrites : Type 0
AppendWrites = (l : Logbook) (k : Kind) (r : Row) → length r.coefs ≡ l.unknowns →
    ◌≡◌ {A = Written} (append_answer l (entries r), (appended l (fields_of k) (entries r)).lines) (written l.capacity k r l.lines)

-- the tests before a run, of appending to a log, and of a line in a check rise
abbrev pub MoreTestsRise : Type 0
MoreTestsRise =
    ((rs : List Range) (a : Advice) (log : Logbook) (plan : List ℤ) → rising 0 (run_tests rs a log plan) ≡ true)
    × ((log : Logbook) (xs : List ℤ) → rising 0 (append_tests log xs) ≡ true)
    × ((rs : List Range) (rows : List Row) (ls : List Line) (k : Kind) (r : Row) → rising 0 (line_tests rs rows ls k r) ≡ true)

-- ---- advisers

-- the adviser after a run is again an adviser for as many unknowns, with the same rule
abbrev pub AdviceAfter : Type 0
AdviceAfter = (rs : List Range) (rows : List Standing) (a : Advice) (log : Logbook) (plan : List ℤ) (budget : ℕ) →
    Advises a →
    let after = (run_end rs rows a log plan budget).advice in
    Advises after × (advised after ≡ advised a) × (after.rule ≡ a.rule)

-- what is true of the adviser after a step unless it is a move: it is as it was
abbrev pub Untold : Acted → Advice → Type 0
Untold (free n) a = n.advice ≡ a
Untold (halted n) a = n.advice ≡ a
Untold (moved n) a = Unit {0}

-- only a move tells the adviser: where long, wide or log comes in its place, it is not told
abbrev pub OnlyMovesTell : Type 0
OnlyMovesTell = (c : Context) (m : Machine) → Untold (act c m) m.advice

-- an adviser chooses an unknown of its own that is not fixed, and names none of its own only where all are fixed
abbrev pub ChoiceOpen : Type 0
ChoiceOpen = (o : Order) (lows highs : List ℤ) → Orderly o → length lows ≡ length o → length highs ≡ length o →
    ((x : ℕ) (s : Side) → choice o lows highs ≡ Some (x, s) → (x < length o) × (coef lows x ≢ coef highs x))
    × (choice o lows highs ≡ None → (x : ℕ) → x < length o → coef lows x ≡ coef highs x)

-- what it chooses is the first of its order that is not fixed: every pair before it is
abbrev pub ChoiceFirst : Type 0
ChoiceFirst = (o : Order) (lows highs : List ℤ) (x : ℕ) (s : Side) → choice o lows highs ≡ Some (x, s) →
    (front : Order) × ((rest : Order) × ((o ≡ front ++ (x, s) ∷ rest) × AllByRecursion (λ p. coef lows p.0 ≡ coef highs p.0) front))

-- steady and blaming advisers keep to what an adviser is, and so does a turned one over any that does
abbrev pub ThreeAdvise : Type 0
ThreeAdvise = ((m : ℕ) → Advises (steady m)) × ((m : ℕ) → Advises (blaming m)) × ((a : Advice) → Advises a → Advises (turned a))

-- they are for as many unknowns as they are made for
abbrev pub ThreeAdvised : Type 0
ThreeAdvised =
    ((m : ℕ) → advised (steady m) ≡ m) × ((m : ℕ) → advised (blaming m) ≡ m) × ((a : Advice) → advised (turned a) ≡ advised a)

-- the steady adviser is never changed
abbrev pub SteadyStays : Type 0
SteadyStays = (m x : ℕ) → told (steady m) x ≡ steady m

-- turning twice is nothing
abbrev pub TurnedTwice : Type 0
TurnedTwice = (a : Advice) → turned (turned a) ≡ a
