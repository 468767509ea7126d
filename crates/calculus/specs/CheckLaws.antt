-- What a check answers, in the subject's words. A function of src/laws.rt names these laws, so that each is proved.
use Rattle.std.specs.Prelude.{◌≡◌, ℕ, ◌<◌, true, false, List, length, take, Some, None, Err, ◌≢◌}
use Rattle.calculus.specs.Checking.{judged, Justified, closes, check_end, CarriedBy}
use Rattle.calculus.specs.Logs.{Logbook, line_at}
use Rattle.calculus.specs.Promises.{AllJustified}
use Rattle.calculus.specs.Rows.{Standing}
use Rattle.calculus.specs.Runs.{rows_of}
use Rattle.calculus.specs.declared.endings.Objection.TheVariants.{Misfit, Wrong, Open}
use Rattle.calculus.specs.declared.ranges.Range.{Range}
use Rattle.calculus.specs.declared.refusals.Refusal.{Refusal}

-- a check accepts a log just where it is for as many unknowns, every line is justified, and the last one contradicts; then there is a
-- number for the acceptance to carry
abbrev pub AcceptsRight : Type 0
AcceptsRight = (rs : List Range) (rows : List Standing) (log : Logbook) →
    (check_end rs rows log ≡ None → (log.unknowns ≡ length rs) × AllJustified rs rows log.lines × (closes log.lines ≡ true))
    × (log.unknowns ≡ length rs → AllJustified rs rows log.lines → closes log.lines ≡ true → check_end rs rows log ≡ None)
    × (check_end rs rows log ≡ None → CarriedBy log.lines (length log.lines))

-- a check objects misfit only to a log for another number of unknowns
abbrev pub MisfitIs : Type 0
MisfitIs = (rs : List Range) (rows : List Standing) (log : Logbook) → check_end rs rows log ≡ Some Misfit → log.unknowns ≢ length rs

-- a line that it finds wrong is held and has that refusal, and every line before it is justified
abbrev pub FirstWrong : Type 0
FirstWrong = (rs : List Range) (rows : List Standing) (log : Logbook) (r : Refusal) (t : ℕ) →
    check_end rs rows log ≡ Some (Wrong r t) →
    (t < length log.lines)
    × (judged rs (rows_of rows) (take t log.lines) (line_at log.lines t) ≡ Err r)
    × ((q : ℕ) → q < t → Justified rs (rows_of rows) (take q log.lines) (line_at log.lines q))

-- open carries the lines held; every line is justified, and the last one, if there is one, does not contradict
abbrev pub OpenIs : Type 0
OpenIs = (rs : List Range) (rows : List Standing) (log : Logbook) (held : ℕ) → check_end rs rows log ≡ Some (Open held) →
    (held ≡ length log.lines) × AllJustified rs rows log.lines × (closes log.lines ≡ false)
