-- What running a whole script gives.
use Rattle.std.specs.Prelude.{◌≡◌, ℕ, List, ◌++◌, Some, None, Ok, Err, codes, decimal, Result}
use Rattle.script.specs.Faults.{expected_words}
use Rattle.day.specs.Day.{Outcome, outcome, nothing}
use Rattle.day.specs.Lines.{lines}
use Rattle.script.specs.declared.faults.Fault.{Fault}
use Rattle.script.specs.declared.faults.Fault.TheVariants.{Memory as NoMemory, Expected as Awaited}
use Rattle.day.specs.declared.scripts.Stop.{Stop}
use Rattle.day.specs.declared.scripts.Stop.TheVariants.{Memory, Line}

-- the outcome of a script, from its first line and with no draft
abbrev pub script_outcome : List ℕ → Outcome
script_outcome script = outcome 1 nothing (lines script)

-- what was wrong with line n, as why a script stopped there
abbrev pub stop_by : ℕ → Fault → Stop
stop_by n NoMemory = Memory
stop_by n (Awaited e) = Line n e

-- A script was run: its text was printed after what stood before, and it stopped where the outcome says, if it did.
-- Where memory is wanting nothing is known.
abbrev pub Ran : Outcome → List ℕ → Result (Unit {0}) Stop → List ℕ → Type 0
Ran o before (Ok u) after = (o.stop ≡ None) × (after ≡ before ++ o.text)
Ran o before (Err Memory) after = Unit {0}
Ran o before (Err (Line n e)) after = (o.stop ≡ Some (n, e)) × (after ≡ before ++ o.text)

-- the words for why a script stopped
abbrev pub stop_worded : Stop → List ℕ
stop_worded Memory = codes "no memory is left"
stop_worded (Line n e) = codes "line " ++ (decimal n ++ (codes ": expected " ++ expected_words e))
