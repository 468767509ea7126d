use Rattle.std.proofs.Common.{◌≡◌, ◌+◌, ◌≤◌, ◌++◌, length, string_bytes}
use Rattle.day.specs.Day.{outcome}
use Rattle.day.specs.Scripts.{script_outcome}
use Rattle.day.proofs.scripts.run_script.Given as goal

-- what is left of the script goes on as the whole does
abbrev pub invariant-loop-before : goal.invariant-loop-before
invariant-loop-before l =
    (goal.iterator-loop-before).can_next l.before-iterator
    × (goal.iterator-loop-before).is_finite l.before-iterator
    × (l.before-iterator.count + length l.before-iterator.iter ≤ length l.script)
    × (string_bytes l.out ++ (outcome (l.before-iterator.count + 1) l.day l.before-iterator.iter).text ≡ string_bytes l.fn.out ++ (script_outcome l.script).text)
    × ((outcome (l.before-iterator.count + 1) l.day l.before-iterator.iter).stop ≡ (script_outcome l.script).stop)
