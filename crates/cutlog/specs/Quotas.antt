-- What a quota means.
use Rattle.std.specs.Prelude.{ℕ, min}
use Rattle.calculus.specs.Logs.{Logbook}

-- a log under a limit of its own: the room is the less of the two, and nothing else differs
abbrev pub limited : ℕ → Logbook → Logbook
limited limit l = record { unknowns = l.unknowns; capacity = min limit l.capacity; lines = l.lines }
