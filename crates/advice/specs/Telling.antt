-- Telling an adviser what it chose.
use Rattle.std.specs.Prelude.{ℕ, ◌<◌, List, ℤ, Some, None, Option, ◌≢◌}
use Rattle.calculus.specs.Advice.{Advice, told}
use Rattle.calculus.specs.Rows.{coef}
use Rattle.calculus.specs.declared.sides.Side.{Side}

-- the adviser after being told the unknown of a choice, and as it was where there is none
abbrev pub told_choice : Advice → Option (ℕ × Side) → Advice
told_choice a None = a
told_choice a (Some p) = told a p.0

-- a choice is one of the unknowns, and not a fixed one
abbrev pub Open : ℕ → List ℤ → List ℤ → Option (ℕ × Side) → Type 0
Open m lows highs None = Unit {0}
Open m lows highs (Some p) = (p.0 < m) × (coef lows p.0 ≢ coef highs p.0)
