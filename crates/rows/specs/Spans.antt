-- What is a fact of the range of every declared unknown.
use Rattle.std.specs.Prelude.{◌≤◌, ◌≤ℤ◌, unsigned_abs}
use Rattle.calculus.specs.Limits.{end_limit}
use Rattle.calculus.specs.declared.ranges.Range.{Range}

-- low is at most high
abbrev pub InOrder : Range → Type 0
InOrder r = r.low ≤ℤ r.high

-- both ends are within their limits
abbrev pub Near : Range → Type 0
Near r = (unsigned_abs r.low ≤ end_limit) × (unsigned_abs r.high ≤ end_limit)
