-- Unknowns in a sequence: what a blaming adviser holds.
use Rattle.std.specs.Prelude.{◌≡◌, ℕ, ◌<◌, List, [], map, length, Some, None, Option, ◌≢◌, slice_index}
use Rattle.calculus.specs.Advice.{Order, Advice, to_front}
use Rattle.calculus.specs.declared.sides.Side.{Side}
use Rattle.calculus.specs.declared.sides.Side.TheVariants.{Low}

-- an unknown on side low
abbrev pub on_low : ℕ → ℕ × Side
on_low x = (x, Low)

-- the order that has them in this sequence, each on side low
abbrev pub lows_of : List ℕ → Order
lows_of names = map on_low names

-- the adviser with that order that moves what it is told to the front
abbrev pub blaming_by : List ℕ → Advice
blaming_by names = record { mind = record { order = lows_of names; memory = [] }; rule = to_front }

-- a place where x stands, or none where it stands nowhere
abbrev pub Placed : ℕ → List ℕ → Option ℕ → Type 0
Placed x names (Some i) = (i < length names) × (slice_index names i ≡ x)
Placed x names None = (i : ℕ) → i < length names → slice_index names i ≢ x
