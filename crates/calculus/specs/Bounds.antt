-- Present lows and highs, the least value of a row, failing, and better bounds.
use Rattle.std.specs.Prelude.{ℕ, zero, suc, Bool, true, false, ◌&&◌, List, [], ◌∷◌, length, ℤ, pos, negsuc, ◌+ℤ◌, ◌*ℤ◌, neg_ℤ, None, Option, ◌==◌, int_le, int_lt, slice_index_or, slice_set}
use Rattle.calculus.specs.Arithmetic.{sum, floor, ceiling}
use Rattle.calculus.specs.Rows.{Row, coef}
use Rattle.calculus.specs.Tables.{table, picked, first_place, first_answer}
use Rattle.calculus.specs.declared.ranges.Range.{Range}
use Rattle.calculus.specs.declared.sides.Side.{Side}
use Rattle.calculus.specs.declared.sides.Side.TheVariants.{Low, High}
use Rattle.calculus.specs.declared.trails.Bound.{Bound}
use Rattle.calculus.specs.declared.trails.Entry.{Entry}

-- A trail: its entries, newest first.
abbrev pub Trail : Type 0
Trail = List Entry

-- two sides are the same
abbrev pub same_side : Side → Side → Bool
same_side Low Low = true
same_side Low High = false
same_side High Low = false
same_side High High = true

-- an entry bounds x on side s
abbrev pub on : Side → ℕ → Entry → Bool
on s x e = same_side s e.side && x == e.unknown

-- a value here where a test holds, and else one from below
abbrev pub here_or : {Y : Type 0} → Bool → Y → Y → Y
here_or true here below = here
here_or false here below = below

-- the value of the newest entry on x of side s, and where there is none the end of the range
abbrev pub newest : Side → ℕ → ℤ → Trail → ℤ
newest s x range [] = range
newest s x range (e ∷ t) = here_or (on s x e) e.bound (newest s x range t)

-- the range of x
abbrev pub range_at : List Range → ℕ → Range
range_at rs x = slice_index_or rs x (record { low = pos 0; high = pos 0 })

-- the present low and high of x
abbrev pub low : List Range → Trail → ℕ → ℤ
low rs t x = newest Low x (range_at rs x).low t

abbrev pub high : List Range → Trail → ℕ → ℤ
high rs t x = newest High x (range_at rs x).high t

-- all present lows and highs, in the order of the unknowns
abbrev pub lows : List Range → Trail → List ℤ
lows rs t = table (low rs t) (length rs)

abbrev pub highs : List Range → Trail → List ℤ
highs rs t = table (high rs t) (length rs)

-- the least value of a times x, where x runs from lo to hi
abbrev pub term : ℤ → ℤ → ℤ → ℤ
term (pos a) lo hi = pos a *ℤ lo
term (negsuc a) lo hi = negsuc a *ℤ hi

-- the least value of a row of n unknowns under lows and highs, each read by unknown
abbrev pub least : ℕ → (ℕ → ℤ) → (ℕ → ℤ) → Row → ℤ
least n lo hi r = sum n (λ x. term (coef r.coefs x) (lo x) (hi x)) +ℤ r.constant

-- a row fails where its least value is above 0
abbrev pub fails : ℕ → (ℕ → ℤ) → (ℕ → ℤ) → Row → Bool
fails n lo hi r = int_lt (pos 0) (least n lo hi r)

-- a row without its term of x
abbrev pub without : ℕ → Row → Row
without x r = record { coefs = slice_set r.coefs x (pos 0); constant = r.constant }

-- a bound from above is better where low <= bound < high
abbrev pub above : ℤ → ℤ → ℤ → Option Bound
above lo hi v = picked (int_le lo v && int_lt v hi) (record { side = High; value = v })

-- a bound from below is better where low < bound <= high
abbrev pub below : ℤ → ℤ → ℤ → Option Bound
below lo hi v = picked (int_lt lo v && int_le v hi) (record { side = Low; value = v })

-- the better bound on an unknown, if there is one, of a row with coefficient a there and this least value of the rest:
-- -rest / a rounded down from above where a is above 0, rest / -a rounded up from below where a is below 0
abbrev pub bounded : ℤ → ℤ → ℤ → ℤ → Option Bound
bounded (pos zero) rest lo hi = None
bounded (pos (suc a)) rest lo hi = above lo hi (floor (neg_ℤ rest) (suc a))
bounded (negsuc a) rest lo hi = below lo hi (ceiling rest (suc a))

-- the better bound of a row on x
abbrev pub better : ℕ → (ℕ → ℤ) → (ℕ → ℤ) → Row → ℕ → Option Bound
better n lo hi r x = bounded (coef r.coefs x) (least n lo hi (without x r)) (lo x) (hi x)

-- the row at a place; past the last place a row without coefficients and with constant 0
abbrev pub row_at : List Row → ℕ → Row
row_at rows p = slice_index_or rows p (record { coefs = []; constant = pos 0 })

-- a row fails under ranges and a trail
abbrev pub fails_under : List Range → Trail → Row → Bool
fails_under rs t r = fails (length rs) (low rs t) (high rs t) r

-- the better bound of a row on x under ranges and a trail
abbrev pub better_under : List Range → Trail → Row → ℕ → Option Bound
better_under rs t r x = better (length rs) (low rs t) (high rs t) r x

-- the place of the first row that fails
abbrev pub conflict : List Range → List Row → Trail → Option ℕ
conflict rs rows t = first_place (λ p. fails_under rs t (row_at rows p)) 0 (length rows)

-- the lowest unknown that a row bounds better, with the bound
abbrev pub lowest : List Range → Trail → Row → Option (ℕ × Bound)
lowest rs t r = first_answer (better_under rs t r) 0 (length rs)

-- the first row that bounds an unknown better: its place, with its lowest such unknown and the bound
abbrev pub propagating : List Range → List Row → Trail → Option (ℕ × (ℕ × Bound))
propagating rs rows t = first_answer (λ p. lowest rs t (row_at rows p)) 0 (length rows)
