-- Advisers: what one means, what it chooses, and what being told makes of it.
use Rattle.std.specs.Prelude.{◌≡◌, ℕ, ◌+◌, ◌<◌, Bool, true, false, cond, ◌&&◌, List, [], ◌∷◌, ◌++◌, map, length, ℤ, Some, None, Option, ◌==◌, nat_lt}
use Rattle.calculus.specs.Arithmetic.{same_number}
use Rattle.calculus.specs.Rows.{coef}
use Rattle.calculus.specs.Tables.{table}
use Rattle.calculus.specs.declared.sides.Side.{Side}
use Rattle.calculus.specs.declared.sides.Side.TheVariants.{Low, High}

-- An order: unknowns, each with a side.
abbrev pub Order : Type 0
Order = List (ℕ × Side)

-- What an adviser has in mind: its order, and its memory, which is empty unless its kind keeps one.
pub record Mind : Type 0 where
  pub order : Order
  pub memory : List ℕ

-- An adviser: its mind, and its kind's rule, which never changes and makes of a mind and a told unknown the next mind.
pub record Advice : Type 0 where
  pub mind : Mind
  pub rule : Mind → ℕ → Mind

-- how many unknowns an adviser is for
abbrev pub advised : Advice → ℕ
advised a = length a.mind.order

-- how often an order names x
abbrev pub named : ℕ → Order → ℕ
named x [] = 0
named x (p ∷ o) = cond (x == p.0) 1 0 + named x o

-- an order of length m names each of 0, 1, .. m - 1 once, and nothing else
abbrev pub Orderly : Order → Type 0
Orderly o = (x : ℕ) → named x o ≡ cond (nat_lt x (length o)) 1 0

-- a rule makes of an order for m unknowns, and one of them, again an order for m
abbrev pub Keeps : (Mind → ℕ → Mind) → Type 0
Keeps rule = (s : Mind) (x : ℕ) → Orderly s.order → x < length s.order →
    (length (rule s x).order ≡ length s.order) × Orderly (rule s x).order

-- what every adviser keeps to
pub record Advises (a : Advice) : Type 0 where
  pub orderly : Orderly a.mind.order
  pub keeps : Keeps a.rule

-- a pair of the order unless its unknown is fixed, and then what the later ones give
abbrev pub open_or : Bool → ℕ × Side → Option (ℕ × Side) → Option (ℕ × Side)
open_or true p later = later
open_or false p later = Some p

-- the first pair of an order whose unknown is not fixed: its low and high differ
abbrev pub first_open : Order → List ℤ → List ℤ → Option (ℕ × Side)
first_open [] lows highs = None
first_open (p ∷ o) lows highs = open_or (same_number (coef lows p.0) (coef highs p.0)) p (first_open o lows highs)

-- an answer only where a test holds
abbrev pub only_if : {Y : Type 0} → Bool → Option Y → Option Y
only_if true o = o
only_if false o = None

-- what an adviser answers, asked with the present lows and highs: the first of its order that is not fixed; no choice where all are, or
-- where a list has another length than the order
abbrev pub choice : Order → List ℤ → List ℤ → Option (ℕ × Side)
choice o lows highs = only_if (length lows == length o && length highs == length o) (first_open o lows highs)

-- a mind after being told of an unknown: by the rule where the unknown is one of its own
abbrev pub told_by : Bool → (Mind → ℕ → Mind) → Mind → ℕ → Mind
told_by true rule s x = rule s x
told_by false rule s x = s

-- the mind after being told
abbrev pub told_mind : (Mind → ℕ → Mind) → Mind → ℕ → Mind
told_mind rule s x = told_by (nat_lt x (length s.order)) rule s x

-- the adviser after being told: its rule stays
abbrev pub told : Advice → ℕ → Advice
told a x = record { mind = told_mind a.rule a.mind x; rule = a.rule }

-- by number, all on side low, and nothing remembered
abbrev pub by_number : ℕ → Mind
by_number m = record { order = table (λ x. (x, Low)) m; memory = [] }

-- the steady adviser for m unknowns: being told changes nothing
abbrev pub steady : ℕ → Advice
steady m = record { mind = by_number m; rule = λ s x. s }

-- the pairs of an order that name x
abbrev pub naming : ℕ → Order → Order
naming x [] = []
naming x (p ∷ o) = cond (x == p.0) (p ∷ naming x o) (naming x o)

-- the pairs of an order that name another unknown than x
abbrev pub others : ℕ → Order → Order
others x [] = []
others x (p ∷ o) = cond (x == p.0) (others x o) (p ∷ others x o)

-- x moves to the front with its side, and the others stay in their sequence
abbrev pub to_front : Mind → ℕ → Mind
to_front s x = record { order = naming x s.order ++ others x s.order; memory = s.memory }

-- the blaming adviser for m unknowns: it begins as the steady one, and moves what it is told to the front
abbrev pub blaming : ℕ → Advice
blaming m = record { mind = by_number m; rule = to_front }

-- the other side
abbrev pub turned_side : Side → Side
turned_side Low = High
turned_side High = Low

-- the other side of one pair
abbrev pub turned_pair : ℕ × Side → ℕ × Side
turned_pair p = (p.0, turned_side p.1)

-- each side of an order turned
abbrev pub turned_mind : Mind → Mind
turned_mind s = record { order = map turned_pair s.order; memory = s.memory }

-- the turned adviser over another: the other's order with each side turned, its memory, and its rule told within
abbrev pub turned : Advice → Advice
turned a = record { mind = turned_mind a.mind; rule = λ s x. turned_mind (a.rule (turned_mind s) x) }
