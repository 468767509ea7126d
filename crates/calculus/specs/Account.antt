-- The account of a day: what stands, by the ranges and the arguments of each call alone.
use Rattle.std.specs.Prelude.{ℕ, Bool, true, false, not, ◌||◌, List, [], ◌∷◌, ◌++◌, length, take, ℤ, Ok, Err, Result, ◌==◌, int_lt, nat_le}
use Rattle.std.specs.List.{list_any}
use Rattle.calculus.specs.Arithmetic.{near}
use Rattle.calculus.specs.Limits.{most_unknowns, most_rows, most_marks, end_limit, added_coefficient_limit, added_constant_limit}
use Rattle.calculus.specs.Rows.{Standing, doubled}
use Rattle.calculus.specs.declared.ranges.Range.{Range}
use Rattle.calculus.specs.declared.refusals.Refusal.{Refusal}
use Rattle.calculus.specs.declared.refusals.Refusal.TheVariants.{Shape, Range as BadRange, Weight, Label, Double, Full, Marks, Unmarked}

-- The ranges of the unknowns, the rows that stand in the order added, and the marks, newest first: each is the number of
-- rows that stood when it was set.
pub record Account : Type 0 where
  pub ranges : List Range
  pub rows : List Standing
  pub marks : List ℕ

-- A refusal with the test that says whether it applies.
pub record Test : Type 0 where
  pub applies : Bool
  pub refusal : Refusal

-- a refusal that applies where a test holds
abbrev pub when : Bool → Refusal → Test
when b r = record { applies = b; refusal = r }

-- a refusal where its test holds, and else whatever the others give
abbrev pub refused_by : {A : Type 0} → Bool → Refusal → Result A Refusal → Result A Refusal
refused_by true r others = Err r
refused_by false r others = others

-- the answer of a call: the first refusal that applies, and where none does what the call gives
abbrev pub answered : {A : Type 0} → List Test → A → Result A Refusal
answered [] given = Ok given
answered (t ∷ ts) given = refused_by t.applies t.refusal (answered ts given)

-- what a call leaves: something new where it is taken, and everything as found where it is refused
abbrev pub left : {A B : Type 0} → Result A Refusal → B → B → B
left (Ok given) new found = new
left (Err r) new found = found

-- an end of a range outside its limits, or low above high
abbrev pub bad_range : ℤ → ℤ → Bool
bad_range low high = int_lt high low || (not (near end_limit low) || not (near end_limit high))

-- some coefficient lies outside its limits
abbrev pub heavy : List ℤ → Bool
heavy cs = list_any (λ c. not (near added_coefficient_limit c)) cs

-- ---- the draft: ranges alone

-- declaring an unknown: the tests in the order of their numbers
abbrev pub declare_tests : List Range → ℤ → ℤ → List Test
declare_tests ranges low high =
    when (nat_le most_unknowns (length ranges)) Shape ∷ when (bad_range low high) BadRange ∷ []

-- what declaring is answered: the unknown's number, from 0
abbrev pub declare_answer : List Range → ℤ → ℤ → Result ℕ Refusal
declare_answer ranges low high = answered (declare_tests ranges low high) (length ranges)

-- the ranges after it: one more, or as found
abbrev pub declared : List Range → ℤ → ℤ → List Range
declared ranges low high =
    left (declare_answer ranges low high) (ranges ++ record { low = low; high = high } ∷ []) ranges

-- ---- the settled ticket

-- no row and no mark stands at settling
abbrev pub settled : List Range → Account
settled ranges = record { ranges = ranges; rows = []; marks = [] }

-- a row under its label, as it is added
abbrev pub standing : ℕ → List ℤ → ℤ → Standing
standing label cs k = record { label = label; row = record { coefs = cs; constant = k } }

-- adding a row: the tests in the order of their numbers
abbrev pub add_tests : Account → ℕ → List ℤ → ℤ → List Test
add_tests a label cs k =
    when (not (length cs == length a.ranges)) Shape
    ∷ when (heavy cs || not (near added_constant_limit k)) Weight
    ∷ when (label == 0) Label
    ∷ when (doubled a.rows (standing label cs k)) Double
    ∷ when (nat_le most_rows (length a.rows)) Full
    ∷ []

-- what adding a row is answered
abbrev pub add_answer : Account → ℕ → List ℤ → ℤ → Result (Unit {0}) Refusal
add_answer a label cs k = answered (add_tests a label cs k) tt

-- one row more, after the others
abbrev pub with_row : Account → Standing → Account
with_row a s = record { ranges = a.ranges; rows = a.rows ++ s ∷ []; marks = a.marks }

-- the account after an add
abbrev pub added : Account → ℕ → List ℤ → ℤ → Account
added a label cs k = left (add_answer a label cs k) (with_row a (standing label cs k)) a

-- what a mark is answered: it is refused where as many stand as may
abbrev pub mark_answer : Account → Result (Unit {0}) Refusal
mark_answer a = answered (when (nat_le most_marks (length a.marks)) Marks ∷ []) tt

-- one mark more, at the rows that stand
abbrev pub with_mark : Account → Account
with_mark a = record { ranges = a.ranges; rows = a.rows; marks = length a.rows ∷ a.marks }

-- the account after a mark
abbrev pub marked : Account → Account
marked a = left (mark_answer a) (with_mark a) a

-- nothing stands in a list
abbrev pub empty : List ℕ → Bool
empty [] = true
empty (k ∷ ks) = false

-- what a return is answered: it is refused where no mark stands
abbrev pub return_answer : Account → Result (Unit {0}) Refusal
return_answer a = answered (when (empty a.marks) Unmarked ∷ []) tt

-- the first rows alone, as many as the newest mark noted, and the older marks
abbrev pub returned_to : List ℕ → Account → Account
returned_to [] a = a
returned_to (rows ∷ older) a = record { ranges = a.ranges; rows = take rows a.rows; marks = older }

-- the account after a return
abbrev pub returned : Account → Account
returned a = left (return_answer a) (returned_to a.marks a) a
