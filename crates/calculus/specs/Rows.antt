-- Ranges, rows, what it means to meet them, reduced forms and doubles.
use Rattle.std.specs.Prelude.{ℕ, max, Bool, true, false, ◌&&◌, List, [], ◌∷◌, map, length, ℤ, pos, ◌+ℤ◌, ◌*ℤ◌, ◌≤ℤ◌, slice_index_or}
use Rattle.std.specs.List.{AllByRecursion, list_any}
use Rattle.calculus.specs.Arithmetic.{sum, floor, ceiling, common, same_number}
use Rattle.calculus.specs.declared.ranges.Range.{Range}

-- A row: its coefficients, one for each unknown, and apart its constant.
pub record Row : Type 0 where
  pub coefs : List ℤ
  pub constant : ℤ

-- A standing row: the row as it was added, under its label.
pub record Standing : Type 0 where
  pub label : ℕ
  pub row : Row

-- the number at place i of a list of coefficients or values, 0 past its end
abbrev pub coef : List ℤ → ℕ → ℤ
coef cs i = slice_index_or cs i (pos 0)

-- the value of a row at an assignment: the sum of coefficient times unknown, plus the constant
abbrev pub value : List ℤ → Row → ℤ
value xs r = sum (length xs) (λ i. coef r.coefs i *ℤ coef xs i) +ℤ r.constant

-- an assignment meets a row: the row's value is at most 0
abbrev pub Meets : List ℤ → Row → Type 0
Meets xs r = value xs r ≤ℤ pos 0

-- an assignment meets every standing row
abbrev pub MeetsAll : List ℤ → List Standing → Type 0
MeetsAll xs rows = AllByRecursion (λ s. Meets xs s.row) rows

-- an assignment has one value for each range, and each lies in its range, both ends included
abbrev pub Within : List Range → List ℤ → Type 0
Within [] [] = Unit {0}
Within [] (x ∷ xs) = ⊥
Within (r ∷ rs) [] = ⊥
Within (r ∷ rs) (x ∷ xs) = (r.low ≤ℤ x) × (x ≤ℤ r.high) × Within rs xs

-- what a row is divided by: the greatest common divisor of its coefficients, and 1 where all of them are 0
abbrev pub row_divisor : List ℤ → ℕ
row_divisor cs = max 1 (common cs)

-- a row divided by k: each coefficient (they must divide), and the constant rounded up
abbrev pub cut : ℕ → Row → Row
cut k r = record { coefs = map (λ c. floor c k) r.coefs; constant = ceiling r.constant k }

-- the reduced form: coefficients divided by the row's divisor (they divide), the constant too and rounded up
abbrev pub reduced : Row → Row
reduced r = record {
  coefs = map (λ c. floor c (row_divisor r.coefs)) r.coefs;
  constant = ceiling r.constant (row_divisor r.coefs);
}

-- two lists of numbers are equal
abbrev pub same_numbers : List ℤ → List ℤ → Bool
same_numbers [] [] = true
same_numbers [] (d ∷ ds) = false
same_numbers (c ∷ cs) [] = false
same_numbers (c ∷ cs) (d ∷ ds) = same_number c d && same_numbers cs ds

-- two rows are equal
abbrev pub same_row : Row → Row → Bool
same_row p q = same_numbers p.coefs q.coefs && same_number p.constant q.constant

-- one row is a double of the other: their reduced forms are equal, whatever the labels
abbrev pub double : Standing → Standing → Bool
double s t = same_row (reduced s.row) (reduced t.row)

-- a double of s stands among the rows
abbrev pub doubled : List Standing → Standing → Bool
doubled rows s = list_any (λ t. double t s) rows
