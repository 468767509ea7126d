-- How refusals and rows are worded.
use Rattle.std.specs.Prelude.{ℕ, List, ◌∷◌, ◌++◌, ℤ, codes, decimal}
use Rattle.std.specs.List.{flat_map}
use Rattle.std.specs.Fmt.{signed_decimal}
use Rattle.calculus.specs.Refusals.{listed}
use Rattle.calculus.specs.declared.refusals.Refusal.{Refusal}

-- a refusal: its number, a space, and its word
abbrev pub refusal_worded : Refusal → List ℕ
refusal_worded r = decimal (listed r).number ++ (codes " " ++ (listed r).word)

-- a space, and a number
abbrev pub spaced : ℤ → List ℕ
spaced z = 32 ∷ signed_decimal z

-- a row: its label, its coefficients and its constant, with single spaces between
abbrev pub row_worded : ℕ → List ℤ → ℤ → List ℕ
row_worded label cs constant = decimal label ++ (flat_map spaced cs ++ spaced constant)
