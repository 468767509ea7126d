-- The number that a word writes, if it writes one.
use Rattle.std.specs.Prelude.{ℕ, zero, suc, ◌+◌, ◌-◌, ◌*◌, Bool, cond, ◌&&◌, List, [], ◌∷◌, ℤ, pos, negsuc, Some, None, Option, ◌==◌, nat_le}
use Rattle.std.specs.Int.{saturate_to_bits}
use Rattle.std.specs.Option.{option_map}

-- a byte from `0` (48) to `9` (57)
abbrev pub digit : ℕ → Bool
digit b = nat_le 48 b && nat_le b 57

-- the number that decimal digits write after those that wrote n; none where a byte is no digit
abbrev pub digits_after : ℕ → List ℕ → Option ℕ
digits_after n [] = Some n
digits_after n (b ∷ bs) = cond (digit b) (digits_after (10 * n + (b - 48)) bs) None

-- the number that a word of digits writes: at least one digit, and the first of several is not `0` (48)
abbrev pub magnitude : List ℕ → Option ℕ
magnitude [] = None
magnitude (b ∷ []) = digits_after 0 (b ∷ [])
magnitude (b ∷ c ∷ bs) = cond (b == 48) None (digits_after 0 (b ∷ c ∷ bs))

-- the number after a minus sign, which stands before a number that is not 0
abbrev pub below_zero : Option ℕ → Option ℤ
below_zero None = None
below_zero (Some zero) = None
below_zero (Some (suc n)) = Some (negsuc n)

-- the number that a word writes: digits, with a minus sign (45) or nothing before them
abbrev pub numeral : List ℕ → Option ℤ
numeral [] = None
numeral (b ∷ bs) = cond (b == 45) (below_zero (magnitude bs)) (option_map pos (magnitude (b ∷ bs)))

-- the number of 64 bits with sign that is nearest to the word's
abbrev pub nearest_i64 : List ℕ → Option ℤ
nearest_i64 word = option_map (saturate_to_bits 63) (numeral word)

-- the number of 32 bits with sign that is nearest to the word's
abbrev pub nearest_i32 : List ℕ → Option ℤ
nearest_i32 word = option_map (saturate_to_bits 31) (numeral word)

-- a label is a number from 0 to 255
abbrev pub as_label : Option ℤ → Option ℕ
as_label None = None
as_label (Some (pos n)) = cond (nat_le n 255) (Some n) None
as_label (Some (negsuc n)) = None

-- the label that a word writes
abbrev pub label_of : List ℕ → Option ℕ
label_of word = as_label (numeral word)
