-- What is printed reads back.
use Rattle.std.proofs.Common.{◌≡◌, ℕ, zero, suc, ◌+◌, ◌-◌, ◌*◌, ◌^◌, ◌<◌, true, false, eqb, List, [], ◌∷◌, length, get_or, ℤ, pos, negsuc, Some, decimal, refl, ap, ◌∙◌, arith}
use lib.Signed.{mag}
use Rattle.std.specs.Int.{saturate_to_bits}
use Rattle.std.specs.Option.{option_map}
use Rattle.std.specs.Char.{digit_value}
use Rattle.std.specs.Str.Parse.{AllDigits, digits_value_after}
use Rattle.std.proofs.lemmas.Fmt.{decimal_is_IsNumeral, decimal_digit, decimal_nonempty, first_decimal}
use Rattle.std.proofs.lemmas.Str.{digit_value_digit}
use Rattle.std.proofs.lemmas.Str.Parse.{digit_from_value}
use Rattle.std.proofs.lemmas.Bool.Decides.{nat_tests}
use Rattle.script.specs.Laws.{ReadsBack, StaysOutside}
use Rattle.script.specs.Numbers.{digit, digits_after, magnitude, below_zero, numeral}

-- a printed digit is one that is read
pub digit_byte : (b : ℕ) → digit_value b < 10 → (digit b ≡ true) × (digit_value b ≡ b - 48)
digit_byte b h =
    let r = digit_from_value b h in
    let v = digit_value_digit b r in
    (grind (arith, nat_tests), omega arith)

digits_read : (m : ℕ) (ds : List ℕ) → AllDigits 10 ds → digits_after m ds ≡ Some (digits_value_after 10 m ds)
digits_read m [] h = refl
digits_read m (d ∷ ds) h =
    let e = digit_byte d h.0 in
    let t = e.0 in
    simp t (digits_read (10 * m + (d - 48)) ds h.1 ∙ ap (λ (n : ℕ). Some (digits_value_after 10 n ds)) (omega (arith, e.1)))

digits_back : (n : ℕ) → n < 2 ^ 64 → digits_after 0 (decimal n) ≡ Some n
digits_back n h = let d = decimal_is_IsNumeral n h in digits_read 0 (decimal n) d.0.1 ∙ ap Some d.1

magnitude_of : (t : List ℕ) → 0 < length t → 48 < get_or t 0 0 → magnitude t ≡ digits_after 0 t
magnitude_of [] h f = absurd (omega arith)
magnitude_of (b ∷ []) h f = refl
magnitude_of (b ∷ c ∷ bs) h f = let e : eqb b 48 ≡ false = grind (arith, nat_tests) in simp e

pub magnitude_back : (n : ℕ) → n < 2 ^ 64 → magnitude (decimal n) ≡ Some n
magnitude_back zero h = ap magnitude (decimal_digit 0 (omega arith))
magnitude_back (suc n) h =
    magnitude_of (decimal (suc n)) (decimal_nonempty (suc n) h) (first_decimal (suc n) (omega arith) h) ∙ digits_back (suc n) h

-- no minus sign
numeral_of : (t : List ℕ) → 0 < length t → 45 < get_or t 0 0 → numeral t ≡ option_map pos (magnitude t)
numeral_of [] h f = absurd (omega arith)
numeral_of (b ∷ bs) h f = let e : eqb b 45 ≡ false = grind (arith, nat_tests) in simp e

first_of : (n : ℕ) → n < 2 ^ 64 → 45 < get_or (decimal n) 0 0
first_of zero h = let e = ap (λ (l : List ℕ). get_or l 0 0) (decimal_digit 0 (omega arith)) in omega arith
first_of (suc n) h = omega (arith, first_decimal (suc n) (omega arith) h)

pub reads_back : ReadsBack
reads_back (pos n) h =
    numeral_of (decimal n) (decimal_nonempty n (omega arith)) (first_of n (omega arith)) ∙ ap (option_map pos) (magnitude_back n (omega arith))
reads_back (negsuc n) h = ap below_zero (magnitude_back (suc n) (omega arith))

pub stays_outside : StaysOutside
stays_outside h limit (pos n) l = grind (arith, nat_tests)
stays_outside h limit (negsuc n) l = grind (arith, nat_tests)

-- a number that its type holds is taken as it is
pub held : (h : ℕ) (z : ℤ) → mag z < 2 ^ h → saturate_to_bits h z ≡ z
held h (pos n) l = ap pos (omega arith)
held h (negsuc n) l = ap negsuc (omega arith)
