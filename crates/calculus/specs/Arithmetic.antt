-- Whole-number arithmetic: sums, rounding, tests, and the greatest common divisor.
use Rattle.std.specs.Prelude.{ℕ, zero, suc, ◌%◌, Bool, ◌&&◌, List, ℤ, pos, ◌+ℤ◌, neg_ℤ, fold, int_le, nat_le, unsigned_abs}
use Rattle.std.specs.Int.Signed.{shr_z}

-- f 0 + f 1 + .. + f (n - 1)
abbrev pub sum : ℕ → (ℕ → ℤ) → ℤ
sum zero f = pos 0
sum (suc n) f = sum n f +ℤ f n

-- z divided by a number k above 0 and rounded down, never towards zero: -7 by 2 is -4
abbrev pub floor : ℤ → ℕ → ℤ
floor z k = shr_z z k

-- z divided by a number k above 0 and rounded up: 7 by 2 is 4, and -7 by 2 is -3
abbrev pub ceiling : ℤ → ℕ → ℤ
ceiling z k = neg_ℤ (floor (neg_ℤ z) k)

-- z lies from -limit to limit
abbrev pub near : ℕ → ℤ → Bool
near limit z = nat_le (unsigned_abs z) limit

-- two whole numbers are equal: neither is above the other
abbrev pub same_number : ℤ → ℤ → Bool
same_number y z = int_le y z && int_le z y

-- The divisor of a and b is a where b is 0, and else that of b and the remainder of a by b.
-- The first argument only bounds the calls: the second number falls with each, so that b of them are enough.
unfoldable pub divisor_within : ℕ → ℕ → ℕ → ℕ
divisor_within zero a b = a
divisor_within (suc calls) a zero = a
divisor_within (suc calls) a (suc b) = divisor_within calls (suc b) (a % suc b)

-- the greatest common divisor of two numbers
unfoldable pub divisor : ℕ → ℕ → ℕ
divisor a b = divisor_within b a b

-- the greatest common divisor of a list of coefficients; 0 where all of them are 0
abbrev pub common : List ℤ → ℕ
common cs = fold (λ g c. divisor g (unsigned_abs c)) 0 cs
