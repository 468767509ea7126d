-- Multiples of a number among the whole numbers, by remainder and by quotient.
-- It rests on `Ints` and `Resolving`.
use Rattle.std.proofs.Common.{◌≡◌, ℕ, ◌+◌, ◌%◌, ◌<◌, Bool, true, false, eqb, List, ℤ, pos, ◌+ℤ◌, ◌*ℤ◌, nat_abs, sym, refl, ap, ◌∙◌, arith, eq-eqb}
use Rattle.std.proofs.lemmas.Bool.Decides.{nat_tests}
use Rattle.std.proofs.lemmas.List.Recursion.{and_from_places}
use Rattle.std.proofs.lemmas.Int.{unsigned_abs-mul, ints}
use Rattle.std.proofs.lemmas.Nat.Gcd.{dvd_of_mod-eq-zero}
use Rattle.std.proofs.Math.Nat.{mul-mod_right}
use Rattle.calculus.specs.Advice.{turned_side}
use Rattle.calculus.specs.Arithmetic.{floor}
use Rattle.calculus.specs.Bounds.{here_or}
use Rattle.calculus.specs.Checking.{all_divide}
use Rattle.calculus.specs.Rows.{coef}
use Rattle.calculus.specs.Tightening.{matches, lacking, left_open}
use Rattle.calculus.specs.declared.sides.Side.{Side}
use Rattle.calculus.proofs.Ints.{distrib, floor_times, lacking_fills, quotient}
use Rattle.calculus.proofs.Resolving.{unit, by_match}

-- z is a multiple of d.
pub record Multiple (d : ℕ) (z : ℤ) : Type 0 where
  pub by : ℤ
  pub is : z ≡ pos d *ℤ by

pub multiple_zero : (d : ℕ) → Multiple d (pos 0)
multiple_zero d = record { by = pos 0; is = omega (arith, ints) }

pub multiple_plus : (d : ℕ) (a b : ℤ) → Multiple d a → Multiple d b → Multiple d (a +ℤ b)
multiple_plus d a b p q =
    record { by = p.by +ℤ q.by; is = (λ i. p.is i +ℤ q.is i) ∙ sym (distrib (pos d) p.by q.by) }

-- by the remainder of the absolute value
pub multiple_mod : (d : ℕ) (z : ℤ) → nat_abs z % d ≡ 0 → Multiple d z
multiple_mod d z h = let q = quotient d z (dvd_of_mod-eq-zero d h) in record { by = q.0; is = q.1 }

pub mod_multiple : (d : ℕ) (z : ℤ) → Multiple d z → nat_abs z % d ≡ 0
mod_multiple d z m =
    ap (λ (k : ℤ). nat_abs k % d) m.is ∙ ap (λ (k : ℕ). k % d) (unsigned_abs-mul (pos d) m.by) ∙ mul-mod_right d (nat_abs m.by)

-- dividing a multiple and multiplying again
pub multiple_floor : (d : ℕ) (z : ℤ) → 0 < d → Multiple d z → pos d *ℤ floor z d ≡ z
multiple_floor d z l m =
    ap (λ (k : ℤ). pos d *ℤ floor k d) m.is ∙ ap (λ (k : ℤ). pos d *ℤ k) (floor_times m.by d l) ∙ sym m.is

-- coefficients that all divide pass the test
pub divide_test : (d : ℕ) (cs : List ℤ) → ((i : ℕ) → Multiple d (coef cs i)) → all_divide d cs ≡ true
divide_test d cs h =
    and_from_places (all_divide d) (λ c. eqb (nat_abs c % d) 0) refl (λ _ _. refl) cs (pos 0)
    (λ i l. eq-eqb (nat_abs (coef cs i) % d) 0 (mod_multiple d (coef cs i) (h i)))

-- ---- in tightening

-- a matching coefficient and so many of its partner's make a multiple
pub filled : (s : Side) (d : ℕ) (c : ℤ) → 0 < d → matches s c ≡ true → Multiple d (c +ℤ pos (lacking d c) *ℤ unit (turned_side s))
filled s d c l m = multiple_mod d _ (ap (λ (k : ℕ). k % d) (grows s c (lacking d c) m) ∙ lacking_fills d (nat_abs c) l)
  where
    grows : (s : Side) (c : ℤ) (k : ℕ) → matches s c ≡ true → nat_abs (c +ℤ pos k *ℤ unit (turned_side s)) ≡ nat_abs c + k
    grows s c k m =
        by_match (λ s c. nat_abs (c +ℤ pos k *ℤ unit (turned_side s)) ≡ nat_abs c + k) (λ a. omega (arith, ints))
        (λ a. omega (arith, ints)) s c m

-- a coefficient is left open whole, or it is a multiple and set aside whole
pub data Opened (d : ℕ) (c : ℤ) : Type 0 where
  stays : left_open d c ≡ c → Opened d c
  goes : left_open d c ≡ pos 0 → Multiple d c → Opened d c

pub opened : (d : ℕ) (c : ℤ) → Opened d c
opened d c = by (eqb (nat_abs c % d) 0) refl
  where
    by : (b : Bool) → eqb (nat_abs c % d) 0 ≡ b → Opened d c
    by true h = goes (ap (λ (b : Bool). here_or b (pos 0) c) h) (multiple_mod d c (grind (arith, nat_tests)))
    by false h = stays (ap (λ (b : Bool). here_or b (pos 0) c) h)
