-- The greatest common divisor: its two equations, and what it divides.
-- It rests on `Ints`.
use Rattle.std.proofs.Common.{◌≡◌, ℕ, zero, suc, ◌%◌, ◌<◌, ◌≤◌, max, List, [], ◌∷◌, ℤ, pos, nat_abs, fold, refl, ap, ◌∙◌, le_refl, not-suc-le-zero, mod-lt, arith}
use Prim.Native.Nat.{◌∣◌}
use Rattle.std.specs.Int.{IsGcd}
use Rattle.std.proofs.lemmas.Nat.Gcd.{dvd_refl, dvd-zero, dvd_trans, IsGcd-from_zero, IsGcd-from_mod, same_from_IsGcd}
use Rattle.std.specs.List.{AllByRecursion}
use Rattle.std.proofs.ByRecursion.{All-weaker}
use Rattle.calculus.specs.Arithmetic.{divisor_within, divisor, common}
use Rattle.calculus.specs.Rows.{row_divisor}
use Rattle.calculus.proofs.Ints.{max_one}

-- calls enough for the second number give the greatest common divisor
gcd_within : (calls a b : ℕ) → b ≤ calls → IsGcd a b (divisor_within calls a b)
unfolding divisor_within
gcd_within zero a zero h = IsGcd-from_zero a 0 refl
gcd_within zero a (suc b) h = absurd (not-suc-le-zero h)
gcd_within (suc m) a zero h = IsGcd-from_zero a 0 refl
gcd_within (suc m) a (suc b) h =
    let l : a % suc b < suc b = mod-lt a (omega arith) in
    IsGcd-from_mod a (suc b) _ (gcd_within m (suc b) (a % suc b) (omega arith))

is_gcd : (a b : ℕ) → IsGcd a b (divisor a b)
unfolding divisor
is_gcd a b = gcd_within b a b (le_refl b)

pub divisor_zero : (a : ℕ) → divisor a 0 ≡ a
unfolding divisor divisor_within
divisor_zero a = refl

pub divisor_step : (a b : ℕ) → 0 < b → divisor a b ≡ divisor b (a % b)
divisor_step a b h = same_from_IsGcd a b _ _ (is_gcd a b) (IsGcd-from_mod a b _ (is_gcd b (a % b)))

pub divides_both : (a b : ℕ) → (divisor a b ∣ a) × (divisor a b ∣ b)
divides_both a b = let g = is_gcd a b in (g.0, g.1)

pub greatest : (d a b : ℕ) → d ∣ a → d ∣ b → d ∣ divisor a b
greatest d a b p q = (is_gcd a b).2 d p q

-- the common divisor of a list, from a number on
abbrev onward : ℕ → List ℤ → ℕ
onward g cs = fold (λ g c. divisor g (nat_abs c)) g cs

onward_divides : (g : ℕ) (cs : List ℤ) → (onward g cs ∣ g) × AllByRecursion (λ c. onward g cs ∣ nat_abs c) cs
onward_divides g [] = (dvd_refl g, tt)
onward_divides g (c ∷ cs) =
    let rest = onward_divides (divisor g (nat_abs c)) cs in
    let both = divides_both g (nat_abs c) in
    (dvd_trans _ rest.0 both.0, (dvd_trans _ rest.0 both.1, rest.1))

pub common_divides : (cs : List ℤ) → AllByRecursion (λ c. common cs ∣ nat_abs c) cs
common_divides cs = (onward_divides 0 cs).1

onward_greatest : (d g : ℕ) (cs : List ℤ) → d ∣ g → AllByRecursion (λ c. d ∣ nat_abs c) cs → d ∣ onward g cs
onward_greatest d g [] p q = p
onward_greatest d g (c ∷ cs) p q = onward_greatest d (divisor g (nat_abs c)) cs (greatest d g (nat_abs c) p q.0) q.1

pub common_greatest : (d : ℕ) (cs : List ℤ) → AllByRecursion (λ c. d ∣ nat_abs c) cs → d ∣ common cs
common_greatest d cs q = onward_greatest d 0 cs (dvd-zero d) q

-- the row's divisor divides each coefficient
pub row_divides : (cs : List ℤ) → AllByRecursion (λ c. row_divisor cs ∣ nat_abs c) cs
row_divides cs = All-weaker _ _ (λ c h. max_one (common cs) (nat_abs c) h) cs (common_divides cs)

common_zero : (cs : List ℤ) → AllByRecursion (λ c. c ≡ pos 0) cs → onward 0 cs ≡ 0
common_zero [] h = refl
common_zero (c ∷ cs) h = ap (λ (z : ℤ). onward (divisor 0 (nat_abs z)) cs) h.0 ∙ ap (λ (g : ℕ). onward g cs) (divisor_zero 0) ∙
    common_zero cs h.1

pub row_divisor_plain : (cs : List ℤ) → AllByRecursion (λ c. c ≡ pos 0) cs → row_divisor cs ≡ 1
row_divisor_plain cs h = ap (λ (g : ℕ). max 1 g) (common_zero cs h)
