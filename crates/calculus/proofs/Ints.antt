-- Laws of whole numbers and of lists of them that the library lacks: products, orders, rounding, remainders.
-- It rests on the definitions and the library alone.
use Rattle.std.proofs.Common.{◌≡◌, ℕ, zero, suc, ◌*◌, ◌/◌, ◌<◌, ℤ, pos, negsuc, ◌+ℤ◌, ◌*ℤ◌, neg_ℤ, ◌≤ℤ◌, ◌<ℤ◌, ap, ◌∙◌, mod-lt, mul-le-mul_left, div-one, arith, ⊎_elim, subst, sym, max, ◌+◌, ◌-◌, ◌%◌, ◌^◌, ◌≤◌, List, [], ◌∷◌, map, nat_abs, refl, mod-eq_of_lt, mul-lt-mul_of_pos_right, pow-suc, mul_comm, ◌-ℤ◌}
use borrow.Author.Differences.{ints, up, down, sum_is_lem, neg_is, product_is, le_out}
use Rattle.std.proofs.lemmas.Int.{by_lt_z}
use Rattle.std.proofs.Math.Nat.{div-add-mod, one-dvd, one-le-pow, mul-div_cancel', add-mod-mod, mod-add-mod, mod_self, mod-le}
use Rattle.std.proofs.Math.IntN.{*ℤ_comm}
use Rattle.std.specs.Int.Signed.{clash_ℤ}
use Rattle.calculus.specs.Arithmetic.{floor, ceiling, sum}
use Rattle.std.proofs.lemmas.Bool.{cases_lt, cases_eq}
use Prim.Native.Nat.{◌∣◌}

times : (k : ℕ) {a b : ℕ} → a ≡ b → k * a ≡ k * b
times k e = ap (λ n. k * n) e

pub distrib : (a b c : ℤ) → a *ℤ (b +ℤ c) ≡ a *ℤ b +ℤ a *ℤ c
distrib a b c =
    let s = sum_is_lem b c in
    let p = times (up a) s in
    let q = times (down a) s in
    omega (arith, ints)

pub times_sum : (a b c : ℤ) → (a +ℤ b) *ℤ c ≡ a *ℤ c +ℤ b *ℤ c
times_sum a b c = *ℤ_comm (a +ℤ b) c ∙ distrib c a b ∙ (λ i. *ℤ_comm c a i +ℤ *ℤ_comm c b i)

pub assoc : (a b c : ℤ) → (a *ℤ b) *ℤ c ≡ a *ℤ (b *ℤ c)
assoc a b c =
    let p = product_is a b in
    let q = product_is b c in
    let p₁ = ap (λ (n : ℕ). n * up c) p.0 in
    let p₂ = ap (λ (n : ℕ). n * down c) p.0 in
    let p₃ = ap (λ (n : ℕ). n * up c) p.1 in
    let p₄ = ap (λ (n : ℕ). n * down c) p.1 in
    let q₁ = times (up a) q.0 in
    let q₂ = times (down a) q.0 in
    let q₃ = times (up a) q.1 in
    let q₄ = times (down a) q.1 in
    omega (arith, ints)

pub mul_neg : (a b : ℤ) → a *ℤ neg_ℤ b ≡ neg_ℤ (a *ℤ b)
mul_neg a b =
    let n = neg_is b in
    let p₁ = times (up a) n.0 in
    let p₂ = times (up a) n.1 in
    let p₃ = times (down a) n.0 in
    let p₄ = times (down a) n.1 in
    omega (arith, ints)

pub times_le : (k : ℕ) (a b : ℤ) → a ≤ℤ b → (pos k *ℤ a) ≤ℤ (pos k *ℤ b)
times_le k a b h =
    let m = mul-le-mul_left k (le_out a b h) in
    omega (arith, ints)

pub times_next : (k : ℕ) (a : ℤ) → pos k *ℤ (a +ℤ pos 1) ≡ pos k *ℤ a +ℤ pos k
times_next k a = let d = distrib (pos k) a (pos 1) in omega (arith, ints)

pub times_le_back : (k : ℕ) (a b : ℤ) → 0 < k → (pos k *ℤ a) ≤ℤ (pos k *ℤ b) → a ≤ℤ b
times_le_back k a b p h =
    by_lt_z b a
    (λ l. let m = times_le k (b +ℤ pos 1) a (omega (arith, ints)) in
    let n = times_next k b in
    absurd (omega (arith, ints)))
    (λ l. l)

pub floor_rounds : (z : ℤ) (k : ℕ) → 0 < k → ((pos k *ℤ floor z k) ≤ℤ z) × (z <ℤ (pos k *ℤ (floor z k +ℤ pos 1)))
floor_rounds (pos a) k p =
    let n = times_next k (pos (a / k)) in
    let d = div-add-mod a k in
    let m = mod-lt a p in
    (omega (arith, ints), omega (arith, ints))
floor_rounds (negsuc a) k p =
    let n = times_next k (negsuc (a / k)) in
    let d = div-add-mod a k in
    let m = mod-lt a p in
    (omega (arith, ints), omega (arith, ints))

pub ceiling_rounds : (z : ℤ) (k : ℕ) → 0 < k → (z ≤ℤ (pos k *ℤ ceiling z k)) × ((pos k *ℤ ceiling z k) <ℤ (z +ℤ pos k))
ceiling_rounds z k p =
    let f = floor_rounds (neg_ℤ z) k p in
    let n = times_next k (floor (neg_ℤ z) k) in
    let m = mul_neg (pos k) (floor (neg_ℤ z) k) in
    let low : (pos k *ℤ floor (neg_ℤ z) k) ≤ℤ neg_ℤ z = f.0 in
    let high : neg_ℤ z <ℤ (pos k *ℤ (floor (neg_ℤ z) k +ℤ pos 1)) = f.1 in
    (omega (arith, ints), omega (arith, ints))

-- dividing by a divisor and multiplying again changes nothing
pub floor_times : (q : ℤ) (k : ℕ) → 0 < k → floor (pos k *ℤ q) k ≡ q
floor_times q k p =
    let f = floor_rounds (pos k *ℤ q) k p in
    let low = times_le_back k (floor (pos k *ℤ q) k) q p f.0 in
    by_lt_z (floor (pos k *ℤ q) k) q
    (λ l. let m = times_le k (floor (pos k *ℤ q) k +ℤ pos 1) q (omega (arith, ints)) in absurd (clash_ℤ f.1 m))
    (λ l. omega (arith, ints))

pub floor_one : (z : ℤ) → floor z 1 ≡ z
floor_one (pos a) = ap pos (div-one a)
floor_one (negsuc a) = ap negsuc (div-one a)

pub ceiling_one : (z : ℤ) → ceiling z 1 ≡ z
ceiling_one z = let f = floor_one (neg_ℤ z) in omega (arith, ints)

-- a constant may be rounded up once the rest has been divided: at most 0 stays at most 0, and only that
pub rounded_down : (g : ℕ) (s c : ℤ) → 0 < g → (pos g *ℤ s +ℤ c) ≤ℤ pos 0 → (s +ℤ ceiling c g) ≤ℤ pos 0
rounded_down g s c p h =
    by_lt_z (pos 0) (s +ℤ ceiling c g)
    (λ l. let n = mul_neg (pos g) (ceiling c g) in
    let m = times_le g (neg_ℤ (ceiling c g) +ℤ pos 1) s (omega (arith, ints)) in
    let t = times_next g (neg_ℤ (ceiling c g)) in
    let r : (pos g *ℤ ceiling c g) <ℤ (c +ℤ pos g) = (ceiling_rounds c g p).1 in
    absurd (omega (arith, ints)))
    (λ l. l)

pub rounded_back : (g : ℕ) (s c : ℤ) → 0 < g → (s +ℤ ceiling c g) ≤ℤ pos 0 → (pos g *ℤ s +ℤ c) ≤ℤ pos 0
rounded_back g s c p h =
    let n = mul_neg (pos g) (ceiling c g) in
    let m = times_le g s (neg_ℤ (ceiling c g)) (omega (arith, ints)) in
    let r : c ≤ℤ (pos g *ℤ ceiling c g) = (ceiling_rounds c g p).0 in
    omega (arith, ints)

pub sum_times : (n : ℕ) (k : ℤ) (f g : ℕ → ℤ) → ((i : ℕ) → f i ≡ k *ℤ g i) → sum n f ≡ k *ℤ sum n g
sum_times zero k f g h = omega (arith, ints)
sum_times (suc n) k f g h = let e = sum_times n k f g h in let d = distrib k (sum n g) (g n) in let l = h n in omega (arith, ints)

-- what holds at x and at each other place holds everywhere
pub at_each : (P : ℕ → Type 0) (x : ℕ) → P x → ((i : ℕ) → (x ≡ i → ⊥) → P i) → (i : ℕ) → P i
at_each P x here else i = ⊎_elim (λ (e : x ≡ i). subst P e here) (λ (d : x ≡ i → ⊥). else i d) (cases_eq x i)

pub turned_times : (a : ℕ) (v u : ℤ) → u ≡ neg_ℤ v → negsuc a *ℤ v ≡ pos (suc a) *ℤ u
turned_times a v u e = let m = mul_neg (pos (suc a)) v in let n = ap (λ (z : ℤ). pos (suc a) *ℤ z) e in omega (arith, ints)

pub max_one : (g n : ℕ) → g ∣ n → max 1 g ∣ n
max_one zero n h = one-dvd n
max_one (suc g) n h = let e : max 1 (suc g) ≡ suc g = omega arith in subst (λ (m : ℕ). m ∣ n) (sym e) h

pub neg_times_le : (a : ℕ) (u v : ℤ) → u ≤ℤ v → (negsuc a *ℤ v) ≤ℤ (negsuc a *ℤ u)
neg_times_le a u v h =
    let t = times_le (suc a) u v h in
    omega (arith, ints)

pub mixed : (a b v : ℤ) (m : ℕ) → (a +ℤ pos m *ℤ b) *ℤ v ≡ a *ℤ v +ℤ pos m *ℤ (b *ℤ v)
mixed a b v m = times_sum a (pos m *ℤ b) v ∙ ap (λ (z : ℤ). a *ℤ v +ℤ z) (assoc (pos m) b v)

pub lacking_fills : (d a : ℕ) → 0 < d → (a + (d - a % d) % d) % d ≡ 0
lacking_fills d a p =
    let l = mod-lt a p in
    let e : a % d + (d - a % d) ≡ d = omega arith in
    add-mod-mod a (d - a % d) d ∙ sym (mod-add-mod a d (d - a % d)) ∙ ap (λ (n : ℕ). n % d) e ∙ mod_self d

pub lacking_least : (d a m : ℕ) → 0 < d → (a + m) % d ≡ 0 → (d - a % d) % d ≤ m
lacking_least d a m p h =
    let l = mod-lt a p in
    let r = mod-add-mod a d m in
    ⊎_elim
    (λ (k : a % d + m < d). let s = mod-eq_of_lt k in
    let e : d - a % d ≡ d = omega arith in
    let f = ap (λ (n : ℕ). n % d) e in
    let z = mod_self d in
    omega arith)
    (λ k. let s = mod-le (d - a % d) d in omega arith)
    (cases_lt (a % d + m) d)

-- once a row
pub once : (cs : List ℤ) → map (λ c. pos 1 *ℤ c) cs ≡ cs
once [] = refl
once (c ∷ cs) = λ i. (let e : pos 1 *ℤ c ≡ c = omega (arith, ints) in e) i ∷ once cs i

-- ends that moved inwards are no further apart
pub narrower : (lo hi lo' hi' : ℤ) → lo ≤ℤ lo' → hi' ≤ℤ hi → lo' ≤ℤ hi' → nat_abs (hi' -ℤ lo') ≤ nat_abs (hi -ℤ lo)
narrower lo hi lo' hi' a b c = omega (arith, ints)

-- a digit counts for less than one of the next place
pub digit_below : (b w k : ℕ) → suc w < b → suc w * b ^ k < b ^ suc k
digit_below b w k h =
    let a = one-le-pow k b (omega arith) in
    let c : suc w * b ^ k < b * b ^ k = mul-lt-mul_of_pos_right h a in
    let d = pow-suc b k in
    let e = mul_comm b (b ^ k) in
    omega arith

-- a number is its divisor times a quotient
pub quotient : (g : ℕ) (c : ℤ) → g ∣ nat_abs c → (q : ℤ) × (c ≡ pos g *ℤ q)
quotient g (pos a) d = (pos (a / g), let e = mul-div_cancel' g d in omega (arith, ints))
quotient g (negsuc a) d = (
  neg_ℤ (pos (suc a / g)),
  let e = mul-div_cancel' g d in let m = mul_neg (pos g) (pos (suc a / g)) in omega
      (arith, ints),
)
