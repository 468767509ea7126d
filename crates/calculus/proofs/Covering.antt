-- Covered rows: each of their terms has an entry on the trail that matches it. What keeps a row covered as entries are read or taken off.
-- It rests on `BetterBounds`, `Firm`, `Ints`, `Leasts` and `Resolving`.
use Rattle.std.proofs.Common.{◌≡◌, ℕ, zero, suc, ◌<◌, ◌≤◌, Bool, true, false, ◌||◌, ◌⊎◌, List, [], ◌∷◌, length, ℤ, pos, negsuc, ◌+ℤ◌, ◌*ℤ◌, ◌≤ℤ◌, ◌<ℤ◌, sym, refl, ap, ◌∙◌, inl, inr, ⊎_elim, arith, ne_eqb}
use Rattle.std.proofs.lemmas.Int.{by_lt_z, ints}
use Rattle.std.proofs.lemmas.Bool.{cases_eq, cases_lt, and_right, or_right, both_ways, false≢true}
use Rattle.calculus.specs.Arithmetic.{floor}
use Rattle.calculus.specs.Bounds.{Trail, on, without}
use Rattle.calculus.specs.Rows.{Row, coef, cut}
use Rattle.calculus.specs.Tightening.{plus, matches}
use Rattle.calculus.specs.declared.ranges.Range.{Range}
use Rattle.calculus.specs.declared.sides.Side.{Side}
use Rattle.calculus.specs.declared.sides.Side.TheVariants.{Low, High}
use Rattle.calculus.specs.declared.trails.Entry.{Entry}
use Rattle.calculus.proofs.BetterBounds.{coef_without}
use Rattle.calculus.proofs.Firm.{on_is}
use Rattle.calculus.proofs.Ints.{mul_neg, times_le, at_each}
use Rattle.calculus.proofs.Leasts.{coef_plus, floor_zero, coef_cut, coef_else}
use Rattle.calculus.proofs.Resolving.{toward, by_match}

-- a trail has an entry on y of side s
abbrev pub has : Side → ℕ → Trail → Bool
has s y [] = false
has s y (e ∷ t) = on s y e || has s y t

-- every term of a row has a matching entry
abbrev pub Covered : Trail → Row → Type 0
Covered t r = (s : Side) (y : ℕ) → matches s (coef r.coefs y) ≡ true → has s y t ≡ true

-- every term of a row but that of x
abbrev pub CoveredBut : ℕ → Trail → Row → Type 0
CoveredBut x t r = (s : Side) (y : ℕ) → (x ≡ y → ⊥) → matches s (coef r.coefs y) ≡ true → has s y t ≡ true

-- every unknown has entries of both sides
abbrev pub Complete : List Range → Trail → Type 0
Complete rs t = (s : Side) (y : ℕ) → y < length rs → has s y t ≡ true

-- a row has no coefficient past the n-th
abbrev pub Bare : ℕ → Row → Type 0
Bare n r = (y : ℕ) → n ≤ y → coef r.coefs y ≡ pos 0

-- ---- matching by the sign

pub matches_to : (s : Side) (z : ℤ) → matches s z ≡ true → pos 0 <ℤ toward s z
matches_to s z h = by_match (λ s z. pos 0 <ℤ toward s z) (λ a. omega (arith, ints)) (λ a. omega (arith, ints)) s z h

pub matches_from : (s : Side) (z : ℤ) → pos 0 <ℤ toward s z → matches s z ≡ true
matches_from Low (pos zero) h = absurd (omega (arith, ints))
matches_from Low (pos (suc a)) h = refl
matches_from Low (negsuc a) h = absurd (omega (arith, ints))
matches_from High (pos a) h = absurd (omega (arith, ints))
matches_from High (negsuc a) h = refl

pub matches_zero : (s : Side) (z : ℤ) → z ≡ pos 0 → matches s z ≡ true → ⊥
matches_zero Low z e h = let k = matches_to Low z h in omega (arith, ints)
matches_zero High z e h = let k = matches_to High z h in omega (arith, ints)

-- a number that neither side matches is 0
pub matches_none : (z : ℤ) → (matches Low z ≡ true → ⊥) → (matches High z ≡ true → ⊥) → z ≡ pos 0
matches_none (pos zero) l h = refl
matches_none (pos (suc a)) l h = absurd (l refl)
matches_none (negsuc a) l h = absurd (h refl)

toward_plus : (s : Side) (a b : ℤ) (m : ℕ) → toward s (a +ℤ pos m *ℤ b) ≡ toward s a +ℤ pos m *ℤ toward s b
toward_plus Low a b m = refl
toward_plus High a b m = let e = mul_neg (pos m) b in omega (arith, ints)

-- a side that matches a sum matches one of its parts
pub matches_plus : (s : Side) (a b : ℤ) (m : ℕ) → matches s (a +ℤ pos m *ℤ b) ≡ true → (matches s a ≡ true) ⊎ (matches s b ≡ true)
matches_plus s a b m h =
    by_lt_z (pos 0) (toward s a) (λ p. inl (matches_from s a p))
    (λ p. by_lt_z (pos 0) (toward s b) (λ q. inr (matches_from s b q))
    (λ q. let k = matches_to s (a +ℤ pos m *ℤ b) h in
    let e = toward_plus s a b m in
    let t = times_le m (toward s b) (pos 0) q in
    absurd (omega (arith, ints))))

-- what divides keeps its sign
pub matches_divided : (s : Side) (k : ℕ) (c : ℤ) → 0 < k → pos k *ℤ floor c k ≡ c → matches s (floor c k) ≡ true → matches s c ≡ true
matches_divided s k c l e h =
    by_lt_z (pos 0) (toward s c) (λ p. matches_from s c p)
    (λ p. let q = matches_to s (floor c k) h in
    let d = toward_times s k (floor c k) in
    let f = ap (toward s) e in
    absurd (divided_arith k (toward s (floor c k)) (toward s c) l q p (sym d ∙ f)))
  where
    toward_times : (s : Side) (k : ℕ) (z : ℤ) → toward s (pos k *ℤ z) ≡ pos k *ℤ toward s z
    toward_times Low k z = refl
    toward_times High k z = let e = mul_neg (pos k) z in omega (arith, ints)

    divided_arith : (k : ℕ) (u w : ℤ) → 0 < k → pos 0 <ℤ u → w ≤ℤ pos 0 → pos k *ℤ u ≡ w → ⊥
    divided_arith k u w l p q e = let t = times_le k (pos 1) u (omega (arith, ints)) in omega (arith, ints)

-- ---- entries of a trail

-- an entry on another unknown does not count
on_else : (s : Side) (y : ℕ) (e : Entry) → (e.unknown ≡ y → ⊥) → on s y e ≡ false
on_else s y e d = and_right _ _ (ne_eqb y e.unknown (λ h. d (sym h)))

pub has_else : (s : Side) (y : ℕ) (e : Entry) (t : Trail) → (e.unknown ≡ y → ⊥) → has s y (e ∷ t) ≡ true → has s y t ≡ true
has_else s y e t d h = sym (ap (λ (b : Bool). b || has s y t) (on_else s y e d)) ∙ h

-- an entry below counts, or the top one does
has_by : (b : Bool) (s : Side) (y : ℕ) (e : Entry) (t : Trail) → on s y e ≡ b → (b || has s y t) ≡ true →
    (e.side ≡ s) ⊎ (has s y t ≡ true)
has_by true s y e t h k = inl (sym (on_is s y e h).0)
has_by false s y e t h k = inr k

-- more entries, more that counts
pub has_more : (s : Side) (y : ℕ) (e : Entry) (t : Trail) → has s y t ≡ true → has s y (e ∷ t) ≡ true
has_more s y e t h = or_right (on s y e) _ h

-- ---- covered rows

-- an entry that does not match may go
pub covered_past : (e : Entry) (t : Trail) (r : Row) → Covered (e ∷ t) r → matches e.side (coef r.coefs e.unknown) ≡ false →
    Covered t r
covered_past e t r h m s y k =
    ⊎_elim
    (λ (d : e.unknown ≡ y). ⊎_elim
    (λ (same : e.side ≡ s). absurd (both_ways _ m ((λ i. matches (same i) (coef r.coefs (d i))) ∙ k)))
    (λ (g : has s y t ≡ true). g)
    (has_by (on s y e) s y e t refl (h s y k)))
    (λ (d : e.unknown ≡ y → ⊥). has_else s y e t d (h s y k))
    (cases_eq e.unknown y)

-- a row without coefficient at the top entry's unknown, made from one covered with it and one covered below but there
pub covered_sum : (e : Entry) (t : Trail) (j : Row) (k : ℕ) (r new : Row) → Covered (e ∷ t) j → CoveredBut e.unknown t r →
    coef new.coefs e.unknown ≡ pos 0 →
    ((y : ℕ) → (e.unknown ≡ y → ⊥) → coef new.coefs y ≡ coef (plus j k r).coefs y) → Covered t new
covered_sum e t j k r new hj hr gone same s y m =
    ⊎_elim
    (λ (d : e.unknown ≡ y). absurd (matches_zero s (coef new.coefs y) (sym (ap (coef new.coefs) d) ∙ gone) m))
    (λ (d : e.unknown ≡ y → ⊥). ⊎_elim
    (λ (g : matches s (coef j.coefs y) ≡ true). has_else s y e t d (hj s y g))
    (λ (g : matches s (coef r.coefs y) ≡ true). hr s y d g)
    (matches_plus s (coef j.coefs y) (coef r.coefs y) k
    (sym (ap (matches s) (same y d ∙ coef_plus j k r y)) ∙ m)))
    (cases_eq e.unknown y)

-- a complete trail covers every row without coefficients past the unknowns
pub complete_covers : (rs : List Range) (t : Trail) (r : Row) → Complete rs t → Bare (length rs) r → Covered t r
complete_covers rs t r h b s y m =
    ⊎_elim (λ (l : y < length rs). h s y l) (λ (l : length rs ≤ y). absurd (matches_zero s (coef r.coefs y) (b y l) m))
    (cases_lt y (length rs))

-- a cut that divides is covered as its row is
pub covered_cut : (t : Trail) (k : ℕ) (r : Row) → 0 < k → ((i : ℕ) → pos k *ℤ floor (coef r.coefs i) k ≡ coef r.coefs i) →
    Covered t r → Covered t (cut k r)
covered_cut t k r l div h s y m =
    h s y (matches_divided s k (coef r.coefs y) l (div y) (sym (ap (matches s) (coef_cut k r y l)) ∙ m))

-- a row covered by no entry at all has no coefficient
pub covered_none : (r : Row) → Covered [] r → (y : ℕ) → coef r.coefs y ≡ pos 0
covered_none r h y =
    matches_none (coef r.coefs y) (λ m. false≢true (h Low y m))
    (λ m. false≢true (h High y m))

-- ---- rows without coefficients past the unknowns

pub bare_plus : (n : ℕ) (p : Row) (m : ℕ) (q : Row) → Bare n p → Bare n q → Bare n (plus p m q)
bare_plus n p m q a b y l = let e = coef_plus p m q y in let c = a y l in let d = ap (λ (z : ℤ). pos m *ℤ z) (b y l) in omega (arith, ints)

pub bare_without : (n x : ℕ) (r : Row) → Bare n r → Bare n (without x r)
bare_without n x r h y l =
    at_each (λ z. n ≤ z → coef (without x r).coefs z ≡ pos 0) x (λ k. coef_without r.coefs x)
    (λ i d k. coef_else r.coefs x i d ∙ h i k) y l

pub bare_cut : (n k : ℕ) (r : Row) → 0 < k → Bare n r → Bare n (cut k r)
bare_cut n k r p h y l = coef_cut k r y p ∙ ap (λ (z : ℤ). floor z k) (h y l) ∙ floor_zero k p
