-- A better bound is the last value that its row still allows.
-- It rests on `Ints`.
use Rattle.std.proofs.Common.{◌≡◌, ℕ, zero, suc, ◌<◌, Bool, true, false, ◌&&◌, eqb, List, [], ◌∷◌, set, ℤ, pos, negsuc, ◌+ℤ◌, ◌-ℤ◌, ◌*ℤ◌, neg_ℤ, ◌≤ℤ◌, ◌<ℤ◌, Some, Decides, Option, sym, refl, ap, ◌∙◌, subst, ⊎_elim, arith, get_or-set_other, eq-eqb, ne_eqb}
use Rattle.std.proofs.lemmas.Int.{by_lt_z, ints}
use Rattle.std.proofs.lemmas.Bool.{cases_eq}
use Rattle.std.proofs.lemmas.Bool.Decides.{Decides-and}
use Rattle.std.specs.Int.Signed.{le_z, lt_z}
use Rattle.calculus.specs.Advice.{turned_side}
use Rattle.calculus.specs.Arithmetic.{sum, floor, ceiling}
use Rattle.calculus.specs.Bounds.{here_or, term, least, without, bounded, better}
use Rattle.calculus.specs.MoveLaws.{with_end, least_at, BetterIsLast}
use Rattle.calculus.specs.Rows.{Row, coef}
use Rattle.calculus.specs.Tables.{picked}
use Rattle.calculus.specs.declared.sides.Side.{Side}
use Rattle.calculus.specs.declared.sides.Side.TheVariants.{Low, High}
use Rattle.calculus.specs.declared.trails.Bound.{Bound}
use Rattle.calculus.proofs.Ints.{times_le, floor_rounds, turned_times}

pub here_same : {Y : Type 0} (x : ℕ) (a b : Y) → here_or (eqb x x) a b ≡ a
here_same x a b = ap (λ (t : Bool). here_or t a b) (eq-eqb x x refl)

pub here_other : {Y : Type 0} (x y : ℕ) (a b : Y) → (x ≡ y → ⊥) → here_or (eqb y x) a b ≡ b
here_other x y a b n = ap (λ (t : Bool). here_or t a b) (ne_eqb y x (λ e. n (sym e)))

pub sum_same : (n : ℕ) (f g : ℕ → ℤ) → ((i : ℕ) → i < n → f i ≡ g i) → sum n f ≡ sum n g
sum_same zero f g h = refl
sum_same (suc n) f g h =
    let e = sum_same n f g (λ i l. h i (omega arith)) in
    let d = h n (omega arith) in
    omega (arith, ints)

pub sum_zero : (n : ℕ) (f : ℕ → ℤ) → ((i : ℕ) → f i ≡ pos 0) → sum n f ≡ pos 0
sum_zero zero f h = refl
sum_zero (suc n) f h = let e = sum_zero n f h in let d = h n in omega (arith, ints)

-- two sums whose terms differ at most at x
pub sum_only : (n x : ℕ) (f g : ℕ → ℤ) → x < n → ((i : ℕ) → (x ≡ i → ⊥) → f i ≡ g i) → sum n f +ℤ g x ≡ sum n g +ℤ f x
sum_only zero x f g l h = absurd (omega arith)
sum_only (suc n) x f g l h =
    ⊎_elim
    (λ (e : x ≡ n). let s = sum_same n f g (λ i k. h i (omega arith)) in
    let p = ap f e in
    let q = ap g e in
    omega (arith, ints))
    (λ (d : x ≡ n → ⊥). let s = sum_only n x f g (omega arith) h in
    let e = h n d in
    omega (arith, ints))
    (cases_eq x n)

pub coef_without : (cs : List ℤ) (x : ℕ) → coef (set cs x (pos 0)) x ≡ pos 0
coef_without [] x = refl
coef_without (c ∷ cs) zero = refl
coef_without (c ∷ cs) (suc x) = coef_without cs x

pub term_zero : (a lo hi : ℤ) → a ≡ pos 0 → term a lo hi ≡ pos 0
term_zero a lo hi e = ap (λ (z : ℤ). term z lo hi) e ∙ omega (arith, ints)

pub term_at : (a v : ℤ) → term a v v ≡ a *ℤ v
term_at (pos a) v = refl
term_at (negsuc a) v = refl

module _ (n : ℕ) (lo hi : ℕ → ℤ) (r : Row) (x : ℕ) (l : x < n) where
  -- the least value is that of the rest and that of the term of x
  pub least_split : least n lo hi r ≡ least n lo hi (without x r) +ℤ term (coef r.coefs x) (lo x) (hi x)
  least_split =
      let s = sum_only n x (λ i. term (coef r.coefs i) (lo i) (hi i)) (λ i. term (coef (set r.coefs x (pos 0)) i) (lo i) (hi i)) l
      (λ i d. ap (λ (a : ℤ). term a (lo i) (hi i)) (sym (get_or-set_other r.coefs x i (pos 0) (pos 0) (λ e. d (sym e))))) in
      let z = term_zero (coef (set r.coefs x (pos 0)) x) (lo x) (hi x) (coef_without r.coefs x) in
      omega (arith, ints)

  -- the rest does not see the ends of x
  pub rest_blind : (v : ℤ) → least n (with_end x v lo) (with_end x v hi) (without x r) ≡ least n lo hi (without x r)
  rest_blind v =
      let a : ℕ → ℤ = λ i. coef (set r.coefs x (pos 0)) i in
      let s = sum_only n x (λ i. term (a i) (with_end x v lo i) (with_end x v hi i)) (λ i. term (a i) (lo i) (hi i)) l
      (λ i d. ap (λ (z : ℤ). term (a i) z (with_end x v hi i)) (here_other x i v (lo i) d)
      ∙ ap (λ (z : ℤ). term (a i) (lo i) z) (here_other x i v (hi i) d)) in
      let p = term_zero (a x) (with_end x v lo x) (with_end x v hi x) (coef_without r.coefs x) in
      let q = term_zero (a x) (lo x) (hi x) (coef_without r.coefs x) in
      omega (arith, ints)

pub least_at_is : (n : ℕ) (lo hi : ℕ → ℤ) (r : Row) (x : ℕ) (v : ℤ) → x < n →
    least_at n lo hi r x v ≡ least n lo hi (without x r) +ℤ coef r.coefs x *ℤ v
least_at_is n lo hi r x v l =
    let a = coef r.coefs x in
    let s = least_split n (with_end x v lo) (with_end x v hi) r x l in
    let b = rest_blind n lo hi r x l v in
    let t : term a (with_end x v lo x) (with_end x v hi x) ≡ a *ℤ v =
    ap (λ (z : ℤ). term a z (with_end x v hi x)) (here_same x v (lo x)) ∙ ap (λ (z : ℤ). term a v z) (here_same x v (hi x))
    ∙ term_at a v in
    omega (arith, ints)

-- a value that a row allows, and one that it does not
abbrev Allowed : ℤ → ℤ → Type 0
Allowed p q = (p ≤ℤ pos 0) × (pos 0 <ℤ q)

allowed : {p q p' q' : ℤ} → p ≡ p' → q ≡ q' → Allowed p q → Allowed p' q'
allowed e d f = (subst (λ (z : ℤ). z ≤ℤ pos 0) e f.0, subst (λ (z : ℤ). pos 0 <ℤ z) d f.1)

-- u is -rest / k rounded down just where k times u may be added to the rest and k times the next may not
abbrev Fits : ℕ → ℤ → ℤ → Type 0
Fits k rest u = Allowed (rest +ℤ pos k *ℤ u) (rest +ℤ pos k *ℤ (u +ℤ pos 1))

floor_fits : (k : ℕ) (rest u : ℤ) → 0 < k → floor (neg_ℤ rest) k ≡ u → Fits k rest u
floor_fits k rest u p e =
    subst (Fits k rest) e
    (let f = floor_rounds (neg_ℤ rest) k p in
    let low : (pos k *ℤ floor (neg_ℤ rest) k) ≤ℤ neg_ℤ rest = f.0 in
    let high : neg_ℤ rest <ℤ (pos k *ℤ (floor (neg_ℤ rest) k +ℤ pos 1)) = f.1 in
    (omega (arith, ints), omega (arith, ints)))

-- of two numbers that fit neither is above the other
fits_once : (k : ℕ) (rest u w : ℤ) → Fits k rest u → Fits k rest w → u ≤ℤ w
fits_once k rest u w f g =
    by_lt_z w u
    (λ h. let t = times_le k (w +ℤ pos 1) u (omega (arith, ints)) in
    let a : (rest +ℤ pos k *ℤ u) ≤ℤ pos 0 = f.0 in
    let b : pos 0 <ℤ (rest +ℤ pos k *ℤ (w +ℤ pos 1)) = g.1 in
    absurd (omega (arith, ints)))
    (λ h. h)

fits_floor : (k : ℕ) (rest u : ℤ) → 0 < k → Fits k rest u → floor (neg_ℤ rest) k ≡ u
fits_floor k rest u p f =
    let g = floor_fits k rest (floor (neg_ℤ rest) k) p refl in
    let a = fits_once k rest u (floor (neg_ℤ rest) k) f g in
    let b = fits_once k rest (floor (neg_ℤ rest) k) u g f in
    omega (arith, ints)

-- no number fits where the one before it does not
no_step_back : (k : ℕ) (rest u : ℤ) → (rest +ℤ pos k *ℤ u) ≤ℤ pos 0 → pos 0 <ℤ (rest +ℤ pos k *ℤ (u -ℤ pos 1)) → ⊥
no_step_back k rest u f g = let t = times_le k (u -ℤ pos 1) u (omega (arith, ints)) in omega (arith, ints)

-- the next value on the way to side s
abbrev ahead : Side → ℤ → ℤ
ahead Low v = v -ℤ pos 1
ahead High v = v +ℤ pos 1

-- v would be a better bound on side s
abbrev pub Nearer : Side → ℤ → ℤ → ℤ → Type 0
Nearer Low lo hi v = (lo <ℤ v) × (v ≤ℤ hi)
Nearer High lo hi v = (lo ≤ℤ v) × (v <ℤ hi)

-- v is the last value on the way to side s that a row with coefficient a and this least value of the rest allows
abbrev Last : Side → ℤ → ℤ → ℤ → Type 0
Last s a rest v = Allowed (rest +ℤ a *ℤ v) (rest +ℤ a *ℤ ahead s v)

ahead_turned : (s : Side) (v : ℤ) → ahead (turned_side s) (neg_ℤ v) ≡ neg_ℤ (ahead s v)
ahead_turned Low v = omega (arith, ints)
ahead_turned High v = omega (arith, ints)

-- with the coefficient turned the value and the side turn
last_turned : (s : Side) (a : ℕ) (rest v : ℤ) →
    (Last s (negsuc a) rest v → Last (turned_side s) (pos (suc a)) rest (neg_ℤ v))
    × (Last (turned_side s) (pos (suc a)) rest (neg_ℤ v) → Last s (negsuc a) rest v)
last_turned s a rest v =
    let p = ap (λ (z : ℤ). rest +ℤ z) (turned_times a v (neg_ℤ v) refl) in
    let q = ap (λ (z : ℤ). rest +ℤ z) (turned_times a (ahead s v) (ahead (turned_side s) (neg_ℤ v)) (ahead_turned s v)) in
    (allowed p q, allowed (sym p) (sym q))

abbrev found : Side → ℤ → Option Bound
found s v = Some (record { side = s; value = v })

-- the test of Nearer
abbrev inside : Side → ℤ → ℤ → ℤ → Bool
inside Low lo hi v = lt_z lo v && le_z v hi
inside High lo hi v = le_z lo v && lt_z v hi

-- above and below are this, by side
abbrev offered : Side → ℤ → ℤ → ℤ → Option Bound
offered s lo hi w = picked (inside s lo hi w) (record { side = s; value = w })

decides_leZ : (a b : ℤ) → Decides (le_z a b) (a ≤ℤ b)
decides_leZ a b = (λ h. omega (arith, ints), λ h. sym (omega (arith, ints)))

decides_ltZ : (a b : ℤ) → Decides (lt_z a b) (a <ℤ b)
decides_ltZ a b = (λ h. omega (arith, ints), λ h. sym (omega (arith, ints)))

inside_decides : (s : Side) (lo hi v : ℤ) → Decides (inside s lo hi v) (Nearer s lo hi v)
inside_decides Low lo hi v = Decides-and _ _ (decides_ltZ lo v) (decides_leZ v hi)
inside_decides High lo hi v = Decides-and _ _ (decides_leZ lo v) (decides_ltZ v hi)

pub picked_only : {Y : Type 0} (t : Bool) (y z : Y) → picked t y ≡ Some z → (t ≡ true) × (y ≡ z)
picked_only true y z e = (refl, cc)
picked_only false y z e = absurd cc

module _ (lo hi w v : ℤ) where
  offered_found : (s s' : Side) → offered s lo hi w ≡ found s' v → Nearer s lo hi v × (s ≡ s') × (w ≡ v)
  offered_found s s' e =
      let p = picked_only (inside s lo hi w) _ _ e in
      let q : w ≡ v = ap (λ (b : Bound). b.value) p.1 in
      (subst (Nearer s lo hi) q ((inside_decides s lo hi w).0 p.0), ap (λ (b : Bound). b.side) p.1, q)

  found_offered : (s : Side) → Nearer s lo hi v → w ≡ v → offered s lo hi w ≡ found s v
  found_offered s h q =
      ap (λ (z : ℤ). offered s lo hi z) q
      ∙ ap (λ (t : Bool). picked t (record { side = s; value = v })) ((inside_decides s lo hi v).1 h)

two_sides : Low ≡ High → ⊥
two_sides e = absurd cc

none_last : (s : Side) (rest v : ℤ) → Last s (pos 0) rest v → ⊥
none_last s rest v f =
    let a : (rest +ℤ pos 0 *ℤ v) ≤ℤ pos 0 = f.0 in
    let b : pos 0 <ℤ (rest +ℤ pos 0 *ℤ ahead s v) = f.1 in
    omega (arith, ints)

floor_ceiling : (z : ℤ) (k : ℕ) (v : ℤ) → ceiling z k ≡ v → floor (neg_ℤ z) k ≡ neg_ℤ v
floor_ceiling z k v e = omega (arith, ints)

ceiling_floor : (z : ℤ) (k : ℕ) (v : ℤ) → floor (neg_ℤ z) k ≡ neg_ℤ v → ceiling z k ≡ v
ceiling_floor z k v e = omega (arith, ints)

bounded_last : (s : Side) (a rest lo hi v : ℤ) → bounded a rest lo hi ≡ found s v → Nearer s lo hi v × Last s a rest v
bounded_last s (pos zero) rest lo hi v e = absurd cc
bounded_last High (pos (suc a)) rest lo hi v e =
    let o = offered_found lo hi (floor (neg_ℤ rest) (suc a)) v High High e in
    (o.0, floor_fits (suc a) rest v (omega arith) o.2)
bounded_last Low (pos (suc a)) rest lo hi v e =
    absurd (two_sides (sym (offered_found lo hi (floor (neg_ℤ rest) (suc a)) v High Low e).1))
bounded_last Low (negsuc a) rest lo hi v e =
    let o = offered_found lo hi (ceiling rest (suc a)) v Low Low e in
    (o.0, (last_turned Low a rest v).1 (floor_fits (suc a) rest (neg_ℤ v) (omega arith) (floor_ceiling rest (suc a) v o.2)))
bounded_last High (negsuc a) rest lo hi v e =
    absurd (two_sides (offered_found lo hi (ceiling rest (suc a)) v Low High e).1)

last_bounded : (s : Side) (a rest lo hi v : ℤ) → Nearer s lo hi v → Last s a rest v → bounded a rest lo hi ≡ found s v
last_bounded s (pos zero) rest lo hi v h f = absurd (none_last s rest v f)
last_bounded High (pos (suc a)) rest lo hi v h f =
    found_offered lo hi (floor (neg_ℤ rest) (suc a)) v High h (fits_floor (suc a) rest v (omega arith) f)
last_bounded Low (pos (suc a)) rest lo hi v h f = absurd (no_step_back (suc a) rest v f.0 f.1)
last_bounded Low (negsuc a) rest lo hi v h f =
    found_offered lo hi (ceiling rest (suc a)) v Low h
    (ceiling_floor rest (suc a) v (fits_floor (suc a) rest (neg_ℤ v) (omega arith) ((last_turned Low a rest v).0 f)))
last_bounded High (negsuc a) rest lo hi v h f =
    let g = (last_turned High a rest v).0 f in
    absurd (no_step_back (suc a) rest (neg_ℤ v) g.0 g.1)

module _ (n : ℕ) (lo hi : ℕ → ℤ) (r : Row) (x : ℕ) (v : ℤ) (l : x < n) (s : Side) where
  better_last : better n lo hi r x ≡ found s v →
      Nearer s (lo x) (hi x) v × Allowed (least_at n lo hi r x v) (least_at n lo hi r x (ahead s v))
  better_last e =
      let b = bounded_last s (coef r.coefs x) (least n lo hi (without x r)) (lo x) (hi x) v e in
      (b.0, allowed (sym (least_at_is n lo hi r x v l)) (sym (least_at_is n lo hi r x (ahead s v) l)) b.1)

  last_better : Nearer s (lo x) (hi x) v → Allowed (least_at n lo hi r x v) (least_at n lo hi r x (ahead s v)) →
      better n lo hi r x ≡ found s v
  last_better h f =
      last_bounded s (coef r.coefs x) (least n lo hi (without x r)) (lo x) (hi x) v h
      (allowed (least_at_is n lo hi r x v l) (least_at_is n lo hi r x (ahead s v) l) f)

pub better_is_last : BetterIsLast
better_is_last n lo hi r x v l = (
  λ e. let b = better_last n lo hi r x v l High e in (b.0.0, b.0.1, b.1.0, b.1.1),
  λ h. last_better n lo hi r x v l High (h.0, h.1) (h.2, h.3),
  λ e. let b = better_last n lo hi r x v l Low e in (b.0.0, b.0.1, b.1.0, b.1.1),
  λ h. last_better n lo hi r x v l Low (h.0, h.1) (h.2, h.3),
)
