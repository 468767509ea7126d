-- Tight rows, and what adding one does: it takes an unknown out of a row and the least value does not fall. Rests on Leasts.
use Rattle.std.proofs.Common.{◌≡◌, ℕ, zero, suc, ◌<◌, true, false, ℤ, pos, negsuc, ◌+ℤ◌, ◌*ℤ◌, neg_ℤ, nat_abs, ◌≤ℤ◌, refl, ap, ◌∙◌, arith}
use Rattle.std.proofs.lemmas.Int.{ints}
use Rattle.calculus.specs.Advice.{turned_side}
use Rattle.calculus.specs.Arithmetic.{sum}
use Rattle.calculus.specs.Bounds.{term, least, without}
use Rattle.calculus.specs.Machines.{decided_value}
use Rattle.calculus.specs.Rows.{Row, coef}
use Rattle.calculus.specs.Tightening.{plus, matches}
use Rattle.calculus.specs.declared.sides.Side.{Side}
use Rattle.calculus.specs.declared.sides.Side.TheVariants.{Low, High}
use Rattle.calculus.proofs.BetterBounds.{term_zero, sum_same, least_split}
use Rattle.calculus.proofs.Ints.{distrib, mul_neg, times_le, at_each, mixed}
use Rattle.calculus.proofs.Leasts.{sum_plus, sum_but, coef_plus, term_super}

-- the coefficient of a tight row at its unknown: -x + .. for a low bound, x - .. for a high one
abbrev pub unit : Side → ℤ
unit Low = negsuc 0
unit High = pos 1

-- a bound turned so that a better one is larger
abbrev pub toward : Side → ℤ → ℤ
toward Low v = v
toward High v = neg_ℤ v

-- A row that by itself gives the bound v on side s of x, or a better one.
pub record Tight (n : ℕ) (lo hi : ℕ → ℤ) (r : Row) (x : ℕ) (s : Side) (v : ℤ) : Type 0 where
  pub here : coef r.coefs x ≡ unit s
  pub rest : toward s v ≤ℤ least n lo hi (without x r)

-- ---- matching coefficients

-- low matches the coefficients above 0, and high those below
pub by_match : (P : Side → ℤ → Type 0) → ((a : ℕ) → P Low (pos (suc a))) → ((a : ℕ) → P High (negsuc a)) → (s : Side) (c : ℤ) →
    matches s c ≡ true → P s c
by_match P low high Low (pos zero) m = absurd cc
by_match P low high Low (pos (suc a)) m = low a
by_match P low high Low (negsuc a) m = absurd cc
by_match P low high High (pos a) m = absurd cc
by_match P low high High (negsuc a) m = high a

-- the term of a matching coefficient is at its end
pub match_term : (s : Side) (c lo hi v : ℤ) → matches s c ≡ true → decided_value s lo hi ≡ v → term c lo hi ≡ c *ℤ v
match_term s c lo hi v m e =
    by_match (λ s c. decided_value s lo hi ≡ v → term c lo hi ≡ c *ℤ v) (λ a e. ap (λ (z : ℤ). pos (suc a) *ℤ z) e)
    (λ a e. ap (λ (z : ℤ). negsuc a *ℤ z) e) s c m e

pub match_value : (s : Side) (c v : ℤ) → matches s c ≡ true → c *ℤ v ≡ pos (nat_abs c) *ℤ toward s v
match_value s c v m =
    by_match (λ s c. c *ℤ v ≡ pos (nat_abs c) *ℤ toward s v) (λ a. refl)
    (λ a. let e = mul_neg (pos (suc a)) v in omega (arith, ints)) s c m

pub match_cancel : (s : Side) (c : ℤ) → matches s c ≡ true → c +ℤ pos (nat_abs c) *ℤ unit s ≡ pos 0
match_cancel s c m =
    by_match (λ s c. c +ℤ pos (nat_abs c) *ℤ unit s ≡ pos 0) (λ a. omega (arith, ints)) (λ a. omega (arith, ints)) s c m

-- a coefficient that does not match sees only the other side's end
pub unmatched_term : (s : Side) (c lo hi lo' hi' : ℤ) → matches s c ≡ false →
    decided_value (turned_side s) lo hi ≡ decided_value (turned_side s) lo' hi' → term c lo hi ≡ term c lo' hi'
unmatched_term Low (pos zero) lo hi lo' hi' m e = omega (arith, ints)
unmatched_term Low (pos (suc a)) lo hi lo' hi' m e = absurd (grind arith)
unmatched_term Low (negsuc a) lo hi lo' hi' m e = ap (λ (z : ℤ). negsuc a *ℤ z) e
unmatched_term High (pos a) lo hi lo' hi' m e = ap (λ (z : ℤ). pos a *ℤ z) e
unmatched_term High (negsuc a) lo hi lo' hi' m e = absurd (grind arith)

-- ---- adding a tight row

-- the ends of all unknowns but x are the same
abbrev pub SameBut : ℕ → (ℕ → ℤ) → (ℕ → ℤ) → Type 0
SameBut x f g = (i : ℕ) → (x ≡ i → ⊥) → f i ≡ g i

added_arith : (both f kg h hx fx kgx jc krc kr : ℤ) → (both +ℤ hx) ≤ℤ (h +ℤ (fx +ℤ kgx)) → both ≡ f +ℤ kg → kr ≡ kg +ℤ krc →
    ((f +ℤ jc) +ℤ kr +ℤ hx) ≤ℤ ((h +ℤ (jc +ℤ krc)) +ℤ fx +ℤ kgx)
added_arith both f kg h hx fx kgx jc krc kr b e d = omega (arith, ints)

-- j and k times r, under ends lo, hi for r and lo', hi' for j that differ only at x
module _ (n : ℕ) (lo hi lo' hi' : ℕ → ℤ) (x k : ℕ) (j r : Row) (l : x < n) (los : SameBut x lo' lo) (his : SameBut x hi' hi)
    (o : (i : ℕ) → lo i ≤ℤ hi i) where
  -- least values place by place, but for x
  spread : (i : ℕ) → (x ≡ i → ⊥) →
      (term (coef j.coefs i) (lo' i) (hi' i) +ℤ pos k *ℤ term (coef r.coefs i) (lo i) (hi i))
      ≤ℤ term (coef (plus j k r).coefs i) (lo i) (hi i)
  spread i d =
      let p = term_super (coef j.coefs i) (coef r.coefs i) (lo i) (hi i) k (o i) in
      let e : term (coef j.coefs i) (lo' i) (hi' i) ≡ term (coef j.coefs i) (lo i) (hi i) =
      λ y. term (coef j.coefs i) (los i d y) (his i d y) in
      let f = ap (λ (z : ℤ). term z (lo i) (hi i)) (coef_plus j k r i) in
      omega (arith, ints)

  -- the least value of j and k times that of r, but for their terms of x, is not above that of the sum but for its term of x
  pub added_least :
      (least n lo' hi' j +ℤ pos k *ℤ least n lo hi r +ℤ term (coef (plus j k r).coefs x) (lo x) (hi x))
      ≤ℤ (least n lo hi (plus j k r) +ℤ term (coef j.coefs x) (lo' x) (hi' x) +ℤ pos k *ℤ term (coef r.coefs x) (lo x) (hi x))
  added_least =
      let f : ℕ → ℤ = λ i. term (coef j.coefs i) (lo' i) (hi' i) in
      let g : ℕ → ℤ = λ i. term (coef r.coefs i) (lo i) (hi i) in
      let h : ℕ → ℤ = λ i. term (coef (plus j k r).coefs i) (lo i) (hi i) in
      let b : (sum n (λ i. f i +ℤ pos k *ℤ g i) +ℤ h x) ≤ℤ (sum n h +ℤ (f x +ℤ pos k *ℤ g x)) =
      sum_but n x (λ i. f i +ℤ pos k *ℤ g i) h l spread in
      let e : sum n (λ i. f i +ℤ pos k *ℤ g i) ≡ sum n f +ℤ pos k *ℤ sum n g = sum_plus n (pos k) f g in
      added_arith (sum n (λ i. f i +ℤ pos k *ℤ g i)) (sum n f) (pos k *ℤ sum n g) (sum n h) (h x) (f x) (pos k *ℤ g x) j.constant
      (pos k *ℤ r.constant) (pos k *ℤ least n lo hi r) b e (distrib (pos k) (sum n g) r.constant)

-- a matching entry resolved: j and |c| times the reason, under the ends below the entry, is not below j under those with it
pub resolve_least : (n : ℕ) (lo hi lo' hi' : ℕ → ℤ) (x : ℕ) (s : Side) (v : ℤ) (j r : Row) → x < n →
    SameBut x lo' lo → SameBut x hi' hi → ((i : ℕ) → lo i ≤ℤ hi i) →
    matches s (coef j.coefs x) ≡ true → decided_value s (lo' x) (hi' x) ≡ v → Tight n lo hi r x s v →
    least n lo' hi' j ≤ℤ least n lo hi (plus j (nat_abs (coef j.coefs x)) r)
resolve_least n lo hi lo' hi' x s v j r l los his o m at tight =
    let c = coef j.coefs x in
    let k = nat_abs c in
    let main = added_least n lo hi lo' hi' x k j r l los his o in
    let here : term c (lo' x) (hi' x) ≡ pos k *ℤ toward s v = match_term s c (lo' x) (hi' x) v m at ∙ match_value s c v m in
    let gone : coef (plus j k r).coefs x ≡ pos 0 =
    coef_plus j k r x ∙ ap (λ (z : ℤ). c +ℤ pos k *ℤ z) tight.here ∙ match_cancel s c m in
    let zero_term : term (coef (plus j k r).coefs x) (lo x) (hi x) ≡ pos 0 =
    term_zero (coef (plus j k r).coefs x) (lo x) (hi x) gone in
    let split = least_split n lo hi r x l in
    let d = distrib (pos k) (least n lo hi (without x r)) (term (coef r.coefs x) (lo x) (hi x)) in
    let e = ap (λ (z : ℤ). pos k *ℤ z) split in
    let q = times_le k (toward s v) (least n lo hi (without x r)) tight.rest in
    omega (arith, ints)

-- an entry that does not match: the least value stays
pub unmatched_least : (n : ℕ) (lo hi lo' hi' : ℕ → ℤ) (x : ℕ) (s : Side) (j : Row) →
    SameBut x lo' lo → SameBut x hi' hi → matches s (coef j.coefs x) ≡ false →
    decided_value (turned_side s) (lo' x) (hi' x) ≡ decided_value (turned_side s) (lo x) (hi x) →
    least n lo' hi' j ≡ least n lo hi j
unmatched_least n lo hi lo' hi' x s j los his m e =
    let same = sum_same n (λ i. term (coef j.coefs i) (lo' i) (hi' i)) (λ i. term (coef j.coefs i) (lo i) (hi i))
    (λ i b. at_each (λ (y : ℕ). term (coef j.coefs y) (lo' y) (hi' y) ≡ term (coef j.coefs y) (lo y) (hi y)) x
    (unmatched_term s (coef j.coefs x) (lo' x) (hi' x) (lo x) (hi x) m e)
    (λ i d y. term (coef j.coefs i) (los i d y) (his i d y)) i) in
    ap (λ (z : ℤ). z +ℤ j.constant) same

unit_toward : (s : Side) (v : ℤ) → unit s *ℤ v ≡ neg_ℤ (toward s v)
unit_toward Low v = omega (arith, ints)
unit_toward High v = omega (arith, ints)

-- a matching decided entry: its partner is added k times, and the term of x is set aside at the value where x is fixed
pub aside_least : (n : ℕ) (lo hi lo' hi' : ℕ → ℤ) (x : ℕ) (s : Side) (v : ℤ) (k : ℕ) (j r : Row) → x < n →
    SameBut x lo' lo → SameBut x hi' hi → ((i : ℕ) → lo i ≤ℤ hi i) →
    matches s (coef j.coefs x) ≡ true → decided_value s (lo' x) (hi' x) ≡ v → Tight n lo hi r x (turned_side s) v →
    least n lo' hi' j ≤ℤ (coef (plus j k r).coefs x *ℤ v +ℤ least n lo hi (without x (plus j k r)))
aside_least n lo hi lo' hi' x s v k j r l los his o m at tight =
    let c = coef j.coefs x in
    let u = unit (turned_side s) in
    let main = added_least n lo hi lo' hi' x k j r l los his o in
    let here : term c (lo' x) (hi' x) ≡ c *ℤ v = match_term s c (lo' x) (hi' x) v m at in
    let new : coef (plus j k r).coefs x *ℤ v ≡ c *ℤ v +ℤ pos k *ℤ (u *ℤ v) =
    ap (λ (z : ℤ). z *ℤ v) (coef_plus j k r x ∙ ap (λ (z : ℤ). c +ℤ pos k *ℤ z) tight.here) ∙ mixed c u v k in
    let turn : pos k *ℤ (u *ℤ v) ≡ neg_ℤ (pos k *ℤ toward (turned_side s) v) =
    ap (λ (z : ℤ). pos k *ℤ z) (unit_toward (turned_side s) v) ∙ mul_neg (pos k) (toward (turned_side s) v) in
    let split = least_split n lo hi (plus j k r) x l in
    let parts = ap (λ (z : ℤ). pos k *ℤ z) (least_split n lo hi r x l)
    ∙ distrib (pos k) (least n lo hi (without x r)) (term (coef r.coefs x) (lo x) (hi x)) in
    let q = times_le k (toward (turned_side s) v) (least n lo hi (without x r)) tight.rest in
    aside_arith (least n lo' hi' j) (pos k *ℤ least n lo hi r) (term (coef (plus j k r).coefs x) (lo x) (hi x))
    (least n lo hi (plus j k r)) (term c (lo' x) (hi' x)) (pos k *ℤ term (coef r.coefs x) (lo x) (hi x)) (c *ℤ v)
    (coef (plus j k r).coefs x *ℤ v) (pos k *ℤ (u *ℤ v)) (pos k *ℤ toward (turned_side s) v) (least n lo hi (without x (plus j k r)))
    (pos k *ℤ least n lo hi (without x r)) main here new turn split parts q
  where
    aside_arith : (before kr gone whole old kun cv new kuv kt rest krest : ℤ) → (before +ℤ kr +ℤ gone) ≤ℤ (whole +ℤ old +ℤ kun) →
        old ≡ cv → new ≡ cv +ℤ kuv → kuv ≡ neg_ℤ kt → whole ≡ rest +ℤ gone → kr ≡ krest +ℤ kun → kt ≤ℤ krest → before ≤ℤ (new +ℤ rest)
    aside_arith before kr gone whole old kun cv new kuv kt rest krest main here isnew turn split parts q = omega (arith, ints)
