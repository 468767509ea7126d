-- Arithmetic of rows: coefficients of sums and cuts, and what least values do under them. Rests on whole numbers alone.
use Rattle.std.proofs.Common.{◌≡◌, ℕ, zero, suc, ◌<◌, ◌⊎◌, List, [], ◌∷◌, map, set, replicate, ℤ, pos, negsuc, ◌+ℤ◌, ◌*ℤ◌, ◌≤ℤ◌, ◌<ℤ◌, sym, refl, ap, ◌∙◌, subst, inl, inr, ⊎_elim, arith, get_or-set_other}
use Rattle.std.proofs.lemmas.List.{length-replicate, get_or-set_same}
use Rattle.std.proofs.lemmas.Int.{by_lt_z, ints}
use Rattle.std.proofs.lemmas.Bool.{cases_eq}
use Rattle.std.proofs.Math.IntN.{*ℤ-zero}
use Rattle.calculus.specs.Arithmetic.{sum, floor, ceiling}
use Rattle.calculus.specs.Bounds.{term, least, without}
use Rattle.calculus.specs.Rows.{Row, coef, cut}
use Rattle.calculus.specs.Runs.{lone}
use Rattle.calculus.specs.Tightening.{added_coefs, plus}
use Rattle.calculus.proofs.BetterBounds.{least_split}
use Rattle.calculus.proofs.Ints.{distrib, assoc, times_le, floor_times, ceiling_rounds, sum_times, neg_times_le, mixed}

-- ---- sums

pub sum_le : (n : ℕ) (f g : ℕ → ℤ) → ((i : ℕ) → i < n → f i ≤ℤ g i) → sum n f ≤ℤ sum n g
sum_le zero f g h = omega (arith, ints)
sum_le (suc n) f g h =
    let e = sum_le n f g (λ i l. h i (omega arith)) in
    let d = h n (omega arith) in
    omega (arith, ints)

pub sum_plus : (n : ℕ) (k : ℤ) (f g : ℕ → ℤ) → sum n (λ i. f i +ℤ k *ℤ g i) ≡ sum n f +ℤ k *ℤ sum n g
sum_plus zero k f g = omega (arith, ints)
sum_plus (suc n) k f g = let e = sum_plus n k f g in let d = distrib k (sum n g) (g n) in omega (arith, ints)

-- two sums, one of them not above the other but for the terms of x
pub sum_but : (n x : ℕ) (f g : ℕ → ℤ) → x < n → ((i : ℕ) → (x ≡ i → ⊥) → f i ≤ℤ g i) → (sum n f +ℤ g x) ≤ℤ (sum n g +ℤ f x)
sum_but zero x f g l h = absurd (omega arith)
sum_but (suc n) x f g l h =
    ⊎_elim
    (λ (e : x ≡ n). let s = sum_le n f g (λ i k. h i (omega arith)) in
    let p = ap f e in
    let q = ap g e in
    omega (arith, ints))
    (λ (d : x ≡ n → ⊥). let s = sum_but n x f g (omega arith) h in
    let e = h n d in
    omega (arith, ints))
    (cases_eq x n)

-- ---- coefficients

pub coef_added : (cs ds : List ℤ) (i : ℕ) → coef (added_coefs cs ds) i ≡ coef cs i +ℤ coef ds i
coef_added [] ds i = omega (arith, ints)
coef_added (c ∷ cs) [] i = omega (arith, ints)
coef_added (c ∷ cs) (d ∷ ds) zero = refl
coef_added (c ∷ cs) (d ∷ ds) (suc i) = coef_added cs ds i

-- a function that keeps 0 reaches each coefficient
pub coef_map : (f : ℤ → ℤ) → f (pos 0) ≡ pos 0 → (cs : List ℤ) (i : ℕ) → coef (map f cs) i ≡ f (coef cs i)
coef_map f z [] i = sym z
coef_map f z (c ∷ cs) zero = refl
coef_map f z (c ∷ cs) (suc i) = coef_map f z cs i

pub coef_plus : (p : Row) (m : ℕ) (q : Row) (i : ℕ) → coef (plus p m q).coefs i ≡ coef p.coefs i +ℤ pos m *ℤ coef q.coefs i
coef_plus p m q i =
    coef_added p.coefs (map (λ c. pos m *ℤ c) q.coefs) i
    ∙ ap (λ (z : ℤ). coef p.coefs i +ℤ z) (coef_map (λ c. pos m *ℤ c) (*ℤ-zero (pos m)) q.coefs i)

pub floor_zero : (k : ℕ) → 0 < k → floor (pos 0) k ≡ pos 0
floor_zero k l = ap (λ (z : ℤ). floor z k) (sym (*ℤ-zero (pos k))) ∙ floor_times (pos 0) k l

pub coef_cut : (k : ℕ) (r : Row) (i : ℕ) → 0 < k → coef (cut k r).coefs i ≡ floor (coef r.coefs i) k
coef_cut k r i l = coef_map (λ c. floor c k) (floor_zero k l) r.coefs i

pub coef_else : (cs : List ℤ) (x i : ℕ) → (x ≡ i → ⊥) → coef (set cs x (pos 0)) i ≡ coef cs i
coef_else cs x i d = get_or-set_other cs x i (pos 0) (pos 0) (λ e. d (sym e))

-- ---- rows with one coefficient

zeros : (n i : ℕ) → coef (replicate n (pos 0)) i ≡ pos 0
zeros zero i = refl
zeros (suc n) zero = refl
zeros (suc n) (suc i) = zeros n i

pub lone_here : (n x : ℕ) (a k : ℤ) → x < n → coef (lone n x a k).coefs x ≡ a
lone_here n x a k l = let e = length-replicate n (pos 0) in get_or-set_same (replicate n (pos 0)) x a (pos 0) (omega arith)

pub lone_else : (n x i : ℕ) (a k : ℤ) → (x ≡ i → ⊥) → coef (lone n x a k).coefs i ≡ pos 0
lone_else n x i a k d = get_or-set_other (replicate n (pos 0)) x i a (pos 0) (λ e. d (sym e)) ∙ zeros n i

-- ---- terms

-- the least value of a term is not above its value anywhere between the ends
pub term_below : (a lo hi v : ℤ) → lo ≤ℤ v → v ≤ℤ hi → term a lo hi ≤ℤ (a *ℤ v)
term_below (pos a) lo hi v l h = times_le a lo v l
term_below (negsuc a) lo hi v l h = neg_times_le a v hi h

-- it is reached at one of the ends
term_reached : (a lo hi : ℤ) → (term a lo hi ≡ a *ℤ lo) ⊎ (term a lo hi ≡ a *ℤ hi)
term_reached (pos a) lo hi = inl refl
term_reached (negsuc a) lo hi = inr refl

-- closer ends never make it less
pub term_narrows : (a lo hi lo' hi' : ℤ) → lo ≤ℤ lo' → hi' ≤ℤ hi → term a lo hi ≤ℤ term a lo' hi'
term_narrows (pos a) lo hi lo' hi' l h = times_le a lo lo' l
term_narrows (negsuc a) lo hi lo' hi' l h = neg_times_le a hi' hi h

super_at : (a b lo hi v : ℤ) (m : ℕ) → lo ≤ℤ v → v ≤ℤ hi → term (a +ℤ pos m *ℤ b) lo hi ≡ (a +ℤ pos m *ℤ b) *ℤ v →
    (term a lo hi +ℤ pos m *ℤ term b lo hi) ≤ℤ term (a +ℤ pos m *ℤ b) lo hi
super_at a b lo hi v m l h e =
    let x = mixed a b v m in
    let p = term_below a lo hi v l h in
    let q = times_le m (term b lo hi) (b *ℤ v) (term_below b lo hi v l h) in
    omega (arith, ints)

-- least values of terms only gain by being added first
pub term_super : (a b lo hi : ℤ) (m : ℕ) → lo ≤ℤ hi →
    (term a lo hi +ℤ pos m *ℤ term b lo hi) ≤ℤ term (a +ℤ pos m *ℤ b) lo hi
term_super a b lo hi m o =
    ⊎_elim (λ (e : term (a +ℤ pos m *ℤ b) lo hi ≡ (a +ℤ pos m *ℤ b) *ℤ lo). super_at a b lo hi lo m (omega (arith, ints)) o e)
    (λ (e : term (a +ℤ pos m *ℤ b) lo hi ≡ (a +ℤ pos m *ℤ b) *ℤ hi). super_at a b lo hi hi m o (omega (arith, ints)) e)
    (term_reached (a +ℤ pos m *ℤ b) lo hi)

-- ---- least values

-- closer ends never make a least value less
pub least_narrows : (n : ℕ) (lo hi lo' hi' : ℕ → ℤ) (r : Row) → ((i : ℕ) → i < n → lo i ≤ℤ lo' i) → ((i : ℕ) → i < n → hi' i ≤ℤ hi i) →
    least n lo hi r ≤ℤ least n lo' hi' r
least_narrows n lo hi lo' hi' r l h =
    let s = sum_le n (λ i. term (coef r.coefs i) (lo i) (hi i)) (λ i. term (coef r.coefs i) (lo' i) (hi' i))
    (λ i k. term_narrows (coef r.coefs i) (lo i) (hi i) (lo' i) (hi' i) (l i k) (h i k)) in
    omega (arith, ints)

-- least is superadditive
pub least_super : (n : ℕ) (lo hi : ℕ → ℤ) (p : Row) (m : ℕ) (q : Row) → ((i : ℕ) → i < n → lo i ≤ℤ hi i) →
    (least n lo hi p +ℤ pos m *ℤ least n lo hi q) ≤ℤ least n lo hi (plus p m q)
least_super n lo hi p m q o =
    let f : ℕ → ℤ = λ i. term (coef p.coefs i) (lo i) (hi i) in
    let g : ℕ → ℤ = λ i. term (coef q.coefs i) (lo i) (hi i) in
    let h : ℕ → ℤ = λ i. term (coef (plus p m q).coefs i) (lo i) (hi i) in
    let s : sum n (λ i. f i +ℤ pos m *ℤ g i) ≤ℤ sum n h =
    sum_le n (λ i. f i +ℤ pos m *ℤ g i) h
    (λ i k. subst (λ (z : ℤ). (f i +ℤ pos m *ℤ g i) ≤ℤ term z (lo i) (hi i)) (sym (coef_plus p m q i))
    (term_super (coef p.coefs i) (coef q.coefs i) (lo i) (hi i) m (o i k))) in
    let e = sum_plus n (pos m) f g in
    let d = distrib (pos m) (sum n g) q.constant in
    omega (arith, ints)

-- a row whose coefficients all divide by k
abbrev pub Divided : ℕ → Row → Type 0
Divided k r = (i : ℕ) → pos k *ℤ floor (coef r.coefs i) k ≡ coef r.coefs i

-- a coefficient of at most 0 takes the high end
term_high : (z lo hi : ℤ) → z ≤ℤ pos 0 → term z lo hi ≡ z *ℤ hi
term_high (pos zero) lo hi h = omega (arith, ints)
term_high (pos (suc a)) lo hi h = absurd (omega (arith, ints))
term_high (negsuc a) lo hi h = refl

term_times : (k : ℕ) (a lo hi : ℤ) → term (pos k *ℤ a) lo hi ≡ pos k *ℤ term a lo hi
term_times k (pos a) lo hi = assoc (pos k) (pos a) lo
term_times k (negsuc a) lo hi =
    let m = times_le k (negsuc a) (pos 0) (omega (arith, ints)) in
    let z = *ℤ-zero (pos k) in
    term_high (pos k *ℤ negsuc a) lo hi (omega (arith, ints)) ∙ assoc (pos k) (negsuc a) hi

-- a cut that divides loses nothing: k times its least value is not below that of the row
pub cut_least : (n : ℕ) (lo hi : ℕ → ℤ) (k : ℕ) (r : Row) → 0 < k → Divided k r →
    least n lo hi r ≤ℤ (pos k *ℤ least n lo hi (cut k r))
cut_least n lo hi k r l div =
    let g : ℕ → ℤ = λ i. term (coef (cut k r).coefs i) (lo i) (hi i) in
    let s : sum n (λ i. term (coef r.coefs i) (lo i) (hi i)) ≡ pos k *ℤ sum n g =
    sum_times n (pos k) (λ i. term (coef r.coefs i) (lo i) (hi i)) g
    (λ i. ap (λ (z : ℤ). term z (lo i) (hi i)) (sym (div i) ∙ ap (λ (z : ℤ). pos k *ℤ z) (sym (coef_cut k r i l)))
    ∙ term_times k (coef (cut k r).coefs i) (lo i) (hi i)) in
    let d = distrib (pos k) (sum n g) (ceiling r.constant k) in
    let c : r.constant ≤ℤ (pos k *ℤ ceiling r.constant k) = (ceiling_rounds r.constant k l).0 in
    omega (arith, ints)

-- a cut keeps a row failing
pub cut_fails : (n : ℕ) (lo hi : ℕ → ℤ) (k : ℕ) (r : Row) → 0 < k → Divided k r → pos 0 <ℤ least n lo hi r →
    pos 0 <ℤ least n lo hi (cut k r)
cut_fails n lo hi k r l div h =
    let c = cut_least n lo hi k r l div in
    by_lt_z (pos 0) (least n lo hi (cut k r)) (λ g. g)
    (λ g. let m = times_le k (least n lo hi (cut k r)) (pos 0) g in let z = *ℤ-zero (pos k) in absurd (omega (arith, ints)))

-- a cut of the rest: the least value of the rest, divided and rounded up, is not above that of the cut row's rest
pub cut_rest : (n : ℕ) (lo hi : ℕ → ℤ) (k : ℕ) (r : Row) (x : ℕ) → 0 < k → x < n → Divided k r →
    least n lo hi (without x r) ≤ℤ (pos k *ℤ least n lo hi (without x (cut k r)))
cut_rest n lo hi k r x l b div =
    let whole = cut_least n lo hi k r l div in
    let p = least_split n lo hi r x b in
    let q = least_split n lo hi (cut k r) x b in
    let t : term (coef r.coefs x) (lo x) (hi x) ≡ pos k *ℤ term (coef (cut k r).coefs x) (lo x) (hi x) =
    ap (λ (z : ℤ). term z (lo x) (hi x)) (sym (div x) ∙ ap (λ (z : ℤ). pos k *ℤ z) (sym (coef_cut k r x l)))
    ∙ term_times k (coef (cut k r).coefs x) (lo x) (hi x) in
    let d = distrib (pos k) (least n lo hi (without x (cut k r))) (term (coef (cut k r).coefs x) (lo x) (hi x)) in
    let e = ap (λ (z : ℤ). pos k *ℤ z) q in
    omega (arith, ints)
