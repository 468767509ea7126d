-- Tightening's invariant while the trail is read downwards: the bound of the row is kept, and what is set aside divides.
-- One lemma for each of the three kinds of entry. Rests on Resolving, Covering, Reasons and Multiples.
use Rattle.std.proofs.Common.{◌≡◌, ℕ, ◌<◌, true, false, eqb, List, ◌∷◌, length, ℤ, pos, ◌+ℤ◌, ◌*ℤ◌, nat_abs, ◌≤ℤ◌, sym, refl, ap, ◌∙◌, subst, arith}
use Rattle.std.proofs.lemmas.Int.{ints}
use Rattle.calculus.specs.Advice.{turned_side}
use Rattle.calculus.specs.Arithmetic.{sum}
use Rattle.calculus.specs.Bounds.{Trail, here_or, low, high, term, least, without}
use Rattle.calculus.specs.Rows.{Row, coef}
use Rattle.calculus.specs.Tightening.{plus, matches}
use Rattle.calculus.specs.declared.ranges.Range.{Range}
use Rattle.calculus.specs.declared.sides.Side.{Side}
use Rattle.calculus.specs.declared.sides.Side.TheVariants.{Low, High}
use Rattle.calculus.specs.declared.trails.Entry.{Entry}
use Rattle.calculus.proofs.BetterBounds.{here_same, here_other, sum_same, sum_only, coef_without, term_at}
use Rattle.calculus.proofs.Covering.{Covered, CoveredBut, Bare, covered_past, covered_sum}
use Rattle.calculus.proofs.Firm.{end_at, end_own, end_across, end_other}
use Rattle.calculus.proofs.Ints.{times_sum, at_each}
use Rattle.calculus.proofs.Leasts.{coef_plus, coef_else}
use Rattle.calculus.proofs.Multiples.{Multiple, multiple_plus}
use Rattle.calculus.proofs.Resolving.{unit, Tight, SameBut, match_cancel, resolve_least, unmatched_least, aside_least}

-- the least value under a trail
abbrev pub under : List Range → Trail → Row → ℤ
under rs t r = least (length rs) (low rs t) (high rs t) r

-- least values of coefficients that are set aside, under a trail
abbrev pub aside_sum : List Range → Trail → (ℕ → ℤ) → ℤ
aside_sum rs t f = sum (length rs) (λ i. term (f i) (low rs t i) (high rs t i))

-- A row is one row and k times another, place by place.
pub record SumOf (p : Row) (k : ℕ) (q : Row) (new : Row) : Type 0 where
  pub coefs : (i : ℕ) → coef new.coefs i ≡ coef p.coefs i +ℤ pos k *ℤ coef q.coefs i
  pub constant : new.constant ≡ p.constant +ℤ pos k *ℤ q.constant

pub sum_of_plus : (p : Row) (k : ℕ) (q : Row) → SumOf p k q (plus p k q)
sum_of_plus p k q = record { coefs = coef_plus p k q; constant = refl }

pub sum_of_none : (p q : Row) → SumOf p 0 q p
sum_of_none p q = record { coefs = λ i. omega (arith, ints); constant = omega (arith, ints) }

-- rows that agree place by place have one least value
pub least_same : (n : ℕ) (lo hi : ℕ → ℤ) (p q : Row) → ((i : ℕ) → coef p.coefs i ≡ coef q.coefs i) → p.constant ≡ q.constant →
    least n lo hi p ≡ least n lo hi q
least_same n lo hi p q h k =
    let s = sum_same n (λ i. term (coef p.coefs i) (lo i) (hi i)) (λ i. term (coef q.coefs i) (lo i) (hi i))
    (λ i l. ap (λ (z : ℤ). term z (lo i) (hi i)) (h i)) in
    λ i. s i +ℤ k i

-- a sum is its plus, place by place
same_plus : (p : Row) (k : ℕ) (q new : Row) → SumOf p k q new → (i : ℕ) → coef new.coefs i ≡ coef (plus p k q).coefs i
same_plus p k q new h i = h.coefs i ∙ sym (coef_plus p k q i)

-- without x too
same_without : (x : ℕ) (p q : Row) → ((i : ℕ) → coef p.coefs i ≡ coef q.coefs i) →
    (i : ℕ) → coef (without x p).coefs i ≡ coef (without x q).coefs i
same_without x p q h =
    at_each (λ (y : ℕ). coef (without x p).coefs y ≡ coef (without x q).coefs y) x
    (coef_without p.coefs x ∙ sym (coef_without q.coefs x))
    (λ i d. coef_else p.coefs x i d ∙ h i ∙ sym (coef_else q.coefs x i d))

-- Tightening of r for x by d under the whole trail, with the trail t still to be read.
pub record Kept (rs : List Range) (whole : Trail) (x d : ℕ) (r : Row) (t : Trail) (row part : Row) : Type 0 where
  -- what is set aside of the work row, a multiple of d at each place, and at x the row's own coefficient
  pub aside : ℕ → ℤ
  pub splits : (i : ℕ) → coef row.coefs i ≡ aside i +ℤ coef part.coefs i
  pub divides : (i : ℕ) → Multiple d (aside i)
  pub own : aside x ≡ coef r.coefs x
  pub constant : part.constant ≡ row.constant
  pub covered : Covered t part
  -- the least value of the row is not above that of what is set aside and of the open part under the rest of the trail
  pub bound : under rs whole r ≤ℤ (aside_sum rs whole aside +ℤ under rs t part)
  pub bare : Bare (length rs) row

bound_arith : (all old part more g f av nv pv rest rest' : ℤ) → all ≤ℤ (old +ℤ part) → more +ℤ g ≡ old +ℤ f → f ≡ av +ℤ nv → g ≡ av →
    pv ≡ nv → rest ≡ rest' → part ≤ℤ (pv +ℤ rest) → all ≤ℤ (more +ℤ rest')
bound_arith all old part more g f av nv pv rest rest' b s fi gi at r m = omega (arith, ints)

-- ends of the other unknowns do not see an entry
pub away : (rs : List Range) (t : Trail) (e : Entry) (s : Side) → SameBut e.unknown (end_at rs (e ∷ t) s) (end_at rs t s)
away rs t e s i d = end_other rs t e s i (λ h. d (sym h))

-- an entry that does not match leaves the least value as it is
pub under_past : (rs : List Range) (t : Trail) (e : Entry) (r : Row) → matches e.side (coef r.coefs e.unknown) ≡ false →
    under rs (e ∷ t) r ≡ under rs t r
under_past rs t e r m =
    unmatched_least (length rs) (low rs t) (high rs t) (low rs (e ∷ t)) (high rs (e ∷ t)) e.unknown e.side r (away rs t e Low)
    (away rs t e High) m (end_across rs t e e.unknown)

module _ (rs : List Range) (whole : Trail) (x d : ℕ) (r : Row) (e : Entry) (t : Trail) (row part : Row)
    (kept : Kept rs whole x d r (e ∷ t) row part) where
  -- an entry that does not match is passed by
  pub kept_past : matches e.side (coef part.coefs e.unknown) ≡ false → Kept rs whole x d r t row part
  kept_past m =
      let same = under_past rs t e part m in
      let b = kept.bound in
      record {
        aside = kept.aside;
        splits = kept.splits;
        divides = kept.divides;
        own = kept.own;
        constant = kept.constant;
        covered = covered_past e t part kept.covered m;
        bound = omega (arith, ints);
        bare = kept.bare;
      }

  module _ (o : (i : ℕ) → low rs t i ≤ℤ high rs t i) (known : e.unknown < length rs) (k : ℕ) (q row' part' : Row)
      (rows : SumOf row k q row') (parts : SumOf part k q part') (bare : Bare (length rs) row') where
    abbrev c : ℤ
    c = coef part.coefs e.unknown

    -- the same is added to the work row and to the open part, so what is set aside stays
    still : (i : ℕ) → coef row'.coefs i ≡ kept.aside i +ℤ coef part'.coefs i
    still i = let a = kept.splits i in let b = rows.coefs i in let d = parts.coefs i in omega (arith, ints)

    constants : part'.constant ≡ row'.constant
    constants = let a = kept.constant in let b = rows.constant in let d = parts.constant in omega (arith, ints)

    -- a matching implied entry
    pub kept_resolved : matches e.side c ≡ true → k ≡ nat_abs c →
        Tight (length rs) (low rs t) (high rs t) q e.unknown e.side e.bound → CoveredBut e.unknown t q →
        Kept rs whole x d r t row' part'
    kept_resolved m times tight covers =
        let plussed : under rs t part' ≡ under rs t (plus part k q) =
        least_same (length rs) (low rs t) (high rs t) part' (plus part k q) (same_plus part k q part' parts) parts.constant in
        let grows : under rs (e ∷ t) part ≤ℤ under rs t (plus part k q) =
        subst (λ (j : ℕ). under rs (e ∷ t) part ≤ℤ under rs t (plus part j q)) (sym times)
        (resolve_least (length rs) (low rs t) (high rs t) (low rs (e ∷ t)) (high rs (e ∷ t)) e.unknown e.side e.bound part q known
        (away rs t e Low) (away rs t e High) o m (end_own rs t e) tight) in
        let gone : coef part'.coefs e.unknown ≡ pos 0 =
        parts.coefs e.unknown
        ∙ (λ i. c +ℤ pos (times i) *ℤ tight.here i)
        ∙ match_cancel e.side c m in
        let b = kept.bound in
        record {
          aside = kept.aside;
          splits = still;
          divides = kept.divides;
          own = kept.own;
          constant = constants;
          covered = covered_sum e t part k q part' kept.covered covers gone (λ y d. same_plus part k q part' parts y);
          bound = omega (arith, ints);
          bare = bare;
        }

    -- a matching decided entry, whose unknown is fixed under the whole trail: its term is set aside
    pub kept_aside : matches e.side c ≡ true → ((s : Side) → end_at rs whole s e.unknown ≡ e.bound) → (e.unknown ≡ x → ⊥) →
        Tight (length rs) (low rs t) (high rs t) q e.unknown (turned_side e.side) e.bound → CoveredBut e.unknown t q →
        Multiple d (c +ℤ pos k *ℤ unit (turned_side e.side)) →
        Kept rs whole x d r t row' (without e.unknown part')
    kept_aside m fixed apart tight covers fill =
        let y = e.unknown in
        let v = e.bound in
        let new = coef part'.coefs y in
        let more : ℕ → ℤ = λ i. here_or (eqb i y) (kept.aside y +ℤ new) (kept.aside i) in
        let at_y : more y ≡ kept.aside y +ℤ new = here_same y _ _ in
        let else : (i : ℕ) → (y ≡ i → ⊥) → more i ≡ kept.aside i = λ i n. here_other y i _ _ n in
        let gone = coef_without part'.coefs y in
        let keeps : (i : ℕ) → (y ≡ i → ⊥) →
        coef (without y part').coefs i ≡ coef part'.coefs i = λ i n. coef_else part'.coefs y i n in
        record {
          aside = more;
          splits = at_each (λ (i : ℕ). coef row'.coefs i ≡ more i +ℤ coef (without y part').coefs i) y
              (let a = still y in omega (arith, ints))
              (λ i n. let a = still i in let b = else i n in let g = keeps i n in omega (arith, ints));
          divides = at_each (λ (i : ℕ). Multiple d (more i)) y
              (subst (Multiple d) (sym at_y)
              (multiple_plus d (kept.aside y) new (kept.divides y)
              (subst (Multiple d) (sym (parts.coefs y ∙ ap (λ (z : ℤ). c +ℤ pos k *ℤ z) tight.here)) fill)))
              (λ i n. subst (Multiple d) (sym (else i n)) (kept.divides i));
          own = else x apart ∙ kept.own;
          constant = constants;
          covered = covered_sum e t part k q (without y part') kept.covered covers gone
              (λ z n. keeps z n ∙ same_plus part k q part' parts z);
          bound = aside_bound m fixed tight more at_y else;
          bare = bare;
        }
      where
        aside_bound : matches e.side c ≡ true → ((s : Side) → end_at rs whole s e.unknown ≡ e.bound) →
            Tight (length rs) (low rs t) (high rs t) q e.unknown (turned_side e.side) e.bound →
            (more : ℕ → ℤ) → more e.unknown ≡ kept.aside e.unknown +ℤ coef part'.coefs e.unknown →
            ((i : ℕ) → (e.unknown ≡ i → ⊥) → more i ≡ kept.aside i) →
            under rs whole r ≤ℤ (aside_sum rs whole more +ℤ under rs t (without e.unknown part'))
        aside_bound m fixed tight more at_y else =
            let y = e.unknown in
            let v = e.bound in
            let new = coef part'.coefs y in
            let f : ℕ → ℤ = λ i. term (more i) (low rs whole i) (high rs whole i) in
            let g : ℕ → ℤ = λ i. term (kept.aside i) (low rs whole i) (high rs whole i) in
            let sums : sum (length rs) f +ℤ g y ≡ sum (length rs) g +ℤ f y =
            sum_only (length rs) y f g known (λ i n. ap (λ (z : ℤ). term z (low rs whole i) (high rs whole i)) (else i n)) in
            let here : (a : ℤ) → term a (low rs whole y) (high rs whole y) ≡ a *ℤ v = λ a.
            (λ i. term a (fixed Low i) (fixed High i)) ∙ term_at a v in
            let f_is : f y ≡ kept.aside y *ℤ v +ℤ new *ℤ v =
            here (more y) ∙ ap (λ (z : ℤ). z *ℤ v) at_y ∙ times_sum (kept.aside y) new v in
            let g_is : g y ≡ kept.aside y *ℤ v = here (kept.aside y) in
            let same = same_plus part k q part' parts in
            let at : coef (plus part k q).coefs y *ℤ v ≡ new *ℤ v = ap (λ (z : ℤ). z *ℤ v) (sym (same y)) in
            let rest : under rs t (without y (plus part k q)) ≡ under rs t (without y part') =
            sym (least_same (length rs) (low rs t) (high rs t) (without y part') (without y (plus part k q))
            (same_without y part' (plus part k q) same) parts.constant) in
            let main = aside_least (length rs) (low rs t) (high rs t) (low rs (e ∷ t)) (high rs (e ∷ t)) y e.side v k part q known
            (away rs t e Low) (away rs t e High) o m (end_own rs t e) tight in
            bound_arith (under rs whole r) (sum (length rs) g) (under rs (e ∷ t) part) (sum (length rs) f) (g y) (f y) (kept.aside y *ℤ v)
            (new *ℤ v) (coef (plus part k q).coefs y *ℤ v) (under rs t (without y (plus part k q))) (under rs t (without y part'))
            kept.bound sums f_is g_is at rest main
