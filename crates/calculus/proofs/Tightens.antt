-- Tightening ends in a tight row whose bound is at least as good as that of the row it was given. Rests on Narrows.
use Rattle.std.proofs.Common.{◌≡◌, ℕ, zero, suc, ◌%◌, ◌<◌, Bool, true, false, ◌&&◌, leb, List, [], length, ℤ, pos, negsuc, ◌+ℤ◌, ◌-ℤ◌, ◌*ℤ◌, neg_ℤ, nat_abs, ◌≤ℤ◌, ◌<ℤ◌, Some, Ok, Err, sym, refl, ap, ◌∙◌, subst, arith, eq-eqb}
use Rattle.std.proofs.lemmas.Int.{by_lt_z, ints}
use Rattle.std.proofs.lemmas.Bool.Decides.{nat_tests}
use Rattle.std.proofs.Math.Nat.{mod_self}
use Rattle.std.specs.Int.Signed.{le_z, lt_z}
use Rattle.calculus.specs.Arithmetic.{sum, floor, ceiling}
use Rattle.calculus.specs.Bounds.{Trail, here_or, low, high, term, least, without, bounded, better_under}
use Rattle.calculus.specs.Logs.{Line, line_row, Written}
use Rattle.calculus.specs.RunLaws.{Grown}
use Rattle.calculus.specs.Rows.{Row, coef, cut}
use Rattle.calculus.specs.Tightening.{left_open, open_part, Narrowing, going, stopped, finished_by, finished, tightened}
use Rattle.calculus.specs.declared.kinds.Kind.TheVariants.{Cut}
use Rattle.calculus.specs.declared.ranges.Range.{Range}
use Rattle.calculus.specs.declared.sides.Side.{Side}
use Rattle.calculus.specs.declared.sides.Side.TheVariants.{Low, High}
use Rattle.calculus.specs.declared.trails.Bound.{Bound}
use Rattle.calculus.proofs.BetterBounds.{picked_only, sum_zero, term_zero, sum_same, least_split}
use Rattle.calculus.proofs.Covering.{Complete, Covered, CoveredBut, Bare, complete_covers, covered_none, bare_cut}
use Rattle.calculus.proofs.Descending.{under, aside_sum, Kept}
use Rattle.calculus.proofs.Firm.{InOrder, Firm, better_nearer}
use Rattle.calculus.proofs.BetterBounds.{picked_only, sum_zero, term_zero, Nearer}
use Rattle.calculus.proofs.GoodLogs.{entered, Sound, Wrote, wrote, cut_made}
use Rattle.calculus.proofs.Ints.{times_le, times_next, ceiling_rounds, ceiling_one, floor_times}
use Rattle.calculus.proofs.Leasts.{sum_plus, coef_map, coef_cut, Divided, cut_rest}
use Rattle.calculus.proofs.Multiples.{Multiple, multiple_zero, multiple_floor, divide_test, Opened, stays, goes, opened}
use Rattle.calculus.proofs.Narrows.{Narrowed, Narrows, narrowed_narrows}
use Rattle.calculus.proofs.Reasons.{Reason, Held}
use Rattle.calculus.proofs.Resolving.{unit, toward, Tight}
use Rattle.calculus.proofs.Stepping.{grown_same, grown_on}

-- ---- what a better bound says

-- The bound of a row with coefficient a and this least value of the rest.
pub record Says (a rest : ℤ) (b : Bound) : Type 0 where
  pub some : 0 < nat_abs a
  pub sign : a ≡ pos (nat_abs a) *ℤ unit b.side
  pub value : toward b.side b.value ≡ ceiling rest (nat_abs a)

pub says : (a rest lo hi : ℤ) (b : Bound) → bounded a rest lo hi ≡ Some b → Says a rest b
says (pos zero) rest lo hi b h = absurd cc
says (pos (suc a)) rest lo hi b h =
    subst (Says (pos (suc a)) rest) (picked_only (le_z lo (floor (neg_ℤ rest) (suc a)) && lt_z (floor (neg_ℤ rest) (suc a)) hi) _ b h).1
    (record { some = omega arith; sign = omega (arith, ints); value = refl })
says (negsuc a) rest lo hi b h =
    subst (Says (negsuc a) rest) (picked_only (lt_z lo (ceiling rest (suc a)) && le_z (ceiling rest (suc a)) hi) _ b h).1
    (record { some = omega arith; sign = omega (arith, ints); value = refl })

-- ---- the start

open_zero : (b : Bool) → here_or b (pos 0) (pos 0) ≡ pos 0
open_zero true = refl
open_zero false = refl

coef_open : (d : ℕ) (r : Row) (i : ℕ) → coef (open_part d r).coefs i ≡ left_open d (coef r.coefs i)
coef_open d r i = coef_map (left_open d) (open_zero _) r.coefs i

-- a coefficient is a multiple of its own size
own_goes : (c : ℤ) → left_open (nat_abs c) c ≡ pos 0
own_goes c = ap (λ (b : Bool). here_or b (pos 0) c) (eq-eqb (nat_abs c % nat_abs c) 0 (mod_self (nat_abs c)))

term_parts : (d : ℕ) (c lo hi : ℤ) → Opened d c → term c lo hi ≡ term (c -ℤ left_open d c) lo hi +ℤ pos 1 *ℤ term (left_open d c) lo hi
term_parts d c lo hi (stays e) =
    let a : term (c -ℤ left_open d c) lo hi ≡ pos 0 = ap (λ (z : ℤ). term z lo hi)
    (let z : c -ℤ left_open d c ≡ pos 0 = omega (arith, ints) in z)
    ∙ omega (arith, ints) in
    let b = ap (λ (z : ℤ). term z lo hi) e in
    omega (arith, ints)
term_parts d c lo hi (goes e m) =
    let a = ap (λ (z : ℤ). term z lo hi) (let z : c -ℤ left_open d c ≡ c = omega (arith, ints) in z) in
    let b : term (left_open d c) lo hi ≡ pos 0 = ap (λ (z : ℤ). term z lo hi) e ∙ omega (arith, ints) in
    omega (arith, ints)

aside_divides : (d : ℕ) (c : ℤ) → Opened d c → Multiple d (c -ℤ left_open d c)
aside_divides d c (stays e) = subst (Multiple d) (let z : pos 0 ≡ c -ℤ left_open d c = omega (arith, ints) in z) (multiple_zero d)
aside_divides d c (goes e m) = subst (Multiple d) (let z : c ≡ c -ℤ left_open d c = omega (arith, ints) in z) m

pub kept_start : (rs : List Range) (whole : Trail) (x : ℕ) (r : Row) → Complete rs whole → Bare (length rs) r →
    Kept rs whole x (nat_abs (coef r.coefs x)) r whole r (open_part (nat_abs (coef r.coefs x)) r)
kept_start rs whole x r complete bare =
    let d = nat_abs (coef r.coefs x) in
    let part = open_part d r in
    let lo = low rs whole in
    let hi = high rs whole in
    let open_bare : Bare (length rs) part = λ y l. coef_open d r y ∙ ap (left_open d) (bare y l) ∙ open_zero _ in
    let f : ℕ → ℤ = λ i. term (coef r.coefs i -ℤ left_open d (coef r.coefs i)) (lo i) (hi i) in
    let g : ℕ → ℤ = λ i. term (coef part.coefs i) (lo i) (hi i) in
    let s : sum (length rs) (λ i. term (coef r.coefs i) (lo i) (hi i)) ≡ sum (length rs) (λ i. f i +ℤ pos 1 *ℤ g i) =
    sum_same (length rs) (λ i. term (coef r.coefs i) (lo i) (hi i)) (λ i. f i +ℤ pos 1 *ℤ g i)
    (λ i l. term_parts d (coef r.coefs i) (lo i) (hi i) (opened d (coef r.coefs i))
    ∙ ap (λ (z : ℤ). f i +ℤ pos 1 *ℤ term z (lo i) (hi i)) (sym (coef_open d r i))) in
    let p = sum_plus (length rs) (pos 1) f g in
    record {
      aside = λ i. coef r.coefs i -ℤ left_open d (coef r.coefs i);
      splits = λ i. let e = coef_open d r i in omega (arith, ints);
      divides = λ i. aside_divides d (coef r.coefs i) (opened d (coef r.coefs i));
      own = let e = own_goes (coef r.coefs x) in omega (arith, ints);
      constant = refl;
      covered = complete_covers rs whole part complete open_bare;
      bound = omega (arith, ints);
      bare = bare;
    }

-- ---- the end

-- the whole trail is read: every coefficient of the work row divides, x has its own, and the bound is kept
pub record Closed (rs : List Range) (whole : Trail) (x d : ℕ) (r row : Row) : Type 0 where
  pub multiples : (i : ℕ) → Multiple d (coef row.coefs i)
  pub own : coef row.coefs x ≡ coef r.coefs x
  pub bound : under rs whole r ≤ℤ under rs whole row

pub plain_least : (n : ℕ) (lo hi : ℕ → ℤ) (r : Row) → ((i : ℕ) → coef r.coefs i ≡ pos 0) → least n lo hi r ≡ r.constant
plain_least n lo hi r h =
    let z : sum n (λ i. term (coef r.coefs i) (lo i) (hi i)) ≡ pos 0 =
    sum_zero n (λ i. term (coef r.coefs i) (lo i) (hi i)) (λ i. term_zero (coef r.coefs i) (lo i) (hi i) (h i)) in
    omega (arith, ints)

pub kept_closed : (rs : List Range) (whole : Trail) (x d : ℕ) (r row part : Row) → Kept rs whole x d r [] row part →
    Closed rs whole x d r row
kept_closed rs whole x d r row part kept =
    let none = covered_none part kept.covered in
    let same : (i : ℕ) → coef row.coefs i ≡ kept.aside i = λ i. let a = kept.splits i in let b = none i in omega (arith, ints) in
    let rest = plain_least (length rs) (low rs []) (high rs []) part none in
    let sums : aside_sum rs whole kept.aside ≡ sum (length rs) (λ i. term (coef row.coefs i) (low rs whole i) (high rs whole i)) =
    sum_same (length rs) (λ i. term (kept.aside i) (low rs whole i) (high rs whole i))
    (λ i. term (coef row.coefs i) (low rs whole i) (high rs whole i))
    (λ i l. ap (λ (z : ℤ). term z (low rs whole i) (high rs whole i)) (sym (same i))) in
    let c = kept.constant in
    let b = kept.bound in
    record {
      multiples = λ i. subst (Multiple d) (sym (same i)) (kept.divides i);
      own = same x ∙ kept.own;
      bound = omega (arith, ints);
    }

-- ---- the tight row

ceiling_le : (z w : ℤ) (k : ℕ) → 0 < k → z ≤ℤ (pos k *ℤ w) → ceiling z k ≤ℤ w
ceiling_le z w k l h =
    by_lt_z w (ceiling z k)
    (λ g. let t = times_le k (w +ℤ pos 1) (ceiling z k) (omega (arith, ints)) in
    let n = times_next k w in
    let c : (pos k *ℤ ceiling z k) <ℤ (z +ℤ pos k) = (ceiling_rounds z k l).1 in
    absurd (omega (arith, ints)))
    (λ g. g)

-- What is given to tightening: a row that bounds x better under a complete trail.
module _ (rs : List Range) (whole : Trail) (x : ℕ) (r row : Row) (b : Bound) (known : x < length rs)
    (says : Says (coef r.coefs x) (under rs whole (without x r)) b)
    (closed : Closed rs whole x (nat_abs (coef r.coefs x)) r row) where
  abbrev d : ℕ
  d = nat_abs (coef r.coefs x)

  -- the rest of the work row is not below that of the row
  rests : under rs whole (without x r) ≤ℤ under rs whole (without x row)
  rests =
      let p = least_split (length rs) (low rs whole) (high rs whole) r x known in
      let q = least_split (length rs) (low rs whole) (high rs whole) row x known in
      let e = ap (λ (z : ℤ). term z (low rs whole x) (high rs whole x)) closed.own in
      let b = closed.bound in
      omega (arith, ints)

  divided : Divided d row
  divided i = multiple_floor d (coef row.coefs i) says.some (closed.multiples i)

  -- by the cut, where d is 2 or more
  pub tight_cut : Tight (length rs) (low rs whole) (high rs whole) (cut d row) x b.side b.value
  tight_cut =
      let cuts = cut_rest (length rs) (low rs whole) (high rs whole) d row x says.some known divided in
      let less = rests in
      let c = ceiling_le (under rs whole (without x r)) (under rs whole (without x (cut d row))) d says.some (omega (arith, ints)) in
      let v = says.value in
      record {
        here = coef_cut d row x says.some
            ∙ ap (λ (z : ℤ). floor z d) (closed.own ∙ says.sign)
            ∙ floor_times (unit b.side) d says.some;
        rest = omega (arith, ints);
      }

  -- as it is, where d is 1
  pub tight_plain : d ≡ 1 → Tight (length rs) (low rs whole) (high rs whole) row x b.side b.value
  tight_plain one =
      let less = rests in
      let v : toward b.side b.value ≡ under rs whole (without x r) =
      says.value ∙ ap (ceiling (under rs whole (without x r))) one ∙ ceiling_one (under rs whole (without x r)) in
      record {
        here = closed.own ∙ says.sign ∙ ap (λ (k : ℕ). pos k *ℤ unit b.side) one ∙
            (let e : pos 1 *ℤ unit b.side ≡ unit b.side = omega (arith, ints) in e);
        rest = omega (arith, ints);
      }

-- what tightening leaves: a line that is a reason for the bound
abbrev pub Tightened : List Range → List Row → Trail → ℕ → Bound → List Line → Written → Type 0
Tightened rs rows whole x b ls (Ok q, ms) = Reason rs ms whole q x b.side b.value × Sound rs rows ms × Grown ls ms
Tightened rs rows whole x b ls (Err f, ms) = Sound rs rows ms

but : (x : ℕ) (t : Trail) (r : Row) → Covered t r → CoveredBut x t r
but x t r h s y d m = h s y m

module _ (rs : List Range) (rows : List Row) (whole : Trail) (x : ℕ) (r : Row) (b : Bound) (ls : List Line) (o : InOrder rs)
    (firm : Firm rs whole)
    (held : Held rs ls whole) (complete : Complete rs whole) (known : x < length rs) (bare : Bare (length rs) r)
    (found : better_under rs whole r x ≡ Some b) where
  abbrev size : ℕ
  size = nat_abs (coef r.coefs x)

  said : Says (coef r.coefs x) (under rs whole (without x r)) b
  said = says (coef r.coefs x) (under rs whole (without x r)) (low rs whole x) (high rs whole x) b found

  wide : low rs whole x <ℤ high rs whole x
  wide = apart b.side (better_nearer rs whole r x b known found)
    where
      apart : (s : Side) → Nearer s (low rs whole x) (high rs whole x) b.value → low rs whole x <ℤ high rs whole x
      apart Low n = let p = n.0 in let q = n.1 in omega (arith, ints)
      apart High n = let p = n.0 in let q = n.1 in omega (arith, ints)

  module _ (row part : Row) (line : ℕ) (ms : List Line) (n : Narrowed rs rows whole x size r ls [] row part line ms) where
    shut : Closed rs whole x size r row
    shut = kept_closed rs whole x size r row part n.kept

    of_cut : (w : Written) → Wrote (Cut line size) (cut size row) ms w → Tightened rs rows whole x b ls w
    of_cut (Ok q, ns) w =
        let thin = bare_cut (length rs) size row said.some n.kept.bare in
        let made = cut_made rs rows ms row line size n.held n.is said.some (divide_test size row.coefs shut.multiples) in
        let last = entered rs rows (Cut line size) (cut size row) ms q ns n.sound made thin w in (
          record {
            held = last.held;
            tight = subst (λ (k : Row). Tight (length rs) (low rs whole) (high rs whole) k x b.side b.value) (sym last.is)
                (tight_cut rs whole x r row b known said shut);
            covered = subst (CoveredBut x whole) (sym last.is)
                (but x whole (cut size row) (complete_covers rs whole (cut size row) complete thin));
          },
          last.sound,
          grown_on n.grown last.grown,
        )
    of_cut (Err f, ns) w = subst (Sound rs rows) (sym w) n.sound

    of_finished : (two : Bool) (capacity : ℕ) → leb 2 size ≡ two →
        Tightened rs rows whole x b ls (finished_by two capacity size row line ms)
    of_finished true capacity h = of_cut _ (wrote capacity (Cut line size) (cut size row) ms)
    of_finished false capacity h =
        let some = said.some in
        let one : size ≡ 1 = grind (arith, nat_tests) in (
          record {
            held = n.held;
            tight = subst (λ (k : Row). Tight (length rs) (low rs whole) (high rs whole) k x b.side b.value) (sym n.is)
                (tight_plain rs whole x r row b known said shut one);
            covered = subst (CoveredBut x whole) (sym n.is) (but x whole row (complete_covers rs whole row complete n.kept.bare));
          },
          n.sound,
          n.grown,
        )

  of_narrowed : (w : Narrowing) (capacity : ℕ) → Narrows rs rows whole x size r ls [] w →
      Tightened rs rows whole x b ls (finished capacity size w)
  of_narrowed (going row part line ms) capacity n = of_finished row part line ms n (leb 2 size) capacity refl
  of_narrowed (stopped f ms) capacity n = n

  pub tightened_reason : (capacity line : ℕ) → Sound rs rows ls → line < length ls → line_row ls line ≡ r →
      Tightened rs rows whole x b ls (tightened capacity whole r line x ls)
  tightened_reason capacity line sound l is =
      of_narrowed _ capacity
      (narrowed_narrows rs rows whole x size r ls o firm wide said.some capacity [] whole (going r (open_part size r) line ls) refl
      firm held
      (record { kept = kept_start rs whole x r complete bare; sound = sound; grown = grown_same ls; held = l; is = is }))
