-- Repair keeps a conflict failing and covered; where a decision cannot be dropped the conflict bounds its unknown better.
-- Rests on Resolving, Covering and Reasons.
use Rattle.std.specs.Prelude.{None}
use Rattle.std.proofs.Common.{◌≡◌, ℕ, zero, suc, ◌<◌, ◌≤◌, Bool, true, false, ◌&&◌, List, ◌∷◌, length, ℤ, pos, negsuc, ◌+ℤ◌, ◌*ℤ◌, neg_ℤ, nat_abs, ◌≤ℤ◌, ◌<ℤ◌, Some, sym, refl, ap, ◌∙◌, subst, ⊎_elim, arith}
use Prim.Native.Nat.{◌∣◌}
use Rattle.std.proofs.ByRecursion.{All-get_or}
use Rattle.std.proofs.lemmas.List.{get_or_past}
use Rattle.std.proofs.lemmas.Int.{by_lt_z, ints}
use Rattle.std.proofs.lemmas.Bool.{cases_lt}
use Rattle.std.proofs.lemmas.Nat.Gcd.{mod-eq-zero_of_dvd}
use Rattle.std.specs.Int.Signed.{le_z, lt_z}
use Rattle.calculus.specs.Advice.{turned_side}
use Rattle.calculus.specs.Arithmetic.{floor, ceiling, common}
use Rattle.calculus.specs.Bounds.{Trail, low, high, term, without, bounded, fails_under, better_under}
use Rattle.calculus.specs.Logs.{Line, line_row}
use Rattle.calculus.specs.Machines.{decided_value}
use Rattle.calculus.specs.Rows.{Row, coef, cut}
use Rattle.calculus.specs.Tables.{picked}
use Rattle.calculus.specs.Tightening.{plus, matches}
use Rattle.calculus.specs.declared.ranges.Range.{Range}
use Rattle.calculus.specs.declared.sides.Side.{Side}
use Rattle.calculus.specs.declared.sides.Side.TheVariants.{Low, High}
use Rattle.calculus.specs.declared.trails.Bound.{Bound}
use Rattle.calculus.specs.declared.trails.Entry.{Entry}
use Rattle.calculus.proofs.BetterBounds.{coef_without, least_split}
use Rattle.calculus.proofs.Covering.{Covered, Complete, Bare, covered_past, covered_sum, complete_covers, covered_cut, bare_plus, bare_cut}
use Rattle.calculus.proofs.Descending.{under, away, under_past}
use Rattle.calculus.proofs.Divisors.{common_divides}
use Rattle.calculus.proofs.Firm.{Sits, end_own}
use Rattle.calculus.proofs.Ints.{times_le, times_next, floor_rounds, ceiling_rounds}
use Rattle.calculus.proofs.Leasts.{coef_plus, cut_fails}
use Rattle.calculus.proofs.Multiples.{Multiple, multiple_mod, multiple_zero, multiple_floor}
use Rattle.calculus.proofs.Reasons.{Reason}
use Rattle.calculus.proofs.Resolving.{by_match, match_term, match_cancel, resolve_least}

-- A conflict over a trail: the row fails, and each of its terms has a matching entry.
pub record Conflict (rs : List Range) (t : Trail) (j : Row) : Type 0 where
  pub fails : pos 0 <ℤ under rs t j
  pub covered : Covered t j
  pub bare : Bare (length rs) j

module _ (rs : List Range) (e : Entry) (t : Trail) (j : Row) (conflict : Conflict rs (e ∷ t) j) where
  -- an entry that does not match is taken off
  pub conflict_past : matches e.side (coef j.coefs e.unknown) ≡ false → Conflict rs t j
  conflict_past m =
      let same = under_past rs t e j m in
      let f = conflict.fails in
      record { fails = omega (arith, ints); covered = covered_past e t j conflict.covered m; bare = conflict.bare }

  -- a matching implied entry is resolved by its reason
  pub conflict_resolved : (ls : List Line) (q : ℕ) → ((i : ℕ) → low rs t i ≤ℤ high rs t i) → e.unknown < length rs →
      matches e.side (coef j.coefs e.unknown) ≡ true → Reason rs ls t q e.unknown e.side e.bound →
      Bare (length rs) (line_row ls q) → Conflict rs t (plus j (nat_abs (coef j.coefs e.unknown)) (line_row ls q))
  conflict_resolved ls q o known m reason bare =
      let c = coef j.coefs e.unknown in
      let r = line_row ls q in
      let grows = resolve_least (length rs) (low rs t) (high rs t) (low rs (e ∷ t)) (high rs (e ∷ t)) e.unknown e.side e.bound j
      r known
      (away rs t e Low) (away rs t e High) o m (end_own rs t e) reason.tight in
      let gone : coef (plus j (nat_abs c) r).coefs e.unknown ≡ pos 0 =
      coef_plus j (nat_abs c) r e.unknown ∙ ap (λ (z : ℤ). c +ℤ pos (nat_abs c) *ℤ z) reason.tight.here ∙ match_cancel e.side c m in
      let f = conflict.fails in
      record {
        fails = omega (arith, ints);
        covered = covered_sum e t j (nat_abs c) r (plus j (nat_abs c) r) conflict.covered reason.covered gone (λ y d. refl);
        bare = bare_plus (length rs) j (nat_abs c) r conflict.bare bare;
      }

-- a decision is dropped where the conflict fails without it
pub conflict_dropped : (rs : List Range) (t : Trail) (j : Row) → fails_under rs t j ≡ true → Complete rs t → Bare (length rs) j →
    Conflict rs t j
conflict_dropped rs t j f complete bare =
    record {
      fails = omega (arith, ints);
      covered = complete_covers rs t j complete bare;
      bare = bare;
    }

-- ---- reduction

-- every coefficient is a multiple of the common divisor
pub common_multiple : (cs : List ℤ) (i : ℕ) → Multiple (common cs) (coef cs i)
common_multiple cs i =
    ⊎_elim
    (λ (l : i < length cs). multiple_mod (common cs) (coef cs i)
    (mod-eq-zero_of_dvd (common cs) (All-get_or (λ c. common cs ∣ nat_abs c) cs i (pos 0) l (common_divides cs))))
    (λ (l : length cs ≤ i). subst (Multiple (common cs)) (sym (get_or_past cs i (pos 0) l)) (multiple_zero (common cs)))
    (cases_lt i (length cs))

pub conflict_cut : (rs : List Range) (t : Trail) (j : Row) → 0 < common j.coefs → Conflict rs t j →
    Conflict rs t (cut (common j.coefs) j)
conflict_cut rs t j l c =
    let g = common j.coefs in
    let div : (i : ℕ) → pos g *ℤ floor (coef j.coefs i) g ≡ coef j.coefs i =
    λ i. multiple_floor g (coef j.coefs i) l (common_multiple j.coefs i) in
    record {
      fails = cut_fails (length rs) (low rs t) (high rs t) g j l div c.fails;
      covered = covered_cut t g j l div c.covered;
      bare = bare_cut (length rs) g j l c.bare;
    }

-- ---- the bound of a conflict

-- the end at which a row is worst
abbrev worst : ℤ → ℤ → ℤ → ℤ
worst (pos a) lo hi = hi
worst (negsuc a) lo hi = lo

-- a row that does not fail at its best end and fails at its worst has a better bound
pub bounded_some : (a rest lo hi : ℤ) → (rest +ℤ term a lo hi) ≤ℤ pos 0 → pos 0 <ℤ (rest +ℤ a *ℤ worst a lo hi) →
    (b : Bound) × (bounded a rest lo hi ≡ Some b)
bounded_some (pos zero) rest lo hi l h = absurd (omega (arith, ints))
bounded_some (pos (suc a)) rest lo hi l h =
    let k = suc a in
    let v = floor (neg_ℤ rest) k in
    let f = floor_rounds (neg_ℤ rest) k (omega arith) in
    let p : (pos k *ℤ v) ≤ℤ neg_ℤ rest = f.0 in
    let q : neg_ℤ rest <ℤ (pos k *ℤ (v +ℤ pos 1)) = f.1 in
    let from : lo ≤ℤ v = by_lt_z v lo (λ g. let t = times_le k (v +ℤ pos 1) lo (omega (arith, ints)) in absurd (omega (arith, ints)))
    (λ g. g) in
    let to : v <ℤ hi = by_lt_z v hi (λ g. g) (λ g. let t = times_le k hi v g in absurd (omega (arith, ints))) in (
      record { side = High; value = v },
      ap (λ (t : Bool). picked t (record { side = High; value = v }))
          (let e : (le_z lo v && lt_z v hi) ≡ true = grind (arith, ints) in e),
    )
bounded_some (negsuc a) rest lo hi l h =
    let k = suc a in
    let v = ceiling rest k in
    let f = ceiling_rounds rest k (omega arith) in
    let p : rest ≤ℤ (pos k *ℤ v) = f.0 in
    let q : (pos k *ℤ v) <ℤ (rest +ℤ pos k) = f.1 in
    let from : lo <ℤ v = by_lt_z lo v (λ g. g) (λ g. let t = times_le k v lo g in absurd (omega (arith, ints))) in
    let to : v ≤ℤ hi = by_lt_z hi v
    (λ g. let t = times_le k (hi +ℤ pos 1) v (omega (arith, ints)) in let n = times_next k hi in absurd (omega (arith, ints))) (λ g. g) in (
      record { side = Low; value = v },
      ap (λ (t : Bool). picked t (record { side = Low; value = v }))
          (let e : (lt_z lo v && le_z v hi) ≡ true = grind (arith, ints) in e),
    )

match_worst : (s : Side) (c lo hi : ℤ) → matches s c ≡ true → decided_value (turned_side s) lo hi ≡ worst c lo hi
match_worst s c lo hi m =
    by_match (λ s c. decided_value (turned_side s) lo hi ≡ worst c lo hi) (λ a. refl) (λ a. refl) s c m

-- the rest of a row does not see an entry on the unknown that is left out
rest_away : (rs : List Range) (e : Entry) (t : Trail) (j : Row) →
    under rs (e ∷ t) (without e.unknown j) ≡ under rs t (without e.unknown j)
rest_away rs e t j =
    under_past rs t e (without e.unknown j) (plain e.side (coef (without e.unknown j).coefs e.unknown)
    (coef_without j.coefs e.unknown))
  where
    plain : (s : Side) (z : ℤ) → z ≡ pos 0 → matches s z ≡ false
    plain Low z e = ap (matches Low) e
    plain High z e = ap (matches High) e

bounds_by : (b : Bool) (rs : List Range) (e : Entry) (t : Trail) (j : Row) → matches e.side (coef j.coefs e.unknown) ≡ b →
    Conflict rs (e ∷ t) j → Sits rs t e → e.cause ≡ None → under rs t j ≤ℤ pos 0 →
    (b : Bound) × (better_under rs t j e.unknown ≡ Some b)
bounds_by false rs e t j m c sits why l =
    let past = conflict_past rs e t j c m in
    let f = past.fails in
    absurd (omega (arith, ints))
bounds_by true rs e t j m c sits why l =
    let x = e.unknown in
    let a = coef j.coefs x in
    let here = least_split (length rs) (low rs t) (high rs t) j x sits.known in
    let there = least_split (length rs) (low rs (e ∷ t)) (high rs (e ∷ t)) j x sits.known in
    let rest = rest_away rs e t j in
    let term_is : term a (low rs (e ∷ t) x) (high rs (e ∷ t) x) ≡ a *ℤ worst a (low rs t x) (high rs t x) =
    match_term e.side a (low rs (e ∷ t) x) (high rs (e ∷ t) x) e.bound m (end_own rs t e)
    ∙ ap (λ (z : ℤ). a *ℤ z) (sits.fixes why ∙ match_worst e.side a (low rs t x) (high rs t x) m) in
    let f = c.fails in
    bounded_some a (under rs t (without x j)) (low rs t x) (high rs t x) (omega (arith, ints)) (omega (arith, ints))

-- a decision that may not be dropped: the conflict bounds its unknown better
pub conflict_bounds : (rs : List Range) (e : Entry) (t : Trail) (j : Row) → Conflict rs (e ∷ t) j → Sits rs t e → e.cause ≡ None →
    fails_under rs t j ≡ false → (b : Bound) × (better_under rs t j e.unknown ≡ Some b)
conflict_bounds rs e t j c sits why f = bounds_by _ rs e t j refl c sits why (omega (arith, ints))
