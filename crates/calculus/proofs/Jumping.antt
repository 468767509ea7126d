-- A decision that may not be dropped: the conflict has a better bound there, on the other side. Rests on the run's invariant.
use Rattle.std.proofs.Common.{◌≡◌, suc, Bool, true, false, ◌&&◌, List, ◌∷◌, ℤ, neg_ℤ, Some, sym, refl, ap, subst, arith}
use Rattle.std.specs.Int.Signed.{le_z, lt_z}
use Rattle.std.proofs.lemmas.Int.{ints}
use Rattle.calculus.specs.Advice.{turned_side}
use Rattle.calculus.specs.Arithmetic.{floor, ceiling}
use Rattle.calculus.specs.Bounds.{Trail, low, high, without, bounded, fails_under}
use Rattle.calculus.specs.Machines.{Context, Phase}
use Rattle.calculus.specs.Promises.{JumpFound}
use Rattle.calculus.specs.Rows.{Row, coef}
use Rattle.calculus.specs.Runs.{start, run, rows_of}
use Rattle.calculus.specs.Tightening.{matches}
use Rattle.calculus.specs.declared.ranges.Range.{Range}
use Rattle.calculus.specs.declared.sides.Side.{Side}
use Rattle.calculus.specs.declared.sides.Side.TheVariants.{Low, High}
use Rattle.calculus.specs.declared.trails.Bound.{Bound}
use Rattle.calculus.specs.declared.trails.Entry.{Entry}
use Rattle.calculus.proofs.BetterBounds.{picked_only}
use Rattle.calculus.proofs.Conflicts.{Conflict, conflict_past, conflict_bounds}
use Rattle.calculus.proofs.Descending.{under}
use Rattle.calculus.proofs.Firm.{fit_order}
use Rattle.calculus.proofs.Keeping.{Repairs, Well}
use Rattle.calculus.proofs.Nones.{thin_rows}
use Rattle.calculus.proofs.Resolving.{by_match}
use Rattle.calculus.proofs.Starting.{run_well}

-- a coefficient that a side matches bounds on the other side
bound_side : (s : Side) (a rest lo hi : ℤ) (b : Bound) → matches s a ≡ true → bounded a rest lo hi ≡ Some b → b.side ≡ turned_side s
bound_side s a rest lo hi b m h =
    by_match (λ s a. bounded a rest lo hi ≡ Some b → b.side ≡ turned_side s)
    (λ a h. ap (λ (z : Bound). z.side) (sym (picked_only (le_z lo (floor (neg_ℤ rest) (suc a)) && lt_z (floor (neg_ℤ rest) (suc a)) hi)
    (record { side = High; value = floor (neg_ℤ rest) (suc a) }) b h).1))
    (λ a h. ap (λ (z : Bound). z.side) (sym (picked_only (lt_z lo (ceiling rest (suc a)) && le_z (ceiling rest (suc a)) hi)
    (record { side = Low; value = ceiling rest (suc a) }) b h).1))
    s a m h

-- the entry matches, or the conflict would fail without it
matches_by : (v : Bool) (rs : List Range) (e : Entry) (t : Trail) (j : Row) → matches e.side (coef j.coefs e.unknown) ≡ v →
    Conflict rs (e ∷ t) j → fails_under rs t j ≡ false → v ≡ true
matches_by true rs e t j m c f = refl
matches_by false rs e t j m c f =
    let past = conflict_past rs e t j c m in
    let g = past.fails in
    absurd (omega (arith, ints))

pub jump_found : JumpFound
jump_found rs rows a capacity budget steps fr fs j line place e t phase tops why passes =
    let c : Context = record { ranges = rs; rows = rows_of rows; capacity = capacity } in
    let m = (run c budget steps (record { at = start c a; made = 0 })).at in
    let well = run_well c budget steps a (record { order = fit_order rs fr; thin = thin_rows _ rows fs.shaped }) in
    let r : Repairs c (e ∷ t) m.lines j line place =
    subst (λ (z : Trail). Repairs c z m.lines j line place) tops
    (subst (λ (p : Phase). Well c p m.trail m.lines) phase well) in
    let found = conflict_bounds rs e t j r.conflict r.backing.firm.0 why passes in (
      found.0,
      found.1,
      bound_side e.side (coef j.coefs e.unknown) (under rs t (without e.unknown j)) (low rs t e.unknown)
          (high rs t e.unknown) found.0 (matches_by _ rs e t j refl r.conflict passes) found.1,
    )
