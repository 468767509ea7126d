-- The trail's own invariant, for any lines: each entry lies within the ends below it, and a decided one fixes its unknown at the far end.
-- From it: low is never above high, and ends only move inwards as the trail grows. Every step keeps it; it rests on the three moves and
-- on what a step without a move leaves of the trail.
use Rattle.std.specs.Prelude.{None}
use Rattle.std.proofs.Common.{◌≡◌, ℕ, zero, suc, ◌+◌, ◌<◌, ◌≤◌, Bool, true, false, eqb, ◌⊎◌, List, [], ◌∷◌, length, ℤ, pos, ◌≤ℤ◌, ◌<ℤ◌, Some, sym, refl, ap, ◌∙◌, subst, inl, inr, ⊎_elim, arith}
use Rattle.std.specs.List.{AllByRecursion}
use Rattle.std.proofs.lemmas.List.{get_or_past}
use Rattle.std.proofs.lemmas.Int.{by_lt_z, ints}
use Rattle.std.proofs.lemmas.Bool.{and_parts, and_from, and_left, and_right, or_parts, cases_lt, eqb-true, eq-eqb, ne_eqb, false≢true}
use Rattle.std.specs.Int.Signed.{lt_z}
use Rattle.calculus.specs.Account.{bad_range}
use Rattle.calculus.specs.Advice.{Order, Advice, first_open, only_if, choice, turned_side}
use Rattle.calculus.specs.Bounds.{Trail, same_side, on, here_or, range_at, low, high, lows, highs, row_at, better_under}
use Rattle.calculus.specs.Machines.{Context, Machine, Acted, free, halted, moved, decided_value, decided, act}
use Rattle.calculus.specs.MoveLaws.{Propagates, Decides, Backjumps}
use Rattle.calculus.specs.Promises.{FitRanges}
use Rattle.calculus.specs.Rows.{Row, coef}
use Rattle.calculus.specs.RunLaws.{after}
use Rattle.calculus.specs.Runs.{range_entries, start_by, start, run}
use Rattle.calculus.specs.declared.ranges.Range.{Range}
use Rattle.calculus.specs.declared.sides.Side.{Side}
use Rattle.calculus.specs.declared.sides.Side.TheVariants.{Low, High}
use Rattle.calculus.specs.declared.trails.Bound.{Bound}
use Rattle.calculus.specs.declared.trails.Entry.{Entry}
use Rattle.calculus.proofs.Advising.{open_some}
use Rattle.calculus.proofs.BetterBounds.{Nearer, better_is_last}
use Rattle.calculus.proofs.Firsts.{first_pair}
use Rattle.calculus.proofs.Moves.{one_of_three}
use Rattle.calculus.proofs.Reduction.{same_number_decides}
use Rattle.calculus.proofs.Running.{run_keeps}
use Rattle.calculus.proofs.Tabling.{table_long, table_at}
use Rattle.calculus.proofs.Unmoved.{Lower, lower_keeps, Rest, act_rest}

-- low is not above high in any range
abbrev pub InOrder : List Range → Type 0
InOrder rs = (x : ℕ) → (range_at rs x).low ≤ℤ (range_at rs x).high

-- the present end of x on a side
abbrev pub end_at : List Range → Trail → Side → ℕ → ℤ
end_at rs t s x = decided_value s (low rs t x) (high rs t x)

-- An entry sits well over the trail below it.
pub record Sits (rs : List Range) (t : Trail) (e : Entry) : Type 0 where
  pub known : e.unknown < length rs
  pub above : low rs t e.unknown ≤ℤ e.bound
  pub below : e.bound ≤ℤ high rs t e.unknown
  -- a decided entry is on an unknown that was not fixed, and fixes it at the end of the other side
  pub unfixed : e.cause ≡ None → low rs t e.unknown <ℤ high rs t e.unknown
  pub fixes : e.cause ≡ None → e.bound ≡ end_at rs t (turned_side e.side) e.unknown

-- every entry of a trail sits well
abbrev pub Firm : List Range → Trail → Type 0
Firm rs [] = Unit {0}
Firm rs (e ∷ t) = Sits rs t e × Firm rs t

-- ---- ends after one more entry

side_same : (s r : Side) → same_side s r ≡ true → s ≡ r
side_same Low Low h = refl
side_same Low High h = absurd (false≢true h)
side_same High Low h = absurd (false≢true h)
side_same High High h = refl

side_self : (s : Side) → same_side s s ≡ true
side_self Low = refl
side_self High = refl

side_turned : (s : Side) → same_side (turned_side s) s ≡ false
side_turned Low = refl
side_turned High = refl

-- what an entry on x of side s is
pub on_is : (s : Side) (x : ℕ) (e : Entry) → on s x e ≡ true → (s ≡ e.side) × (x ≡ e.unknown)
on_is s x e h =
    let p = and_parts (same_side s e.side) (eqb x e.unknown) h in
    (side_same s e.side p.0, eqb-true x e.unknown p.1)

pub on_own : (e : Entry) → on e.side e.unknown e ≡ true
on_own e = and_from _ _ (side_self e.side) (eq-eqb e.unknown e.unknown refl)

module _ (rs : List Range) (t : Trail) (e : Entry) where
  -- an entry on x of side s is the new end there
  pub end_here : (s : Side) (x : ℕ) → on s x e ≡ true → end_at rs (e ∷ t) s x ≡ e.bound
  end_here Low x h = ap (λ (b : Bool). here_or b e.bound (low rs t x)) h
  end_here High x h = ap (λ (b : Bool). here_or b e.bound (high rs t x)) h

  -- any other entry leaves the end as it was
  pub end_away : (s : Side) (x : ℕ) → on s x e ≡ false → end_at rs (e ∷ t) s x ≡ end_at rs t s x
  end_away Low x h = ap (λ (b : Bool). here_or b e.bound (low rs t x)) h
  end_away High x h = ap (λ (b : Bool). here_or b e.bound (high rs t x)) h

  pub end_own : end_at rs (e ∷ t) e.side e.unknown ≡ e.bound
  end_own = end_here e.side e.unknown (on_own e)

  pub end_across : (x : ℕ) → end_at rs (e ∷ t) (turned_side e.side) x ≡ end_at rs t (turned_side e.side) x
  end_across x = end_away (turned_side e.side) x (and_left _ _ (side_turned e.side))

  pub end_other : (s : Side) (x : ℕ) → (x ≡ e.unknown → ⊥) → end_at rs (e ∷ t) s x ≡ end_at rs t s x
  end_other s x n = end_away s x (and_right _ _ (ne_eqb x e.unknown n))

-- b lies no further out than a on side s
abbrev pub Inward : Side → ℤ → ℤ → Type 0
Inward Low a b = a ≤ℤ b
Inward High a b = b ≤ℤ a

inward_same : (s : Side) (a b : ℤ) → a ≡ b → Inward s a b
inward_same Low a b e = omega (arith, ints)
inward_same High a b e = omega (arith, ints)

inward_on : (s : Side) (a b d : ℤ) → Inward s a b → Inward s b d → Inward s a d
inward_on Low a b d h k = omega (arith, ints)
inward_on High a b d h k = omega (arith, ints)

sits_inward : (rs : List Range) (t : Trail) (e : Entry) → Sits rs t e → (s : Side) → Inward s (end_at rs t s e.unknown) e.bound
sits_inward rs t e h Low = h.above
sits_inward rs t e h High = h.below

-- ends only move inwards where an entry sits
pub end_inward : (rs : List Range) (t : Trail) (e : Entry) → Sits rs t e → (s : Side) (x : ℕ) →
    Inward s (end_at rs t s x) (end_at rs (e ∷ t) s x)
end_inward rs t e h s x = by (on s x e) refl
  where
    by : (b : Bool) → on s x e ≡ b → Inward s (end_at rs t s x) (end_at rs (e ∷ t) s x)
    by true k =
        subst (λ (z : ℤ). Inward s (end_at rs t s x) z) (sym (end_here rs t e s x k))
        (subst (λ (y : ℕ). Inward s (end_at rs t s y) e.bound) (sym (on_is s x e k).1) (sits_inward rs t e h s))
    by false k = inward_same s _ _ (sym (end_away rs t e s x k))

pub low_rises : (rs : List Range) (t : Trail) (e : Entry) → Sits rs t e → (x : ℕ) → low rs t x ≤ℤ low rs (e ∷ t) x
low_rises rs t e h x = end_inward rs t e h Low x

pub high_falls : (rs : List Range) (t : Trail) (e : Entry) → Sits rs t e → (x : ℕ) → high rs (e ∷ t) x ≤ℤ high rs t x
high_falls rs t e h x = end_inward rs t e h High x

-- ---- ends of a firm trail

-- low is never above high
pub sits_order : (rs : List Range) (t : Trail) (e : Entry) → Sits rs t e → (x : ℕ) → low rs t x ≤ℤ high rs t x →
    low rs (e ∷ t) x ≤ℤ high rs (e ∷ t) x
sits_order rs t e h x o = by (on Low x e) (on High x e) refl refl
  where
    by : (a b : Bool) → on Low x e ≡ a → on High x e ≡ b → low rs (e ∷ t) x ≤ℤ high rs (e ∷ t) x
    by true true p q =
        let l = end_here rs t e Low x p in
        let g = end_here rs t e High x q in
        omega (arith, ints)
    by true false p q =
        let l = end_here rs t e Low x p in
        let g = end_away rs t e High x q in
        let b : e.bound ≤ℤ high rs t x = subst (λ (y : ℕ). e.bound ≤ℤ high rs t y) (sym (on_is Low x e p).1) h.below in
        omega (arith, ints)
    by false true p q =
        let l = end_away rs t e Low x p in
        let g = end_here rs t e High x q in
        let a : low rs t x ≤ℤ e.bound = subst (λ (y : ℕ). low rs t y ≤ℤ e.bound) (sym (on_is High x e q).1) h.above in
        omega (arith, ints)
    by false false p q =
        let l = end_away rs t e Low x p in
        let g = end_away rs t e High x q in
        omega (arith, ints)

pub firm_order : (rs : List Range) (t : Trail) → InOrder rs → Firm rs t → (x : ℕ) → low rs t x ≤ℤ high rs t x
firm_order rs [] o f x = o x
firm_order rs (e ∷ t) o f x = sits_order rs t e f.0 x (firm_order rs t o f.1 x)

-- ends lie no further out than those of the range
pub firm_inward : (rs : List Range) (t : Trail) → Firm rs t → (s : Side) (x : ℕ) → Inward s (end_at rs [] s x) (end_at rs t s x)
firm_inward rs [] f s x = inward_same s _ _ refl
firm_inward rs (e ∷ t) f s x = inward_on s _ _ _ (firm_inward rs t f.1 s x) (end_inward rs t e f.0 s x)

between : (s : Side) (from lo hi to : ℤ) → from ≤ℤ lo → lo ≤ℤ hi → hi ≤ℤ to →
    (from ≤ℤ decided_value s lo hi) × (decided_value s lo hi ≤ℤ to)
between Low from lo hi to a b c = (a, omega (arith, ints))
between High from lo hi to a b c = (omega (arith, ints), c)

-- both ends of a firm trail lie within the range
pub firm_within : (rs : List Range) (t : Trail) → InOrder rs → Firm rs t → (s : Side) (x : ℕ) →
    ((range_at rs x).low ≤ℤ end_at rs t s x) × (end_at rs t s x ≤ℤ (range_at rs x).high)
firm_within rs t o f s x =
    between s (range_at rs x).low (low rs t x) (high rs t x) (range_at rs x).high (firm_inward rs t f Low x) (firm_order rs t o f x)
    (firm_inward rs t f High x)

-- ---- the start

good_order : (r : Range) → bad_range r.low r.high ≡ false → r.low ≤ℤ r.high
good_order r h = let p = (or_parts (lt_z r.high r.low) _ h).0 in omega (arith, ints)

all_order : (rs : List Range) → AllByRecursion (λ r. bad_range r.low r.high ≡ false) rs → InOrder rs
all_order [] h x = omega (arith, ints)
all_order (r ∷ rs) h zero = good_order r h.0
all_order (r ∷ rs) h (suc x) = all_order rs h.1 x

-- ranges as a draft takes them are in order
pub fit_order : (rs : List Range) → FitRanges rs → InOrder rs
fit_order rs h = all_order rs h.good

-- an entry at the end of its range changes no end where none is changed
plain_end : (rs : List Range) (t : Trail) (e : Entry) → e.bound ≡ end_at rs [] e.side e.unknown → (s : Side) (x : ℕ) →
    end_at rs t s x ≡ end_at rs [] s x → end_at rs (e ∷ t) s x ≡ end_at rs [] s x
plain_end rs t e h s x k = by (on s x e) refl
  where
    by : (b : Bool) → on s x e ≡ b → end_at rs (e ∷ t) s x ≡ end_at rs [] s x
    by true p =
        let q = on_is s x e p in
        end_here rs t e s x p ∙ h ∙ (λ i. end_at rs [] (sym q.0 i) (sym q.1 i))
    by false p = end_away rs t e s x p ∙ k

-- the two range entries of k
abbrev pub low_entry : List Range → ℕ → Entry
low_entry rs k = record { unknown = k; side = Low; bound = (range_at rs k).low; cause = Some (k + k) }

abbrev pub high_entry : List Range → ℕ → Entry
high_entry rs k = record { unknown = k; side = High; bound = (range_at rs k).high; cause = Some (suc (k + k)) }

-- the range entries change no end
pub range_ends : (rs : List Range) (k : ℕ) (s : Side) (x : ℕ) → end_at rs (range_entries rs k) s x ≡ end_at rs [] s x
range_ends rs zero s x = refl
range_ends rs (suc k) s x =
    plain_end rs (low_entry rs k ∷ range_entries rs k) (high_entry rs k) refl s x
    (plain_end rs (range_entries rs k) (low_entry rs k) refl s x (range_ends rs k s x))

-- the entry of a bound on x, its reason the line q
abbrev pub implied : ℕ → Bound → ℕ → Entry
implied x b q = record { unknown = x; side = b.side; bound = b.value; cause = Some q }

-- it sits where the bound lies between the ends
implied_sits : (rs : List Range) (t : Trail) (x : ℕ) (b : Bound) (q : ℕ) → x < length rs →
    low rs t x ≤ℤ b.value → b.value ≤ℤ high rs t x → Sits rs t (implied x b q)
implied_sits rs t x b q l above below = record {
  known = l;
  above = above;
  below = below;
  unfixed = λ h. absurd cc;
  fixes = λ h. absurd cc;
}

-- the trail at the start is firm
pub start_firm : (rs : List Range) → InOrder rs → (k : ℕ) → k ≤ length rs → Firm rs (range_entries rs k)
start_firm rs o zero h = tt
start_firm rs o (suc k) h =
    let t = range_entries rs k in
    let order = o k in
    let a : low rs t k ≡ (range_at rs k).low = range_ends rs k Low k in
    let b : high rs t k ≡ (range_at rs k).high = range_ends rs k High k in
    let first : Sits rs t (low_entry rs k) =
    implied_sits rs t k (record { side = Low; value = (range_at rs k).low }) (k + k) h (omega (arith, ints)) (omega (arith, ints)) in
    let c = sits_order rs t (low_entry rs k) first k (omega (arith, ints)) in (
      implied_sits rs (low_entry rs k ∷ t) k (record { side = High; value = (range_at rs k).high }) (suc (k + k)) h (omega (arith, ints))
          (omega (arith, ints)),
      (first, start_firm rs o k (omega arith)),
    )

-- ---- entries of moves

pub nearer_between : (s : Side) (lo hi v : ℤ) → Nearer s lo hi v → (lo ≤ℤ v) × (v ≤ℤ hi)
nearer_between Low lo hi v h = let a = h.0 in (omega (arith, ints), h.1)
nearer_between High lo hi v h = let a = h.1 in (h.0, omega (arith, ints))

better_by : (rs : List Range) (t : Trail) (r : Row) (x : ℕ) (s : Side) (v : ℤ) → x < length rs →
    better_under rs t r x ≡ Some (record { side = s; value = v }) → Nearer s (low rs t x) (high rs t x) v
better_by rs t r x Low v l h = let b = (better_is_last (length rs) (low rs t) (high rs t) r x v l).2 h in (b.0, b.1)
better_by rs t r x High v l h = let b = (better_is_last (length rs) (low rs t) (high rs t) r x v l).0 h in (b.0, b.1)

-- a better bound is nearer
pub better_nearer : (rs : List Range) (t : Trail) (r : Row) (x : ℕ) (b : Bound) → x < length rs → better_under rs t r x ≡ Some b →
    Nearer b.side (low rs t x) (high rs t x) b.value
better_nearer rs t r x b l h = better_by rs t r x b.side b.value l h

pub better_sits : (rs : List Range) (t : Trail) (r : Row) (x : ℕ) (b : Bound) (q : ℕ) → x < length rs → better_under rs t r x ≡ Some b →
    Sits rs t (implied x b q)
better_sits rs t r x b q l h =
    let p = nearer_between b.side _ _ _ (better_nearer rs t r x b l h) in
    implied_sits rs t x b q l p.0 p.1

pub lows_at : (rs : List Range) (t : Trail) (x : ℕ) → x < length rs → coef (lows rs t) x ≡ low rs t x
lows_at rs t x l = table_at (low rs t) (length rs) x (pos 0) l

pub highs_at : (rs : List Range) (t : Trail) (x : ℕ) → x < length rs → coef (highs rs t) x ≡ high rs t x
highs_at rs t x l = table_at (high rs t) (length rs) x (pos 0) l

-- only unknowns of the ranges are not fixed
unfixed_known : (rs : List Range) (t : Trail) (x : ℕ) → (coef (lows rs t) x ≡ coef (highs rs t) x → ⊥) → x < length rs
unfixed_known rs t x h =
    ⊎_elim
    (λ (l : x < length rs). l)
    (λ (l : length rs ≤ x). let a = table_long (low rs t) (length rs) in
    let b = table_long (high rs t) (length rs) in
    absurd (h (get_or_past (lows rs t) x (pos 0) (omega arith) ∙ sym (get_or_past (highs rs t) x (pos 0) (omega arith)))))
    (cases_lt x (length rs))

-- the first open pair of an order is not fixed
chosen_open : (b : Bool) (o : Order) (ls hs : List ℤ) (x : ℕ) (s : Side) → only_if b (first_open o ls hs) ≡ Some (x, s) →
    coef ls x ≡ coef hs x → ⊥
chosen_open true o ls hs x s h e = false≢true (sym (open_some o ls hs x s h).1 ∙ (same_number_decides _ _).1 e)
chosen_open false o ls hs x s h e = absurd cc

-- what is chosen, by whatever order, is an unknown of the ranges whose low is below its high
pub choice_room : (rs : List Range) (t : Trail) (o : Order) (x : ℕ) (s : Side) → InOrder rs → Firm rs t →
    choice o (lows rs t) (highs rs t) ≡ Some (x, s) → (x < length rs) × (low rs t x <ℤ high rs t x)
choice_room rs t o x s order f h =
    let n = chosen_open _ o (lows rs t) (highs rs t) x s h in
    let l = unfixed_known rs t x n in
    let apart : low rs t x ≡ high rs t x → ⊥ = λ e. n (lows_at rs t x l ∙ e ∙ sym (highs_at rs t x l)) in
    let less = firm_order rs t order f x in
    (l, by_lt_z (low rs t x) (high rs t x) (λ k. k) (λ k. absurd (apart (omega (arith, ints)))))

-- what a decision fixes an open unknown at is nearer
pub decided_nearer : (rs : List Range) (t : Trail) (x : ℕ) (s : Side) → low rs t x <ℤ high rs t x →
    Nearer (turned_side s) (low rs t x) (high rs t x) (decided rs t x s).bound
decided_nearer rs t x Low h = (omega (arith, ints), h)
decided_nearer rs t x High h = (h, omega (arith, ints))

decided_far : (rs : List Range) (t : Trail) (x : ℕ) (s : Side) →
    (decided rs t x s).bound ≡ end_at rs t (turned_side (decided rs t x s).side) x
decided_far rs t x Low = refl
decided_far rs t x High = refl

-- a decided entry sits
pub decided_sits : (rs : List Range) (t : Trail) (x : ℕ) (s : Side) → x < length rs → low rs t x <ℤ high rs t x →
    Sits rs t (decided rs t x s)
decided_sits rs t x s l h =
    let p = nearer_between (turned_side s) _ _ _ (decided_nearer rs t x s h) in
    record { known = l; above = p.0; below = p.1; unfixed = λ e. h; fixes = λ e. decided_far rs t x s }

-- ---- a step keeps a trail firm

pub firm_lower : (rs : List Range) (s t : Trail) → Lower s t → Firm rs s → Firm rs t
firm_lower rs s t l f = lower_keeps (Firm rs) (λ e t f. f.1) s t l f

module _ (c : Context) (m n : Machine) (o : InOrder c.ranges) (f : Firm c.ranges m.trail) where
  move_firm : Propagates c m n ⊎ (Decides c m n ⊎ Backjumps c m n) → Firm c.ranges n.trail
  move_firm (inl p) =
      let r = (first_pair c.ranges c.rows m.trail).0 p.place p.unknown p.bound p.found in
      subst (Firm c.ranges) (sym p.pushes)
      (better_sits c.ranges m.trail (row_at c.rows p.place) p.unknown p.bound p.reason r.1 r.2, f)
  move_firm (inr (inl p)) =
      let r = choice_room c.ranges m.trail m.advice.mind.order p.unknown p.side o f p.chosen in
      subst (Firm c.ranges) (sym p.pushes) (decided_sits c.ranges m.trail p.unknown p.side r.0 r.1, f)
  move_firm (inr (inr p)) =
      let g : Firm c.ranges (p.top ∷ p.below) = subst (Firm c.ranges) p.tops f in
      subst (Firm c.ranges) (sym p.pushes)
      (better_sits c.ranges p.below p.conflict p.top.unknown p.bound p.reason g.0.known p.found, g.1)

firm_by : (a : Acted) (c : Context) (m : Machine) → InOrder c.ranges → act c m ≡ a → Rest c m a → Firm c.ranges m.trail →
    Firm c.ranges (after a).trail
firm_by (free n) c m o h r f = firm_lower c.ranges m.trail n.trail r.lower f
firm_by (halted n) c m o h r f = firm_lower c.ranges m.trail n.trail r.lower f
firm_by (moved n) c m o h r f = move_firm c m n o f (one_of_three c m n h)

pub act_firm : (c : Context) (m : Machine) → InOrder c.ranges → Firm c.ranges m.trail →
    Firm c.ranges (after (act c m)).trail
act_firm c m o f = firm_by (act c m) c m o refl (act_rest c m) f

start_by_trail : (b : Bool) (c : Context) (a : Advice) → (start_by b c a).trail ≡ range_entries c.ranges (length c.ranges)
start_by_trail true c a = refl
start_by_trail false c a = refl

pub start_trail : (c : Context) (a : Advice) → (start c a).trail ≡ range_entries c.ranges (length c.ranges)
start_trail c a = start_by_trail _ c a

-- the trail of every run is firm
pub run_firm : (c : Context) (a : Advice) (budget steps : ℕ) → InOrder c.ranges →
    Firm c.ranges (run c budget steps (record { at = start c a; made = 0 })).at.trail
run_firm c a budget steps o =
    run_keeps (λ m. Firm c.ranges m.trail) c (λ m f. act_firm c m o f) budget steps (record { at = start c a; made = 0 })
    (subst (Firm c.ranges) (sym (start_trail c a)) (start_firm c.ranges o (length c.ranges) (omega arith)))
