-- A number that falls with each move, whatever the lines say: the potential, made of the width of a trail and its decisions.
-- It rests on the firm trail alone. Take the widths at the ends of the segments between decisions as digits in base W + 2, the first the
-- most significant, and W + 1 for each of the n + 1 segments that is not open: the potential is that number and one more.
use Rattle.std.specs.Prelude.{None, Option, Some}
use Rattle.std.proofs.Common.{◌≡◌, ℕ, zero, suc, ◌+◌, ◌-◌, ◌*◌, ◌^◌, ◌<◌, ◌≤◌, min, List, [], ◌∷◌, length, ℤ, ◌-ℤ◌, nat_abs, ◌<ℤ◌, sym, refl, ap, ◌∙◌, subst, ⊎_elim, mul-le-mul_right, suc-mul, arith}
use Rattle.std.proofs.lemmas.Bool.{cases_eq}
use Rattle.std.proofs.Math.Nat.{one-le-pow}
use Rattle.std.proofs.lemmas.Int.{ints}
use Rattle.calculus.specs.Advice.{turned_side}
use Rattle.calculus.specs.Bounds.{Trail, low, high}
use Rattle.calculus.specs.Machines.{decided_value, decided}
use Rattle.calculus.specs.Runs.{range_entries, width, figure}
use Rattle.calculus.specs.declared.ranges.Range.{Range}
use Rattle.calculus.specs.declared.sides.Side.{Side}
use Rattle.calculus.specs.declared.sides.Side.TheVariants.{Low, High}
use Rattle.calculus.specs.declared.trails.Bound.{Bound}
use Rattle.calculus.specs.declared.trails.Entry.{Entry}
use Rattle.calculus.proofs.Running.{range_entries_long}
use Rattle.calculus.proofs.Firm.{InOrder, Sits, Firm, end_own, end_across, low_rises, high_falls, sits_order, firm_order, firm_inward}
use Rattle.calculus.proofs.Firm.{low_entry, implied, start_firm, decided_nearer, decided_sits}
use Rattle.calculus.proofs.BetterBounds.{Nearer}
use Rattle.calculus.proofs.Ints.{narrower, digit_below}

-- ---- totals

-- f 0 + f 1 + .. + f (n - 1)
abbrev pub total : ℕ → (ℕ → ℕ) → ℕ
total zero f = 0
total (suc n) f = total n f + f n

total_le : (n : ℕ) (f g : ℕ → ℕ) → ((i : ℕ) → f i ≤ g i) → total n f ≤ total n g
total_le zero f g h = omega arith
total_le (suc n) f g h = let a = total_le n f g h in let b = h n in omega arith

total_less : (n x : ℕ) (f g : ℕ → ℕ) → x < n → ((i : ℕ) → f i ≤ g i) → f x < g x → total n f < total n g
total_less zero x f g l h k = absurd (omega arith)
total_less (suc n) x f g l h k =
    ⊎_elim
    (λ (e : x ≡ n). let a = total_le n f g h in
    let b = subst (λ (i : ℕ). f i < g i) e k in
    omega arith)
    (λ (d : x ≡ n → ⊥). let a = total_less n x f g (omega arith) h k in
    let b = h n in
    omega arith)
    (cases_eq x n)

total_most : (n : ℕ) (f : ℕ → ℕ) → ((i : ℕ) → f i ≤ 1) → total n f ≤ n
total_most zero f h = omega arith
total_most (suc n) f h = let a = total_most n f h in let b = h n in omega arith

total_first : (n : ℕ) (f : ℕ → ℕ) → total (suc n) f ≡ f 0 + total n (λ i. f (suc i))
total_first zero f = omega arith
total_first (suc n) f = let e = total_first n f in omega arith

-- ---- widths

-- the width of x under a trail: high - low
abbrev pub room : List Range → Trail → ℕ → ℕ
room rs t x = nat_abs (high rs t x -ℤ low rs t x)

-- the width of all unknowns under a trail
abbrev pub wide : List Range → Trail → ℕ
wide rs t = total (length rs) (room rs t)

-- without entries it is W
pub wide_first : (rs : List Range) → wide rs [] ≡ width rs
wide_first [] = refl
wide_first (r ∷ rs) = let e = wide_first rs in let f = total_first (length rs) (room (r ∷ rs) []) in omega arith

-- and closer together where one of them moved
narrower_by : (s : Side) (lo hi lo' hi' v : ℤ) → Nearer s lo hi v → decided_value s lo' hi' ≡ v →
    decided_value (turned_side s) lo' hi' ≡ decided_value (turned_side s) lo hi → nat_abs (hi' -ℤ lo') < nat_abs (hi -ℤ lo)
narrower_by Low lo hi lo' hi' v h p q = let a = h.0 in let b = h.1 in omega (arith, ints)
narrower_by High lo hi lo' hi' v h p q = let a = h.0 in let b = h.1 in omega (arith, ints)

one_end : (s : Side) (lo hi : ℤ) → decided_value s lo hi ≡ decided_value (turned_side s) lo hi → nat_abs (hi -ℤ lo) ≡ 0
one_end Low lo hi h = omega (arith, ints)
one_end High lo hi h = omega (arith, ints)

-- no firm trail is wider
pub wide_most : (rs : List Range) (t : Trail) → InOrder rs → Firm rs t → wide rs t ≤ width rs
wide_most rs t o f =
    let e = wide_first rs in
    let l = total_le (length rs) (room rs t) (room rs [])
    (λ x. narrower (low rs [] x) (high rs [] x) (low rs t x) (high rs t x) (firm_inward rs t f Low x) (firm_inward rs t f High x)
    (firm_order rs t o f x)) in
    omega arith

module _ (rs : List Range) (t : Trail) (e : Entry) (o : InOrder rs) (f : Firm rs t) (h : Sits rs t e) where
  room_falls : (x : ℕ) → room rs (e ∷ t) x ≤ room rs t x
  room_falls x =
      narrower (low rs t x) (high rs t x) (low rs (e ∷ t) x) (high rs (e ∷ t) x) (low_rises rs t e h x) (high_falls rs t e h x)
      (sits_order rs t e h x (firm_order rs t o f x))

  pub wide_stays : wide rs (e ∷ t) ≤ wide rs t
  wide_stays = total_le (length rs) (room rs (e ∷ t)) (room rs t) room_falls

  -- a nearer bound takes at least 1
  pub wide_falls : Nearer e.side (low rs t e.unknown) (high rs t e.unknown) e.bound → wide rs (e ∷ t) < wide rs t
  wide_falls n =
      let x = e.unknown in
      total_less (length rs) x (room rs (e ∷ t)) (room rs t) h.known room_falls
      (narrower_by e.side (low rs t x) (high rs t x) (low rs (e ∷ t) x) (high rs (e ∷ t) x) e.bound n (end_own rs t e)
      (end_across rs t e x))

-- ---- decisions

-- one more where the entry is decided
abbrev pub counted : Option ℕ → ℕ → ℕ
counted None k = suc k
counted (Some q) k = k

-- how many entries of a trail are decided
abbrev pub decisions : Trail → ℕ
decisions [] = 0
decisions (e ∷ t) = counted e.cause (decisions t)

-- how many unknowns are not fixed: 1 for each with room
abbrev pub unfixed_many : List Range → Trail → ℕ
unfixed_many rs t = total (length rs) (λ x. min 1 (room rs t x))

module _ (rs : List Range) (t : Trail) (e : Entry) (o : InOrder rs) (f : Firm rs t) (h : Sits rs t e) where
  unfixed_stays : unfixed_many rs (e ∷ t) ≤ unfixed_many rs t
  unfixed_stays =
      total_le (length rs) (λ x. min 1 (room rs (e ∷ t) x)) (λ x. min 1 (room rs t x))
      (λ x. let r = room_falls rs t e o f h x in omega arith)

  unfixed_falls : e.cause ≡ None → unfixed_many rs (e ∷ t) < unfixed_many rs t
  unfixed_falls k =
      let x = e.unknown in
      let none : room rs (e ∷ t) x ≡ 0 =
      one_end e.side (low rs (e ∷ t) x) (high rs (e ∷ t) x) (end_own rs t e ∙ h.fixes k ∙ sym (end_across rs t e x)) in
      let apart : low rs t x <ℤ high rs t x = h.unfixed k in
      let some : 0 < room rs t x = omega (arith, ints) in
      total_less (length rs) x (λ x. min 1 (room rs (e ∷ t) x)) (λ x. min 1 (room rs t x)) h.known
      (λ x. let r = room_falls rs t e o f h x in omega arith) (omega arith)

  few_by : (k : Option ℕ) → e.cause ≡ k → decisions t + unfixed_many rs t ≤ length rs →
      counted k (decisions t) + unfixed_many rs (e ∷ t) ≤ length rs
  few_by None k l = let a = unfixed_falls k in omega arith
  few_by (Some q) k l = let a = unfixed_stays in omega arith

-- decisions and unfixed unknowns are together no more than the unknowns
pub few_decisions : (rs : List Range) (t : Trail) → InOrder rs → Firm rs t → decisions t + unfixed_many rs t ≤ length rs
few_decisions rs [] o f =
    let a = total_most (length rs) (λ x. min 1 (room rs [] x)) (λ x. omega arith) in
    omega arith
few_decisions rs (e ∷ t) o f = few_by rs t e o f.1 f.0 e.cause refl (few_decisions rs t o f.1)

-- where a decision is due, fewer than n were made
pub decide_room : (rs : List Range) (t : Trail) (x : ℕ) → InOrder rs → Firm rs t → x < length rs → low rs t x <ℤ high rs t x →
    decisions t < length rs
decide_room rs t x o f l h =
    let e = decided rs t x Low in
    let a = unfixed_falls rs t e o f (decided_sits rs t x Low l h) refl in
    let b = few_decisions rs t o f in
    omega arith

-- ---- the potential

-- W + 2, the base
abbrev pub base : List Range → ℕ
base rs = width rs + 2

-- what one width counts for under a trail
abbrev pub stake : List Range → Trail → ℕ
stake rs t = base rs ^ (length rs - decisions t)

stake_some : (rs : List Range) (t : Trail) → 0 < stake rs t
stake_some rs t = one-le-pow (length rs - decisions t) (base rs) (omega arith)

-- something more where the entry is decided
abbrev past_by : Option ℕ → ℕ → ℕ → ℕ
past_by None opened below = opened + below
past_by (Some q) opened below = below

-- what the decisions of a trail still count for: the width below each of them
abbrev pub past : List Range → Trail → ℕ
past rs [] = 0
past rs (e ∷ t) = past_by e.cause (wide rs t * stake rs t) (past rs t)

-- the potential: that, and the width and one more at the present stake
abbrev pub potential : List Range → Trail → ℕ
potential rs t = past rs t + suc (wide rs t) * stake rs t

pub past_below : (rs : List Range) (t : Trail) → past rs t < potential rs t
past_below rs t =
    let a = stake_some rs t in
    let b = suc-mul (wide rs t) (stake rs t) in
    omega arith

past_stays_by : (k : Option ℕ) (opened below : ℕ) → below ≤ past_by k opened below
past_stays_by None opened below = omega arith
past_stays_by (Some q) opened below = omega arith

-- taking an entry off never adds to it
pub past_stays : (rs : List Range) (e : Entry) (t : Trail) → past rs t ≤ past rs (e ∷ t)
past_stays rs e t = past_stays_by e.cause (wide rs t * stake rs t) (past rs t)

module _ (rs : List Range) (t : Trail) (o : InOrder rs) (f : Firm rs t) where
  module _ (x : ℕ) (b : Bound) (q : ℕ) (h : Sits rs t (implied x b q)) (n : Nearer b.side (low rs t x) (high rs t x) b.value) where
    -- a better bound over a trail counts for no more than the width below it
    bound_falls : potential rs (implied x b q ∷ t) ≤ past rs t + wide rs t * stake rs t
    bound_falls =
        let less = wide_falls rs t (implied x b q) o f h n in
        let times : suc (wide rs (implied x b q ∷ t)) * stake rs t ≤ wide rs t * stake rs t = mul-le-mul_right (stake rs t) less in
        omega arith

    pub propagate_falls : potential rs (implied x b q ∷ t) < potential rs t
    propagate_falls =
        let a = bound_falls in
        let some = stake_some rs t in
        let c = suc-mul (wide rs t) (stake rs t) in
        omega arith

    pub jump_falls : (top : Entry) → top.cause ≡ None → potential rs (implied x b q ∷ t) ≤ past rs (top ∷ t)
    jump_falls top k =
        let a = bound_falls in
        let opened = ap (λ (k : Option ℕ). past_by k (wide rs t * stake rs t) (past rs t)) k in
        omega arith

  pub decide_falls : (x : ℕ) (s : Side) → x < length rs → low rs t x <ℤ high rs t x → potential rs (decided rs t x s ∷ t) < potential rs t
  decide_falls x s l h =
      let e = decided rs t x s in
      let d = decisions t in
      let few = decide_room rs t x o f l h in
      let less = wide_falls rs t e o f (decided_sits rs t x s l h) (decided_nearer rs t x s h) in
      let most = wide_most rs t o f in
      let next : suc (length rs - suc d) ≡ length rs - d = omega arith in
      let digit : suc (wide rs (e ∷ t)) * stake rs (e ∷ t) < stake rs t =
      subst (λ (k : ℕ). suc (wide rs (e ∷ t)) * base rs ^ (length rs - suc d) < base rs ^ k) next
      (digit_below (base rs) (wide rs (e ∷ t)) (length rs - suc d) (omega arith)) in
      let a = suc-mul (wide rs t) (stake rs t) in
      omega arith

range_plain : (rs : List Range) (k : ℕ) → (decisions (range_entries rs k) ≡ 0) × (past rs (range_entries rs k) ≡ 0)
range_plain rs zero = (refl, refl)
range_plain rs (suc k) = range_plain rs k

-- the potential of the start
abbrev pub first_potential : List Range → ℕ
first_potential rs = potential rs (range_entries rs (length rs))

pub first_below : (rs : List Range) → InOrder rs → first_potential rs < figure rs
first_below rs o =
    let t = range_entries rs (length rs) in
    let plain = range_plain rs (length rs) in
    let none = plain.0 in
    let nothing = plain.1 in
    let most = wide_most rs t o (start_firm rs o (length rs) (omega arith)) in
    let all : length rs - decisions t ≡ length rs = omega arith in
    let same = ap (λ (k : ℕ). suc (wide rs t) * base rs ^ k) all in
    let next = ap (λ (k : ℕ). base rs ^ k) (let n : suc (length rs) ≡ length rs + 1 = omega arith in n) in
    let digit = digit_below (base rs) (wide rs t) (length rs) (omega arith) in
    omega arith

-- ---- lengths

-- at each suffix of a trail, its length and its width are together at most W + 2n
abbrev pub Short : List Range → Trail → Type 0
Short rs [] = Unit {0}
Short rs (e ∷ t) = (length (e ∷ t) + wide rs (e ∷ t) ≤ width rs + (length rs + length rs)) × Short rs t

pub short_here : (rs : List Range) (t : Trail) → Short rs t → length t + wide rs t ≤ width rs + (length rs + length rs)
short_here rs [] h = let e = wide_first rs in omega arith
short_here rs (e ∷ t) h = h.0

-- an entry that takes from the width keeps it so
pub push_short : (rs : List Range) (t : Trail) (e : Entry) → wide rs (e ∷ t) < wide rs t → Short rs t → Short rs (e ∷ t)
push_short rs t e l h = let a = short_here rs t h in (omega arith, h)

pub start_short : (rs : List Range) → InOrder rs → (k : ℕ) → k ≤ length rs → Short rs (range_entries rs k)
start_short rs o zero h = tt
start_short rs o (suc k) h =
    let long = range_entries_long rs k in
    let f = start_firm rs o (suc k) h in
    let a = wide_most rs (range_entries rs (suc k)) o f in
    let b = wide_most rs (low_entry rs k ∷ range_entries rs k) o f.1 in
    (omega arith, (omega arith, start_short rs o k (omega arith)))
