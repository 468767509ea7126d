-- The log's half of the invariant: each implied entry has a tight line for its reason, each decided one a partner that has.
-- It lasts as the log grows. Rests on Firm, Resolving and Covering.
use Rattle.std.specs.Prelude.{None, Option, Some}
use Rattle.std.proofs.Common.{◌≡◌, ℕ, ◌<◌, ◌≤◌, Bool, true, false, ◌||◌, List, [], ◌∷◌, ◌++◌, length, ℤ, ◌≤ℤ◌, ◌<ℤ◌, sym, refl, ap, ◌∙◌, subst, arith}
use mathlib.Core.Path.{transport}
use Rattle.std.proofs.lemmas.List.{length-append, get_or_append_left}
use Rattle.std.proofs.lemmas.Int.{ints}
use Rattle.calculus.specs.Advice.{turned_side}
use Rattle.calculus.specs.Bounds.{Trail, on, here_or, low, high, without}
use Rattle.calculus.specs.Logs.{Line, no_line, line_row}
use Rattle.calculus.specs.RunLaws.{Grown}
use Rattle.calculus.specs.Rows.{Row}
use Rattle.calculus.specs.Tightening.{reason, reason_of}
use Rattle.calculus.specs.declared.ranges.Range.{Range}
use Rattle.calculus.specs.declared.sides.Side.{Side}
use Rattle.calculus.specs.declared.sides.Side.TheVariants.{Low, High}
use Rattle.calculus.specs.declared.trails.Entry.{Entry}
use Rattle.calculus.proofs.Covering.{has, CoveredBut, Complete, has_more}
use Rattle.calculus.proofs.Firm.{InOrder, end_at, Sits, Firm, end_here, end_away, end_own, end_across, on_is, low_rises, high_falls}
use Rattle.calculus.proofs.Firm.{firm_order}
use Rattle.calculus.proofs.Leasts.{least_narrows}
use Rattle.calculus.proofs.Resolving.{Tight}

-- Line q is a reason for the bound v on side s of x over the trail t.
pub record Reason (rs : List Range) (ls : List Line) (t : Trail) (q x : ℕ) (s : Side) (v : ℤ) : Type 0 where
  pub held : q < length ls
  pub tight : Tight (length rs) (low rs t) (high rs t) (line_row ls q) x s v
  pub covered : CoveredBut x t (line_row ls q)

-- an implied entry has its reason; a decided one a complete trail below it, and a reason for its partner
abbrev pub Backed : Option ℕ → List Range → List Line → Trail → Entry → Type 0
Backed (Some q) rs ls t e = Reason rs ls t q e.unknown e.side e.bound
Backed None rs ls t e =
    Complete rs t
    × Reason rs ls t (reason_of (turned_side e.side) e.unknown t) e.unknown (turned_side e.side) e.bound

-- every entry of a trail is backed by the log
abbrev pub Held : List Range → List Line → Trail → Type 0
Held rs ls [] = Unit {0}
Held rs ls (e ∷ t) = Backed e.cause rs ls t e × Held rs ls t

-- ---- logs that grow

pub grown_row : {ls ms : List Line} → Grown ls ms → (q : ℕ) → q < length ls → line_row ms q ≡ line_row ls q
grown_row {ls = ls} {ms = ms} g q l =
    ap (λ (k : List Line). line_row k q) g.is
    ∙ ap (λ (k : Line). k.row) (get_or_append_left ls g.rest no_line q l)

pub grown_long : {ls ms : List Line} → Grown ls ms → length ls ≤ length ms
grown_long {ls = ls} {ms = ms} g =
    let e : length ms ≡ length (ls ++ g.rest) = ap (λ (k : List Line). length k) g.is in
    let a = length-append ls g.rest in
    omega arith

pub reason_grown : {ls ms : List Line} → Grown ls ms → (rs : List Range) (t : Trail) (q x : ℕ) (s : Side) (v : ℤ) →
    Reason rs ls t q x s v → Reason rs ms t q x s v
reason_grown {ls = ls} {ms = ms} g rs t q x s v r =
    let e : line_row ls q ≡ line_row ms q = sym (grown_row g q r.held) in
    let long = grown_long g in
    let few = r.held in
    record {
      held = omega arith;
      tight = subst (λ (k : Row). Tight (length rs) (low rs t) (high rs t) k x s v) e r.tight;
      covered = subst (λ (k : Row). CoveredBut x t k) e r.covered;
    }

backed_grown : {ls ms : List Line} → Grown ls ms → (why : Option ℕ) (rs : List Range) (t : Trail) (e : Entry) →
    Backed why rs ls t e → Backed why rs ms t e
backed_grown g (Some q) rs t e b = reason_grown g rs t q e.unknown e.side e.bound b
backed_grown g None rs t e b = (b.0, reason_grown g rs t _ e.unknown (turned_side e.side) e.bound b.1)

pub held_grown : {ls ms : List Line} → Grown ls ms → (rs : List Range) (t : Trail) → Held rs ls t → Held rs ms t
held_grown g rs [] h = tt
held_grown g rs (e ∷ t) h = (backed_grown g e.cause rs t e h.0, held_grown g rs t h.1)

-- ---- trails that grow

pub reason_up : (rs : List Range) (ls : List Line) (t : Trail) (e : Entry) (q x : ℕ) (s : Side) (v : ℤ) → Sits rs t e →
    Reason rs ls t q x s v → Reason rs ls (e ∷ t) q x s v
reason_up rs ls t e q x s v sits r =
    let up = least_narrows (length rs) (low rs t) (high rs t) (low rs (e ∷ t)) (high rs (e ∷ t)) (without x (line_row ls q))
    (λ i l. low_rises rs t e sits i) (λ i l. high_falls rs t e sits i) in
    let below = r.tight.rest in
    record {
      held = r.held;
      tight = record { here = r.tight.here; rest = omega (arith, ints) };
      covered = λ z y d m. has_more z y e t (r.covered z y d m);
    }

-- ends of an unknown that is fixed
pub decided_fixed : (rs : List Range) (t : Trail) (e : Entry) → Sits rs t e → e.cause ≡ None → (s : Side) →
    end_at rs (e ∷ t) s e.unknown ≡ e.bound
decided_fixed rs t e sits d s = by e.side refl s
  where
    own : end_at rs (e ∷ t) e.side e.unknown ≡ e.bound
    own = end_own rs t e

    far : end_at rs (e ∷ t) (turned_side e.side) e.unknown ≡ e.bound
    far = end_across rs t e e.unknown ∙ sym (sits.fixes d)

    by : (r : Side) → e.side ≡ r → (s : Side) → end_at rs (e ∷ t) s e.unknown ≡ e.bound
    by Low h Low = subst (λ (z : Side). end_at rs (e ∷ t) z e.unknown ≡ e.bound) h own
    by Low h High = subst (λ (z : Side). end_at rs (e ∷ t) (turned_side z) e.unknown ≡ e.bound) h far
    by High h Low = subst (λ (z : Side). end_at rs (e ∷ t) (turned_side z) e.unknown ≡ e.bound) h far
    by High h High = subst (λ (z : Side). end_at rs (e ∷ t) z e.unknown ≡ e.bound) h own

-- the newest entry on x of side s, where x is not fixed, is implied, and its reason still holds over the whole trail
partner_by : (b : Bool) (why : Option ℕ) (rs : List Range) (ls : List Line) (e : Entry) (t : Trail) (s : Side) (x : ℕ) →
    on s x e ≡ b → e.cause ≡ why → Sits rs t e → Backed why rs ls t e →
    low rs (e ∷ t) x <ℤ high rs (e ∷ t) x → (b || has s x t) ≡ true →
    (low rs t x <ℤ high rs t x → has s x t ≡ true → Reason rs ls t (reason_of s x t) x s (end_at rs t s x)) →
    Reason rs ls (e ∷ t) (here_or b (reason e.cause) (reason_of s x t)) x s (end_at rs (e ∷ t) s x)
partner_by true (Some q) rs ls e t s x h why sits backed wide there later =
    let p = on_is s x e h in
    let up = reason_up rs ls t e q e.unknown e.side e.bound sits backed in
    let v : e.bound ≡ end_at rs (e ∷ t) s x = sym (end_here rs t e s x h) in
    let name : q ≡ reason e.cause = sym (ap reason why) in
    transported rs ls (e ∷ t) name (sym p.1) (sym p.0) v up
  where
    transported : (rs : List Range) (ls : List Line) (t : Trail) {q q' x x' : ℕ} {s s' : Side} {v v' : ℤ} → q ≡ q' → x ≡ x' → s ≡ s' →
        v ≡ v' →
        Reason rs ls t q x s v → Reason rs ls t q' x' s' v'
    transported rs ls t a b c d r = transport (λ i. Reason rs ls t (a i) (b i) (c i) (d i)) r
partner_by true None rs ls e t s x h why sits backed wide there later =
    let p = on_is s x e h in
    let lo : low rs (e ∷ t) x ≡ e.bound = subst (λ (y : ℕ). low rs (e ∷ t) y ≡ e.bound) (sym p.1)
    (decided_fixed rs t e sits why Low) in
    let hi : high rs (e ∷ t) x ≡ e.bound = subst (λ (y : ℕ). high rs (e ∷ t) y ≡ e.bound) (sym p.1)
    (decided_fixed rs t e sits why High) in
    absurd (omega (arith, ints))
partner_by false why rs ls e t s x h cause sits backed wide there later =
    let lo = low_rises rs t e sits x in
    let hi = high_falls rs t e sits x in
    let r = later (omega (arith, ints)) there in
    let up = reason_up rs ls t e (reason_of s x t) x s (end_at rs t s x) sits r in
    subst (λ (v : ℤ). Reason rs ls (e ∷ t) (reason_of s x t) x s v) (sym (end_away rs t e s x h)) up

pub partner_reason : (rs : List Range) (ls : List Line) (t : Trail) (s : Side) (x : ℕ) → Firm rs t → Held rs ls t →
    low rs t x <ℤ high rs t x → has s x t ≡ true → Reason rs ls t (reason_of s x t) x s (end_at rs t s x)
partner_reason rs ls [] s x f h wide there = absurd (grind arith)
partner_reason rs ls (e ∷ t) s x f h wide there =
    partner_by (on s x e) e.cause rs ls e t s x refl refl f.0 h.0 wide there (partner_reason rs ls t s x f.1 h.1)

-- an unknown fixed below stays fixed at that value
pub fixed_on : (rs : List Range) (front t : Trail) (x : ℕ) (v : ℤ) → InOrder rs → Firm rs (front ++ t) → ((s : Side) →
    end_at rs t s x ≡ v) →
    (s : Side) → end_at rs (front ++ t) s x ≡ v
fixed_on rs [] t x v o f h s = h s
fixed_on rs (e ∷ front) t x v o f h s =
    let rest = fixed_on rs front t x v o f.1 h in
    let lo = low_rises rs (front ++ t) e f.0 x in
    let hi = high_falls rs (front ++ t) e f.0 x in
    let order = firm_order rs (e ∷ (front ++ t)) o f x in
    let a : low rs (front ++ t) x ≡ v = rest Low in
    let b : high rs (front ++ t) x ≡ v = rest High in
    by lo hi order a b s
  where
    by : low rs (front ++ t) x ≤ℤ low rs (e ∷ (front ++ t)) x → high rs (e ∷ (front ++ t)) x ≤ℤ high rs (front ++ t) x →
        low rs (e ∷ (front ++ t)) x ≤ℤ high rs (e ∷ (front ++ t)) x → low rs (front ++ t) x ≡ v → high rs (front ++ t) x ≡ v →
        (s : Side) → end_at rs (e ∷ (front ++ t)) s x ≡ v
    by lo hi order a b Low = omega (arith, ints)
    by lo hi order a b High = omega (arith, ints)
