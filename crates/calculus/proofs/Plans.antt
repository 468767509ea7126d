-- A plan lies within the ranges and meets every row, whatever the lines say: at a plan no row fails and no unknown is open, so that the
-- least value of each row is its value at the lows. It rests on the firm trail and on what an adviser's choice is.
use Rattle.std.proofs.Common.{◌≡◌, ℕ, ◌<◌, Bool, true, false, not, eqb, ◌⊎◌, List, [], length, ℤ, pos, ◌+ℤ◌, ◌*ℤ◌, Ok, Err, Result, sym, refl, ap, ◌∙◌, subst, inl, inr, arith}
use Rattle.std.proofs.lemmas.List.{length-map, get_or-map}
use Rattle.std.proofs.lemmas.Bool.{eqb-true, true≢false}
use Rattle.std.proofs.lemmas.Int.{ints}
use Rattle.calculus.specs.Advice.{Advice, Advises, advised}
use Rattle.calculus.specs.Arithmetic.{sum}
use Rattle.calculus.specs.Bounds.{Trail, low, high, lows, highs, term, least, row_at, fails_under}
use Rattle.calculus.specs.Logs.{Logbook}
use Rattle.calculus.specs.Machines.{Context, Phase, looking, repairing, ended, Machine, Acted, free, halted, moved, act}
use Rattle.calculus.specs.Promises.{PlanRight}
use Rattle.calculus.specs.Rows.{Row, Standing, coef, value, Meets, MeetsAll, Within}
use Rattle.calculus.specs.RunLaws.{is_over, after}
use Rattle.calculus.specs.Runs.{start_by, enough_steps, whole_run, ending_of, plan_after, left_by, rows_of, begin_answer}
use Rattle.calculus.specs.declared.endings.Ending.{Ending}
use Rattle.calculus.specs.declared.endings.Ending.TheVariants.{Plan}
use Rattle.calculus.specs.declared.ranges.Range.{Range}
use Rattle.calculus.specs.declared.refusals.Refusal.{Refusal}
use Rattle.calculus.specs.declared.sides.Side.TheVariants.{Low}
use Rattle.calculus.proofs.Advising.{choice_open, told_like}
use Rattle.calculus.proofs.BetterBounds.{sum_same, term_at}
use Rattle.calculus.proofs.Firm.{InOrder, Firm, fit_order, firm_within, lows_at, highs_at, run_firm}
use Rattle.calculus.proofs.Tabling.{table_long}
use Rattle.calculus.proofs.Firsts.{first_conflict}
use Rattle.calculus.proofs.Meeting.{within_each, meets_each}
use Rattle.calculus.proofs.Running.{whole_keeps, begins_fit, act_step}
use Rattle.calculus.proofs.Stepping.{Hears, Fine, act_ok}
use Rattle.calculus.proofs.Unmoved.{Calm, Rest, act_rest}

-- ---- values at the lows

-- where all are fixed, the least value of a row is its value at the lows
pub least_fixed : (n : ℕ) (lo hi : ℕ → ℤ) (r : Row) → ((x : ℕ) → x < n → lo x ≡ hi x) →
    least n lo hi r ≡ sum n (λ x. coef r.coefs x *ℤ lo x) +ℤ r.constant
least_fixed n lo hi r h =
    ap (λ (z : ℤ). z +ℤ r.constant)
    (sum_same n (λ x. term (coef r.coefs x) (lo x) (hi x)) (λ x. coef r.coefs x *ℤ lo x)
    (λ x l. ap (λ (z : ℤ). term (coef r.coefs x) (lo x) z) (sym (h x l)) ∙ term_at (coef r.coefs x) (lo x)))

value_lows : (rs : List Range) (t : Trail) (r : Row) →
    value (lows rs t) r ≡ sum (length rs) (λ x. coef r.coefs x *ℤ low rs t x) +ℤ r.constant
value_lows rs t r =
    ap (λ (n : ℕ). sum n (λ x. coef r.coefs x *ℤ coef (lows rs t) x) +ℤ r.constant) (table_long (low rs t) (length rs))
    ∙ ap (λ (z : ℤ). z +ℤ r.constant)
    (sum_same (length rs) (λ x. coef r.coefs x *ℤ coef (lows rs t) x) (λ x. coef r.coefs x *ℤ low rs t x)
    (λ x l. ap (λ (z : ℤ). coef r.coefs x *ℤ z) (lows_at rs t x l)))

-- All are fixed and no row fails.
record Right (c : Context) (t : Trail) : Type 0 where
  pub calm : (q : ℕ) → q < length c.rows → fails_under c.ranges t (row_at c.rows q) ≡ false
  pub fixed : (x : ℕ) → x < length c.ranges → low c.ranges t x ≡ high c.ranges t x

right_meets : (c : Context) (t : Trail) → Right c t → (q : ℕ) → q < length c.rows → Meets (lows c.ranges t) (row_at c.rows q)
right_meets c t h q l =
    let rs = c.ranges in
    let r = row_at c.rows q in
    let v = value_lows rs t r in
    let f = least_fixed (length rs) (low rs t) (high rs t) r h.fixed in
    let e = h.calm q l in
    omega (arith, ints)

lows_within : (rs : List Range) (t : Trail) → InOrder rs → Firm rs t → Within rs (lows rs t)
lows_within rs t o f =
    (within_each rs (lows rs t) (record { low = pos 0; high = pos 0 })).1 (table_long (low rs t) (length rs))
    (λ i l. let w = firm_within rs t o f Low i in
    let e = lows_at rs t i l in
    let a = w.0 in
    let b = w.1 in
    (omega (arith, ints), omega (arith, ints)))

-- ---- along a run

-- an adviser of a run over n unknowns
record Serves (n : ℕ) (a : Advice) : Type 0 where
  pub advises : Advises a
  pub many : advised a ≡ n

hears_serves : (n : ℕ) (a b : Advice) → Hears a b → Serves n a → Serves n b
hears_serves n a b (inl e) s = subst (Serves n) (sym e) s
hears_serves n a b (inr (x, e)) s =
    let t = told_like a x s.advises in
    subst (Serves n) (sym e) (record { advises = t.advises; many = t.same ∙ s.many })

-- What a run keeps on its way to a plan.
record Planning (c : Context) (m : Machine) : Type 0 where
  pub serves : Serves (length c.ranges) m.advice
  pub right : m.phase ≡ ended Plan → Right c m.trail

-- a look that finds a plan finds all right
calm_right : (c : Context) (m : Machine) → Serves (length c.ranges) m.advice → Calm c m → Right c m.trail
calm_right c m s h =
    let rs = c.ranges in
    let t = m.trail in
    let many = s.many in
    let a = table_long (low rs t) (length rs) in
    let b = table_long (high rs t) (length rs) in
    let OpenNone = (choice_open m.advice.mind.order (lows rs t) (highs rs t) s.advises.orderly (a ∙ sym many) (b ∙ sym many)).1 in
    record {
      calm = (first_conflict rs c.rows t).1 h.0;
      fixed = λ x l. sym (lows_at rs t x l) ∙ OpenNone h.1 x (subst (λ (n : ℕ). x < n) (sym many) l) ∙ highs_at rs t x l;
    }

unmoved_right : (c : Context) (m n : Machine) → Planning c m → (m ≡ n) ⊎ (Calm c m × (n.trail ≡ m.trail)) → n.phase ≡ ended Plan →
    Right c n.trail
unmoved_right c m n p (inl e) h =
    subst (λ (k : Machine). Right c k.trail) e (p.right (ap (λ (k : Machine). k.phase) e ∙ h))
unmoved_right c m n p (inr (k, e)) h = subst (Right c) (sym e) (calm_right c m p.serves k)

-- after a move the run goes on
right_by : (a : Acted) (c : Context) (m : Machine) → Fine c m a → Rest c m a → Planning c m → (after a).phase ≡ ended Plan →
    Right c (after a).trail
right_by (free n) c m f r p h = unmoved_right c m n p (r.planned h) h
right_by (halted n) c m f r p h = unmoved_right c m n p (r.planned h) h
right_by (moved n) c m f r p h = absurd (true≢false (sym (ap is_over h) ∙ f.2))

act_planning : (c : Context) (m : Machine) → Planning c m → Planning c (after (act c m))
act_planning c m p = record {
  serves = hears_serves _ m.advice (after (act c m)).advice (act_step c m).advice p.serves;
  right = right_by (act c m) c m (act_ok c m) (act_rest c m) p;
}

start_planning : (b : Bool) (c : Context) (a : Advice) → Serves (length c.ranges) a → Planning c (start_by b c a)
start_planning true c a s = record { serves = s; right = λ h. absurd cc }
start_planning false c a s = record { serves = s; right = λ h. absurd cc }

whole_right : (c : Context) (budget : ℕ) (a : Advice) → Serves (length c.ranges) a → (whole_run c budget a).at.phase ≡ ended Plan →
    Right c (whole_run c budget a).at.trail
whole_right c budget a s =
    (whole_keeps (Planning c) c (act_planning c) budget a (start_planning _ c a s)).right

-- ---- the promise

-- only a machine that has ended in a plan answers plan
plan_phase : (p : Phase) → ending_of p ≡ Plan → p ≡ ended Plan
plan_phase looking h = absurd cc
plan_phase (repairing j line place) h = absurd cc
plan_phase (ended e) h = ap ended h

-- a run begins only with an adviser for as many unknowns
begins_advised : (rs : List Range) (a : Advice) (log : Logbook) (plan : List ℤ) (u : Unit {0}) → begin_answer rs a log plan ≡ Ok u →
    advised a ≡ length rs
begins_advised rs a log plan u h =
    eqb-true (advised a) (length rs)
    (begins_fit (not (eqb (length plan) (length rs))) (eqb (advised a) (length rs)) (eqb log.unknowns (length rs)) u h).0

-- the rows without their labels, by place
rows_meet : (xs : List ℤ) (rows : List Standing) → ((q : ℕ) → q < length (rows_of rows) → Meets xs (row_at (rows_of rows) q)) →
    MeetsAll xs rows
rows_meet xs rows h =
    let d : Standing = record { label = 0; row = record { coefs = []; constant = pos 0 } } in
    let long = length-map rows (λ s. s.row) in
    (meets_each xs rows d).1
    (λ q l. subst (Meets xs) (get_or-map (λ (s : Standing). s.row) rows q d d.row l) (h q (omega arith)))

plan_by : (r : Result (Unit {0}) Refusal) (rs : List Range) (rows : List Standing) (a : Advice) (log : Logbook) (plan : List ℤ)
    (budget : ℕ) → begin_answer rs a log plan ≡ r → InOrder rs → Advises a →
    let end = left_by r rs (rows_of rows) a log plan budget in
    end.ending ≡ Plan → Within rs end.plan × MeetsAll end.plan rows
plan_by (Err r) rs rows a log plan budget b o s h = absurd cc
plan_by (Ok u) rs rows a log plan budget b o s h =
    let c : Context = record { ranges = rs; rows = rows_of rows; capacity = log.capacity } in
    let t = (whole_run c budget a).at.trail in
    let right = whole_right c budget a (record { advises = s; many = begins_advised rs a log plan u b }) (plan_phase _ h) in
    subst (λ (e : Ending). Within rs (plan_after e (lows rs t) plan) × MeetsAll (plan_after e (lows rs t) plan) rows) (sym h)
    (lows_within rs t o (run_firm c a budget (enough_steps budget) o), rows_meet (lows rs t) rows (right_meets c t right))

pub plan_right : PlanRight
plan_right rs rows a log plan budget fit advises h = plan_by _ rs rows a log plan budget refl (fit_order rs fit) advises h
