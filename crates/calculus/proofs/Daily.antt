-- The whole day: the account keeps its rows within their limits, so every promise holds at every call.
-- It rests on `Counts`, `Nones`, `Plans`, `Running` and `SoundLogs`.
use Rattle.std.proofs.Common.{◌≡◌, ℕ, zero, suc, ◌<◌, ◌≤◌, Bool, true, false, not, ◌||◌, eqb, leb, ◌⊎◌, List, [], ◌∷◌, ◌++◌, length, ℤ, None, Ok, Err, Result, sym, refl, ap, ◌∙◌, subst, inl, inr, arith}
use Rattle.std.specs.List.{AllByRecursion}
use Rattle.std.proofs.ByRecursion.{All-append, All-take}
use Rattle.std.proofs.lemmas.List.{length-append, length-take}
use Rattle.std.proofs.lemmas.Bool.{or_parts, not-false, eqb-true}
use Rattle.std.proofs.lemmas.Bool.Decides.{nat_tests}
use Rattle.calculus.specs.Account.{Account, bad_range, when, answered, left, heavy, settled, standing, with_row, added}
use Rattle.calculus.specs.Account.{mark_answer, with_mark, marked, return_answer, returned_to, returned}
use Rattle.calculus.specs.Advice.{Advice, Advises}
use Rattle.calculus.specs.Arithmetic.{near}
use Rattle.calculus.specs.Checking.{check_end, wrong_from, closes}
use Rattle.calculus.specs.Days.{Call, to_add, to_mark, to_return, to_run, to_check, Answer, checked, Event, answer_due, account_after}
use Rattle.calculus.specs.Days.{CallsLead, LeadsOnly, AccountFits}
use Rattle.calculus.specs.Days.{Leads, Fair, RunKept, Promised, before, event_at, DayRight}
use Rattle.calculus.specs.Limits.{most_unknowns, most_rows, most_lines, added_constant_limit}
use Rattle.calculus.specs.Logs.{Logbook}
use Rattle.calculus.specs.Promises.{FitRanges, FitRows}
use Rattle.calculus.specs.RunLaws.{OneOf}
use Rattle.calculus.specs.Rows.{Standing, doubled}
use Rattle.calculus.specs.Runs.{plan_after, Left, left_by, begin_answer, rows_of, run_end, figure}
use Rattle.calculus.specs.declared.endings.Ending.{Ending}
use Rattle.calculus.specs.declared.endings.Ending.TheVariants.{Plan, NoPlan, Refused}
use Rattle.calculus.specs.declared.ranges.Range.{Range}
use Rattle.calculus.specs.declared.refusals.Refusal.{Refusal}
use Rattle.calculus.specs.declared.refusals.Refusal.TheVariants.{Shape, Range as BadRange, Weight, Label, Double, Full, List as NoList}
use Rattle.calculus.specs.declared.refusals.Refusal.TheVariants.{Misfit, Spent, Long}
use Rattle.calculus.specs.declared.refusals.Refusal.TheVariants.{Wide, Log}
use Rattle.calculus.proofs.Counts.{spent_right, figure_enough}
use Rattle.calculus.proofs.Nones.{none_right}
use Rattle.calculus.proofs.Plans.{plan_right}
use Rattle.calculus.proofs.Running.{run_answers}
use Rattle.calculus.proofs.SoundLogs.{accepted_right, found_none}

-- ---- the account keeps its rows within their limits

-- An account on these ranges whose rows fit.
pub record Fits (rs : List Range) (a : Account) : Type 0 where
  pub ranges : a.ranges ≡ rs
  pub rows : FitRows rs a.rows

settled_fits : (rs : List Range) → Fits rs (settled rs)
settled_fits rs = record { ranges = refl; rows = record { few = omega arith; shaped = tt; light = tt; small = tt } }

-- a row that is added passed each test
added_by : (shape weigh label dup full : Bool) (rs : List Range) (a : Account) (s : Standing) →
    Fits rs a → (shape ≡ false → length s.row.coefs ≡ length rs) → (weigh ≡ false → heavy s.row.coefs ≡ false) →
    (weigh ≡ false → near added_constant_limit s.row.constant ≡ true) → (full ≡ false → length a.rows < most_rows) →
    Fits rs
    (left (answered (when shape Shape ∷ when weigh Weight ∷ when label Label ∷ when dup Double ∷ when full Full ∷ []) (tt {0}))
    (with_row a s) a)
added_by true weigh label dup full rs a s f h k n m = f
added_by false true label dup full rs a s f h k n m = f
added_by false false true dup full rs a s f h k n m = f
added_by false false false true full rs a s f h k n m = f
added_by false false false false true rs a s f h k n m = f
added_by false false false false false rs a s f h k n m =
    let e = length-append a.rows (s ∷ []) in
    let less = m refl in
    record {
      ranges = f.ranges;
      rows = record {
        few = omega arith;
        shaped = All-append _ a.rows (s ∷ []) f.rows.shaped (h refl, tt);
        light = All-append _ a.rows (s ∷ []) f.rows.light (k refl, tt);
        small = All-append _ a.rows (s ∷ []) f.rows.small (n refl, tt);
      };
    }

add_fits : (rs : List Range) (a : Account) (label : ℕ) (cs : List ℤ) (k : ℤ) → Fits rs a → Fits rs (added a label cs k)
add_fits rs a label cs k f =
    added_by (not (eqb (length cs) (length a.ranges))) (heavy cs || not (near added_constant_limit k)) (eqb label 0)
    (doubled a.rows (standing label cs k)) (leb most_rows (length a.rows)) rs a (standing label cs k) f
    (λ h. let e = ap (λ (l : List Range). length l) f.ranges in grind (arith, nat_tests))
    (λ h. (or_parts (heavy cs) (not (near added_constant_limit k)) h).0)
    (λ h. not-false (near added_constant_limit k) (or_parts (heavy cs) (not (near added_constant_limit k)) h).1)
    (λ h. grind (arith, nat_tests))

-- what a call leaves has what both of its outcomes have
left_has : {X : Type 0} (P : Account → Type 0) (r : Result X Refusal) (new found : Account) → P new → P found → P (left r new found)
left_has P (Ok x) new found p q = p
left_has P (Err r) new found p q = q

mark_fits : (rs : List Range) (a : Account) → Fits rs a → Fits rs (marked a)
mark_fits rs a f = left_has (Fits rs) (mark_answer a) (with_mark a) a (record { ranges = f.ranges; rows = f.rows }) f

return_to_fits : (rs : List Range) (ms : List ℕ) (a : Account) → Fits rs a → Fits rs (returned_to ms a)
return_to_fits rs [] a f = f
return_to_fits rs (k ∷ ms) a f =
    let e = length-take k a.rows in
    let few = f.rows.few in
    record {
      ranges = f.ranges;
      rows = record {
        few = omega arith;
        shaped = All-take _ k a.rows f.rows.shaped;
        light = All-take _ k a.rows f.rows.light;
        small = All-take _ k a.rows f.rows.small;
      };
    }

return_fits : (rs : List Range) (a : Account) → Fits rs a → Fits rs (returned a)
return_fits rs a f = left_has (Fits rs) (return_answer a) (returned_to a.marks a) a (return_to_fits rs a.marks a f) f

-- every call keeps the rows within their limits
after_fits : (rs : List Range) (a : Account) (c : Call) → Fits rs a → Fits rs (account_after a c)
after_fits rs a (to_add label cs k) f = add_fits rs a label cs k f
after_fits rs a to_mark f = mark_fits rs a f
after_fits rs a to_return f = return_fits rs a f
after_fits rs a (to_run plan adviser log budget) f = f
after_fits rs a (to_check log) f = f

-- ranges as they are declared
declared_by : (many bad : Bool) (rs : List Range) (r : Range) → FitRanges rs → (many ≡ false → length rs < most_unknowns) →
    (bad ≡ false → bad_range r.low r.high ≡ false) →
    FitRanges (left (answered {A = ℕ} (when many Shape ∷ when bad BadRange ∷ []) (length rs)) (rs ++ r ∷ []) rs)
declared_by true bad rs r f h k = f
declared_by false true rs r f h k = f
declared_by false false rs r f h k =
    let e = length-append rs (r ∷ []) in
    let l = h refl in
    record { few = omega arith; good = All-append _ rs (r ∷ []) f.good (k refl, tt) }

pub account_fits : AccountFits
account_fits = (
  record { few = omega arith; good = tt },
  λ rs low high f. declared_by (leb most_unknowns (length rs)) (bad_range low high) rs (record { low = low; high = high }) f
      (λ h. grind (arith, nat_tests)) (λ h. h),
  λ rs. record { few = omega arith; shaped = tt; light = tt; small = tt },
  λ a c f. let k = after_fits a.ranges a c (record { ranges = refl; rows = f }) in
      subst (λ (q : List Range). FitRows q (account_after a c).rows) (sym k.ranges) k.rows,
)

-- every list of calls leads on, and nothing else does
pub calls_lead : CallsLead
calls_lead a [] = refl
calls_lead a (c ∷ cs) = (refl, calls_lead (account_after a c) cs)

pub leads_only : LeadsOnly
leads_only a [] b h = (refl, h)
leads_only a (e ∷ es) b h =
    let rest = leads_only (account_after a e.call) es b h.1 in
    (λ i. record { call = e.call; answer = h.0 i } ∷ rest.0 i, rest.1)

before_fits : (rs : List Range) (a : Account) (es : List Event) (i : ℕ) → Fits rs a → Fits rs (before a es i)
before_fits rs a [] i f = f
before_fits rs a (e ∷ es) zero f = f
before_fits rs a (e ∷ es) (suc i) f = before_fits rs (account_after a e.call) es i (after_fits rs a e.call f)

-- ---- one run

-- what comes before a run: nothing, list or misfit
abbrev Begins : Result (Unit {0}) Refusal → Type 0
Begins r = (r ≡ Ok tt) ⊎ ((r ≡ Err NoList) ⊎ (r ≡ Err Misfit))

begins_by : (b d : Bool) → Begins (answered (when b NoList ∷ when d Misfit ∷ []) tt)
begins_by true d = inr (inl refl)
begins_by false true = inr (inr refl)
begins_by false false = inl refl

begins : (rs : List Range) (a : Advice) (log : Logbook) (plan : List ℤ) → Begins (begin_answer rs a log plan)
begins rs a log plan =
    begins_by (not (eqb (length plan) (length rs)))
    (not (eqb (length a.mind.order) (length rs)) || not (eqb log.unknowns (length rs)))

abbrev Six : Ending → Type 0
Six e = OneOf (Plan ∷ NoPlan ∷ Refused Spent ∷ Refused Long ∷ Refused Wide ∷ Refused Log ∷ []) e

not_list : (e : Ending) → Six e → e ≡ Refused NoList → ⊥
not_list e h k = grind arith

not_misfit : (e : Ending) → Six e → e ≡ Refused Misfit → ⊥
not_misfit e h k = grind arith

-- everything as found, and no move
abbrev Found : List ℤ → Advice → Logbook → Left → Type 0
Found plan a log end = (end.moves ≡ 0) × (end.plan ≡ plan) × (end.advice ≡ a) × (end.log ≡ log)

found_by : (r : Result (Unit {0}) Refusal) (rs : List Range) (rows : List Standing) (a : Advice) (log : Logbook) (plan : List ℤ)
    (budget : ℕ)
    (f : Refusal) → (r ≡ Ok tt → (left_by r rs (rows_of rows) a log plan budget).ending ≡ Refused f → ⊥) →
    (left_by r rs (rows_of rows) a log plan budget).ending ≡ Refused f → Found plan a log (left_by r rs (rows_of rows) a log plan budget)
found_by (Err r) rs rows a log plan budget f h e = (refl, refl, refl, refl)
found_by (Ok u) rs rows a log plan budget f h e = absurd (h refl e)

-- a check that accepts is of a log for as many unknowns
accepted_unknowns : (rs : List Range) (rows : List Standing) (log : Logbook) → check_end rs rows log ≡ None → log.unknowns ≡ length rs
accepted_unknowns rs rows log h =
    eqb-true log.unknowns (length rs)
    (found_none (eqb log.unknowns (length rs)) (wrong_from rs (rows_of rows) [] log.lines) (closes log.lines) (length log.lines) h).0

-- a check looks at nothing else of a log
same_check : (rs : List Range) (rows : List Standing) (log again : Logbook) → again.unknowns ≡ log.unknowns → again.lines ≡ log.lines →
    check_end rs rows again ≡ check_end rs rows log
same_check rs rows log again e f = λ i. check_end rs rows (record { unknowns = e i; capacity = 0; lines = f i })

run_kept : (rs : List Range) (rows : List Standing) (plan : List ℤ) (a : Advice) (log : Logbook) (budget : ℕ) → FitRanges rs →
    FitRows rs rows →
    Advises a → log.capacity ≤ most_lines → RunKept rs rows plan a log budget (run_end rs rows a log plan budget)
run_kept rs rows plan a log budget fr fs advises most =
    let end = run_end rs rows a log plan budget in
    let six : begin_answer rs a log plan ≡ Ok tt → Six end.ending = run_answers rs rows a log plan budget in
    record {
      plan_right = plan_right rs rows a log plan budget fr advises;
      list_kept = kept_list (begin_answer rs a log plan);
      none_right = λ e. (none_right rs rows a log plan budget fr fs most e).4;
      none_shown = λ e again n l. let shown = (none_right rs rows a log plan budget fr fs most e).3 in
          same_check rs rows end.log again (n ∙ sym (accepted_unknowns rs rows end.log shown)) l ∙ shown;
      spent_right = spent_right rs rows a log plan budget fr;
      enough = λ l. enough_by (begins rs a log plan) l;
      list_first = found_by (begin_answer rs a log plan) rs rows a log plan budget NoList (λ h e. not_list end.ending (six h) e);
      misfit_first = found_by (begin_answer rs a log plan) rs rows a log plan budget Misfit (λ h e. not_misfit end.ending (six h) e);
    }
  where
    plan_kept : (e : Ending) (lows : List ℤ) → (e ≡ Plan → ⊥) → plan_after e lows plan ≡ plan
    plan_kept Plan lows h = absurd (h refl)
    plan_kept NoPlan lows h = refl
    plan_kept (Refused r) lows h = refl

    kept_list : (r : Result (Unit {0}) Refusal) → ((left_by r rs (rows_of rows) a log plan budget).ending ≡ Plan → ⊥) →
        (left_by r rs (rows_of rows) a log plan budget).plan ≡ plan
    kept_list (Err r) h = refl
    kept_list (Ok u) h = plan_kept _ _ h

    at : (r : Result (Unit {0}) Refusal) → begin_answer rs a log plan ≡ r →
        (run_end rs rows a log plan budget).ending ≡ (left_by r rs (rows_of rows) a log plan budget).ending
    at r e = ap (λ (q : Result (Unit {0}) Refusal). (left_by q rs (rows_of rows) a log plan budget).ending) e

    weaken : (e : Ending) → OneOf (Plan ∷ NoPlan ∷ Refused Long ∷ Refused Wide ∷ Refused Log ∷ []) e →
        OneOf (Plan ∷ NoPlan ∷ Refused NoList ∷ Refused Misfit ∷ Refused Long ∷ Refused Wide ∷ Refused Log ∷ []) e
    weaken e (inl h) = inl h
    weaken e (inr (inl h)) = inr (inl h)
    weaken e (inr (inr h)) = inr (inr (inr (inr h)))

    enough_by : Begins (begin_answer rs a log plan) → figure rs ≤ budget →
        OneOf (Plan ∷ NoPlan ∷ Refused NoList ∷ Refused Misfit ∷ Refused Long ∷ Refused Wide ∷ Refused Log ∷ [])
        (run_end rs rows a log plan budget).ending
    enough_by (inl h) l = weaken _ (figure_enough rs rows a log plan budget fr h l)
    enough_by (inr (inl h)) l = inr (inr (inl (at (Err NoList) h)))
    enough_by (inr (inr h)) l = inr (inr (inr (inl (at (Err Misfit) h))))

-- ---- one call

kept_by : (rs : List Range) (a : Account) (c : Call) (r : Answer) → FitRanges rs → Fits rs a → Fair c → r ≡ answer_due a c → Promised a c r
kept_by rs a (to_add label cs k) r fr f fair e = tt
kept_by rs a to_mark r fr f fair e = tt
kept_by rs a to_return r fr f fair e = tt
kept_by rs a (to_run plan adviser log budget) r fr f fair e = λ end h.
    let same : run_end a.ranges a.rows adviser log plan budget ≡ end = cc in
    subst (RunKept a.ranges a.rows plan adviser log budget) same
    (run_kept a.ranges a.rows plan adviser log budget (subst FitRanges (sym f.ranges) fr)
    (subst (λ (q : List Range). FitRows q a.rows) (sym f.ranges) f.rows) fair.0 fair.1)
kept_by rs a (to_check log) r fr f fair e = λ h.
    let same : check_end a.ranges a.rows log ≡ None = cc in
    accepted_right a.ranges a.rows log same

-- ---- the day

answered_at : (a : Account) (es : List Event) (b : Account) (i : ℕ) → Leads a es b → i < length es →
    (event_at es i).answer ≡ answer_due (before a es i) (event_at es i).call
answered_at a [] b i h l = absurd (omega arith)
answered_at a (e ∷ es) b zero h l = h.0
answered_at a (e ∷ es) b (suc i) h l = answered_at (account_after a e.call) es b i h.1 (omega arith)

fair_at : (es : List Event) (i : ℕ) → i < length es → AllByRecursion (λ e. Fair e.call) es → Fair (event_at es i).call
fair_at [] i l h = absurd (omega arith)
fair_at (e ∷ es) zero l h = h.0
fair_at (e ∷ es) (suc i) l h = fair_at es i (omega arith) h.1

leads_fits : (rs : List Range) (a : Account) (es : List Event) (b : Account) → Fits rs a → Leads a es b → Fits rs b
leads_fits rs a [] b f h = subst (Fits rs) (sym h) f
leads_fits rs a (e ∷ es) b f h = leads_fits rs (account_after a e.call) es b (after_fits rs a e.call f) h.1

pub day_right : DayRight
day_right rs es b fr leads fair = record {
  promised = kept;
  accepted = λ i j plan adviser log budget end again l m is none asks n lines rows.
      let at_i = before (settled rs) es i in
      let at_j = before (settled rs) es j in
      let fits_i = before_fits rs (settled rs) es i (settled_fits rs) in
      let fits_j = before_fits rs (settled rs) es j (settled_fits rs) in
      let run = subst (λ (e : Event). Promised at_i e.call e.answer) is (kept i l) in
      let shown : check_end at_i.ranges at_i.rows again ≡ None =
      (run end refl).none_shown none again (n ∙ ap (λ (q : List Range). length q) (sym fits_i.ranges)) lines in
      let there : check_end at_j.ranges at_j.rows again ≡ None =
      subst (λ (q : List Range). check_end q at_j.rows again ≡ None) (fits_i.ranges ∙ sym fits_j.ranges)
      (subst (λ (q : List Standing). check_end at_i.ranges q again ≡ None) rows shown) in
      answered_at (settled rs) es b j leads m ∙ ap (answer_due at_j) asks ∙ ap checked there;
  ranges_stay = (leads_fits rs (settled rs) es b (settled_fits rs) leads).ranges;
}
  where
    kept : (i : ℕ) → i < length es → Promised (before (settled rs) es i) (event_at es i).call (event_at es i).answer
    kept i l =
        kept_by rs (before (settled rs) es i) (event_at es i).call (event_at es i).answer fr
        (before_fits rs (settled rs) es i (settled_fits rs)) (fair_at es i l fair) (answered_at (settled rs) es b i leads l)
