-- Laws of whole runs: where a run rests it stays, larger budgets come through the same machines, and every run rests.
use Rattle.std.proofs.Common.{◌≡◌, ℕ, zero, suc, ◌+◌, ◌-◌, ◌*◌, ◌<◌, ◌≤◌, Bool, true, false, not, ◌&&◌, ◌||◌, eqb, leb, ◌⊎◌, List, [], ◌∷◌, length, take, ℤ, Ok, Err, Result, sym, refl, ap, ◌∙◌, subst, inl, inr, le_trans, mul-le-mul_right, suc-add, zero-add, arith}
use Rattle.std.proofs.lemmas.List.{length-take}
use Rattle.std.proofs.lemmas.Bool.{and_parts, or_parts, or_right, false≢true}
use Rattle.std.proofs.lemmas.Bool.Decides.{nat_tests}
use Rattle.calculus.specs.Account.{when, answered}
use Rattle.calculus.specs.Advice.{Advice, advised}
use Rattle.calculus.specs.Limits.{most_entries, most_unknowns}
use Rattle.calculus.specs.Logs.{Line, Logbook}
use Rattle.calculus.specs.Machines.{Context, Phase, looking, repairing, ended, Machine, Acted, free, halted, moved, act_in, act}
use Rattle.calculus.specs.RunLaws.{is_over, is_due, rests, coast_by, coast, after, Grown, OneOf}
use Rattle.calculus.specs.RunLaws.{EndedStays, RestStays, SameMachines, LargerBudget, SoonDue, RunRests, RunAnswers}
use Rattle.calculus.specs.RunLaws.{MovesWithin, SpentIsBudget, StepAppends, LogAfter, LogSame}
use Rattle.calculus.specs.Rows.{Row}
use Rattle.calculus.specs.Runs.{Progress, start_by, start, base_lines, range_entries, rows_of, within_budget, advanced, run, ending_of}
use Rattle.calculus.specs.Runs.{steps_between, enough_steps, whole_run, left_at, left_by, begin_answer}
use Rattle.calculus.specs.declared.endings.Ending.TheVariants.{Plan, NoPlan, Refused}
use Rattle.calculus.specs.declared.ranges.Range.{Range}
use Rattle.calculus.specs.declared.refusals.Refusal.{Refusal}
use Rattle.calculus.specs.declared.refusals.Refusal.TheVariants.{List as NoList, Misfit, Spent, Long, Wide, Log}
use Rattle.calculus.proofs.Stepping.{grown_same, grown_on, togo, togo_of, Lasts, Step, Fine, act_ok}

-- ---- resting

ended_act : (p : Phase) (c : Context) (m : Machine) → is_over p ≡ true → act_in p c m ≡ free m
ended_act looking c m h = absurd (grind arith)
ended_act (repairing j line place) c m h = absurd (grind arith)
ended_act (ended e) c m h = refl

pub ended_stays : EndedStays
ended_stays c m h = ended_act m.phase c m h

spent_step : (budget : ℕ) (a : Acted) (g : Progress) → (is_due a && leb budget g.made) ≡ true → advanced budget a g ≡ g
spent_step budget (free m) g h = absurd (grind arith)
spent_step budget (halted m) g h = ap (λ (b : Bool). within_budget b g (record { at = m; made = g.made })) h
spent_step budget (moved m) g h = ap (λ (b : Bool). within_budget b g (record { at = m; made = suc g.made })) h

rest_by : (over : Bool) (c : Context) (budget : ℕ) (g : Progress) → is_over g.at.phase ≡ over →
    (over || (is_due (act c g.at) && leb budget g.made)) ≡ true → advanced budget (act c g.at) g ≡ g
rest_by true c budget g e h = ap (λ (a : Acted). advanced budget a g) (ended_stays c g.at e)
rest_by false c budget g e h = spent_step budget (act c g.at) g h

rest_step : (c : Context) (budget : ℕ) (g : Progress) → rests c budget g ≡ true → advanced budget (act c g.at) g ≡ g
rest_step c budget g h = rest_by (is_over g.at.phase) c budget g refl h

pub rest_stays : RestStays
rest_stays c budget zero g h = refl
rest_stays c budget (suc k) g h = ap (λ (f : Progress). run c budget k f) (rest_step c budget g h) ∙ rest_stays c budget k g h

-- a run that is over rests
pub over_rests : (c : Context) (budget : ℕ) (g : Progress) → is_over g.at.phase ≡ true → rests c budget g ≡ true
over_rests c budget g h = ap (λ (b : Bool). b || (is_due (act c g.at) && leb budget g.made)) h

-- ---- larger budgets

alike_by : (b l : Bool) (now next : Progress) → (l ≡ true → b ≡ true) →
    (within_budget b now next ≡ within_budget l now next) ⊎ (within_budget b now next ≡ now)
alike_by true l now next h = inr refl
alike_by false true now next h = absurd (false≢true (h refl))
alike_by false false now next h = inl refl

alike : (budget larger : ℕ) (a : Acted) (g : Progress) → budget ≤ larger →
    (advanced budget a g ≡ advanced larger a g) ⊎ (advanced budget a g ≡ g)
alike budget larger (free m) g l = inl refl
alike budget larger (halted m) g l =
    alike_by (leb budget g.made) (leb larger g.made) g _ (λ h. grind (arith, nat_tests))
alike budget larger (moved m) g l =
    alike_by (leb budget g.made) (leb larger g.made) g _ (λ h. grind (arith, nat_tests))

-- the machine after so many steps is met under the larger budget too
abbrev Met : Context → ℕ → ℕ → ℕ → Progress → Progress → Type 0
Met c budget larger steps g h = (k : ℕ) × (k ≤ steps) × (run c budget steps g ≡ run c larger k h)

met_by : (c : Context) (budget larger k : ℕ) (g next : Progress) →
    (next ≡ advanced larger (act c g.at) g) ⊎ (next ≡ g) →
    Met c budget larger k (advanced larger (act c g.at) g) (advanced larger (act c g.at) g) → Met c budget larger k g g →
    (j : ℕ) × (j ≤ suc k) × (run c budget k next ≡ run c larger j g)
met_by c budget larger k g next (inl e) p q =
    let l = p.1 in (suc p.0, omega arith, ap (λ (f : Progress). run c budget k f) e ∙ p.2)
met_by c budget larger k g next (inr e) p q =
    let l = q.1 in (q.0, omega arith, ap (λ (f : Progress). run c budget k f) e ∙ q.2)

pub same_machines : SameMachines
same_machines c budget larger zero g l = (0, omega arith, refl)
same_machines c budget larger (suc k) g l =
    met_by c budget larger k g _ (alike budget larger (act c g.at) g l)
    (same_machines c budget larger k (advanced larger (act c g.at) g) l) (same_machines c budget larger k g l)

-- steps one after another
pub run_plus : (c : Context) (budget j k : ℕ) (g : Progress) → run c budget (j + k) g ≡ run c budget k (run c budget j g)
run_plus c budget zero k g = ap (λ (s : ℕ). run c budget s g) (zero-add k)
run_plus c budget (suc j) k g =
    ap (λ (s : ℕ). run c budget s g) (suc-add j k) ∙ run_plus c budget j k (advanced budget (act c g.at) g)

-- where a run rests after some steps, it is there after any more of them
pub run_more : (c : Context) (budget j k : ℕ) (g : Progress) → j ≤ k → rests c budget (run c budget j g) ≡ true →
    run c budget k g ≡ run c budget j g
run_more c budget j k g l h =
    let e : k ≡ j + (k - j) = omega arith in
    ap (λ (s : ℕ). run c budget s g) e ∙ run_plus c budget j (k - j) g ∙ rest_stays c budget (k - j) (run c budget j g) h

abbrev pub context_of : List Range → List Row → Logbook → Context
context_of rs rows log = record { ranges = rs; rows = rows; capacity = log.capacity }

abbrev begins : Context → Advice → Progress
begins c a = record { at = start c a; made = 0 }

-- a run that is over leaves the same under a larger budget
pub whole_same : (c : Context) (budget larger : ℕ) (a : Advice) → budget ≤ larger →
    is_over (whole_run c budget a).at.phase ≡ true → whole_run c larger a ≡ whole_run c budget a
whole_same c budget larger a l h =
    let met = same_machines c budget larger (enough_steps budget) (begins c a) l in
    let few = met.1 in
    let more : enough_steps budget ≤ enough_steps larger = mul-le-mul_right steps_between (omega arith) in
    let over : is_over (run c larger met.0 (begins c a)).at.phase ≡ true =
    subst (λ (g : Progress). is_over g.at.phase ≡ true) met.2 h in
    run_more c larger met.0 (enough_steps larger) (begins c a) (le_trans few more) (over_rests c larger _ over) ∙ sym met.2

ending_spent : (p : Phase) → (ending_of p ≡ Refused Spent → ⊥) → is_over p ≡ true
ending_spent looking h = absurd (h refl)
ending_spent (repairing j line place) h = absurd (h refl)
ending_spent (ended e) h = refl

larger_by : (r : Result (Unit {0}) Refusal) (rs : List Range) (rows : List Row) (a : Advice) (log : Logbook) (plan : List ℤ)
    (budget larger : ℕ) → budget ≤ larger → ((left_by r rs rows a log plan budget).ending ≡ Refused Spent → ⊥) →
    left_by r rs rows a log plan larger ≡ left_by r rs rows a log plan budget
larger_by (Err r) rs rows a log plan budget larger l h = refl
larger_by (Ok u) rs rows a log plan budget larger l h =
    ap (λ (g : Progress). left_at g rs log plan)
    (whole_same (context_of rs rows log) budget larger a l (ending_spent _ h))

pub larger_budget : LargerBudget
larger_budget rs rows a log plan budget larger l h = larger_by _ rs (rows_of rows) a log plan budget larger l h

-- ---- every run rests

not_due_over : (p : Phase) (entries : ℕ) → togo p entries ≤ 0 → is_over p ≡ true
not_due_over looking entries h = absurd (omega arith)
not_due_over (repairing j line place) entries h = absurd (omega arith)
not_due_over (ended e) entries h = refl

busy_togo : (p : Phase) (entries : ℕ) → is_over p ≡ false → 0 < togo p entries
busy_togo looking entries h = omega arith
busy_togo (repairing j line place) entries h = omega arith
busy_togo (ended e) entries h = absurd (grind arith)

over_togo : (p : Phase) (entries : ℕ) → is_over p ≡ true → togo p entries ≡ 0
over_togo looking entries h = absurd (grind arith)
over_togo (repairing j line place) entries h = absurd (grind arith)
over_togo (ended e) entries h = refl

togo_most : (p : Phase) (entries : ℕ) → togo p entries ≤ entries + 2
togo_most looking entries = omega arith
togo_most (repairing j line place) entries = omega arith
togo_most (ended e) entries = omega arith

-- a free step leads on, or the machine is over and stays
free_on : (c : Context) (m n : Machine) (over : Bool) → is_over m.phase ≡ over → act c m ≡ free n → Fine c m (free n) →
    (togo_of n < togo_of m) ⊎ (togo_of n ≡ 0)
free_on c m n false o e f = inl (f.1 o)
free_on c m n true o e f =
    let same : m ≡ n = ap after (sym (ended_stays c m o) ∙ e) in
    inr (subst (λ (k : Machine). togo_of k ≡ 0) same (over_togo m.phase (length m.trail) o))

abbrev Settled : Context → Machine → Type 0
Settled c m = (is_over m.phase || is_due (act c m)) ≡ true

coast_by_ok : (a : Acted) (c : Context) (k : ℕ) (m : Machine) → act c m ≡ a → Fine c m a → togo_of m ≤ suc k →
    ((n : Machine) → togo_of n ≤ k → Settled c (coast c k n)) → Settled c (coast_by a m (coast c k))
coast_by_ok (free n) c k m e f h later = later n (let s = free_on c m n (is_over m.phase) refl e f in grind arith)
coast_by_ok (halted n) c k m e f h later = or_right (is_over m.phase) _ (ap is_due e)
coast_by_ok (moved n) c k m e f h later = or_right (is_over m.phase) _ (ap is_due e)

coast_ok : (c : Context) (k : ℕ) (m : Machine) → togo_of m ≤ k → Settled c (coast c k m)
coast_ok c zero m h = ap (λ (b : Bool). b || is_due (act c m)) (not_due_over m.phase (length m.trail) h)
coast_ok c (suc k) m h = coast_by_ok (act c m) c k m refl (act_ok c m) h (coast_ok c k)

pub soon_due : SoonDue
soon_due c m = coast_ok c (length m.trail + 2) m (togo_most m.phase (length m.trail))

-- what a run still has before it: the moves left in the budget, then the steps to the next move
abbrev weight : ℕ → Progress → ℕ
weight budget g = (budget - g.made) * steps_between + togo_of g.at

abbrev Short : Progress → Type 0
Short g = length g.at.trail ≤ most_entries

halted_by : (full : Bool) (c : Context) (budget : ℕ) (g : Progress) (n : Machine) → leb budget g.made ≡ full → full ≡ false → Short g →
    Fine c g.at (halted n) →
    let next = within_budget full g (record { at = n; made = g.made }) in
    (weight budget next < weight budget g) × Short next
halted_by true c budget g n e h short f = absurd (grind arith)
halted_by false c budget g n e h short f =
    let busy = busy_togo g.at.phase (length g.at.trail) f.1 in
    let over = over_togo n.phase (length n.trail) f.2 in
    (omega arith, f.0.short short)

moved_by : (full : Bool) (c : Context) (budget : ℕ) (g : Progress) (n : Machine) → leb budget g.made ≡ full → full ≡ false → Short g →
    Fine c g.at (moved n) →
    let next = within_budget full g (record { at = n; made = suc g.made }) in
    (weight budget next < weight budget g) × Short next
moved_by true c budget g n e h short f = absurd (grind arith)
moved_by false c budget g n e h short f =
    let few : g.made < budget = grind (arith, nat_tests) in
    let busy = busy_togo g.at.phase (length g.at.trail) f.1 in
    let most = togo_most n.phase (length n.trail) in
    let less = f.0.short short in
    (omega arith, less)

-- a step of a run that does not rest makes the weight fall
falls : (a : Acted) (c : Context) (budget : ℕ) (g : Progress) → Fine c g.at a → is_over g.at.phase ≡ false →
    (is_due a && leb budget g.made) ≡ false → Short g →
    (weight budget (advanced budget a g) < weight budget g) × Short (advanced budget a g)
falls (free n) c budget g f busy h short = let l = f.1 busy in (omega arith, f.0.short short)
falls (halted n) c budget g f busy h short = halted_by (leb budget g.made) c budget g n refl h short f
falls (moved n) c budget g f busy h short = moved_by (leb budget g.made) c budget g n refl h short f

weighed_by : (resting : Bool) (c : Context) (budget k : ℕ) (g : Progress) → rests c budget g ≡ resting → Short g → weight budget g ≤ suc k →
    ((f : Progress) → Short f → weight budget f ≤ k → rests c budget (run c budget k f) ≡ true) →
    rests c budget (run c budget (suc k) g) ≡ true
weighed_by true c budget k g e short h later =
    ap (λ (f : Progress). rests c budget f) (rest_stays c budget (suc k) g e) ∙ e
weighed_by false c budget k g e short h later =
    let parts = or_parts (is_over g.at.phase) _ e in
    let next = falls (act c g.at) c budget g (act_ok c g.at) parts.0 parts.1 short in
    let less = next.0 in
    later (advanced budget (act c g.at) g) next.1 (omega arith)

weighed : (c : Context) (budget k : ℕ) (g : Progress) → Short g → weight budget g ≤ k → rests c budget (run c budget k g) ≡ true
weighed c budget zero g short h =
    over_rests c budget g (not_due_over g.at.phase (length g.at.trail) (omega arith))
weighed c budget (suc k) g short h = weighed_by (rests c budget g) c budget k g refl short h (weighed c budget k)

pub range_entries_long : (rs : List Range) (k : ℕ) → length (range_entries rs k) ≡ k + k
range_entries_long rs zero = refl
range_entries_long rs (suc k) = let e = range_entries_long rs k in omega arith

start_by_short : (b : Bool) (c : Context) (a : Advice) → length (start_by b c a).trail ≡ length c.ranges + length c.ranges
start_by_short true c a = range_entries_long c.ranges (length c.ranges)
start_by_short false c a = range_entries_long c.ranges (length c.ranges)

pub run_rests : RunRests
run_rests c budget a l =
    let long : length (start c a).trail ≡ length c.ranges + length c.ranges = start_by_short _ c a in
    let most = togo_most (start c a).phase (length (start c a).trail) in
    let enough : weight budget (begins c a) ≤ enough_steps budget = omega arith in
    let rest = weighed c budget (enough_steps budget) (begins c a) (omega arith) enough in
    (rest, λ steps h. run_more c budget (enough_steps budget) steps (begins c a) h rest)

-- ---- what holds at every machine of a run

-- whatever a step keeps, a run keeps
at_advanced : (P : Machine → Type 0) (budget : ℕ) (a : Acted) (g : Progress) → P g.at → P (after a) → P (advanced budget a g).at
at_advanced P budget (free n) g p q = q
at_advanced P budget (halted n) g p q = either (leb budget g.made)
  where
    either : (b : Bool) → P (within_budget b g (record { at = n; made = g.made })).at
    either true = p
    either false = q
at_advanced P budget (moved n) g p q = either (leb budget g.made)
  where
    either : (b : Bool) → P (within_budget b g (record { at = n; made = suc g.made })).at
    either true = p
    either false = q

pub run_keeps : (P : Machine → Type 0) (c : Context) → ((m : Machine) → P m → P (after (act c m))) →
    (budget k : ℕ) (g : Progress) → P g.at → P (run c budget k g).at
run_keeps P c keeps budget zero g p = p
run_keeps P c keeps budget (suc k) g p =
    run_keeps P c keeps budget k _ (at_advanced P budget (act c g.at) g p (keeps g.at p))

-- what a start has and every step keeps, a whole run leaves
pub whole_keeps : (P : Machine → Type 0) (c : Context) → ((m : Machine) → P m → P (after (act c m))) → (budget : ℕ) (a : Advice) →
    P (start c a) → P (whole_run c budget a).at
whole_keeps P c keeps budget a h = run_keeps P c keeps budget (enough_steps budget) (begins c a) h

step_of : (c : Context) (m : Machine) (a : Acted) → Fine c m a → Step c m (after a)
step_of c m (free n) f = f.0
step_of c m (halted n) f = f.0
step_of c m (moved n) f = f.0

-- from a machine to the one after a step
pub act_step : (c : Context) (m : Machine) → Step c m (after (act c m))
act_step c m = step_of c m (act c m) (act_ok c m)

pub step_appends : StepAppends
step_appends c m = (act_step c m).lines.grown

-- ---- answers and moves

start_by_lasts : (b : Bool) (c : Context) (a : Advice) → Lasts (start_by b c a).phase
start_by_lasts true c a = tt
start_by_lasts false c a = inr (inr (inr (inr (inl refl))))

whole_lasts : (c : Context) (budget : ℕ) (a : Advice) → Lasts (whole_run c budget a).at.phase
whole_lasts c budget a =
    whole_keeps (λ m. Lasts m.phase) c (λ m h. (act_step c m).ends h) budget a (start_by_lasts _ c a)

answers : (p : Phase) → Lasts p → OneOf (Plan ∷ NoPlan ∷ Refused Spent ∷ Refused Long ∷ Refused Wide ∷ Refused Log ∷ []) (ending_of p)
answers looking h = inr (inr (inl refl))
answers (repairing j line place) h = inr (inr (inl refl))
answers (ended e) (inl h) = inl h
answers (ended e) (inr (inl h)) = inr (inl h)
answers (ended e) (inr (inr h)) = inr (inr (inr h))

answers_by : (r : Result (Unit {0}) Refusal) (rs : List Range) (rows : List Row) (a : Advice) (log : Logbook) (plan : List ℤ) (budget : ℕ) →
    r ≡ Ok tt →
    OneOf (Plan ∷ NoPlan ∷ Refused Spent ∷ Refused Long ∷ Refused Wide ∷ Refused Log ∷ []) (left_by r rs rows a log plan budget).ending
answers_by (Err r) rs rows a log plan budget h = absurd cc
answers_by (Ok u) rs rows a log plan budget h = answers _ (whole_lasts _ budget a)

pub run_answers : RunAnswers
run_answers rs rows a log plan budget h = answers_by _ rs (rows_of rows) a log plan budget h

made_advanced : (budget : ℕ) (a : Acted) (g : Progress) → g.made ≤ budget → (advanced budget a g).made ≤ budget
made_advanced budget (free n) g h = h
made_advanced budget (halted n) g h = either (leb budget g.made)
  where
    either : (b : Bool) → (within_budget b g (record { at = n; made = g.made })).made ≤ budget
    either true = h
    either false = h
made_advanced budget (moved n) g h = either (leb budget g.made) refl
  where
    either : (b : Bool) → leb budget g.made ≡ b → (within_budget b g (record { at = n; made = suc g.made })).made ≤ budget
    either true e = h
    either false e = grind (arith, nat_tests)

run_made : (c : Context) (budget k : ℕ) (g : Progress) → g.made ≤ budget → (run c budget k g).made ≤ budget
run_made c budget zero g h = h
run_made c budget (suc k) g h = run_made c budget k _ (made_advanced budget (act c g.at) g h)

moves_by : (r : Result (Unit {0}) Refusal) (rs : List Range) (rows : List Row) (a : Advice) (log : Logbook) (plan : List ℤ) (budget : ℕ) →
    (left_by r rs rows a log plan budget).moves ≤ budget
moves_by (Err r) rs rows a log plan budget = omega arith
moves_by (Ok u) rs rows a log plan budget =
    let none : 0 ≤ budget = omega arith in
    run_made (context_of rs rows log) budget (enough_steps budget) (begins (context_of rs rows log) a) none

pub moves_within : MovesWithin
moves_within rs rows a log plan budget = moves_by _ rs (rows_of rows) a log plan budget

-- a machine does not end in spent
lasting_not_spent : (p : Phase) → Lasts p → ending_of p ≡ Refused Spent → is_over p ≡ false
lasting_not_spent looking h e = refl
lasting_not_spent (repairing j line place) h e = refl
lasting_not_spent (ended x) h e = absurd (grind arith)

-- a run that rests and is not over has made as many moves as its budget
resting_moves : (over : Bool) (c : Context) (budget : ℕ) (g : Progress) → is_over g.at.phase ≡ over → over ≡ false →
    (over || (is_due (act c g.at) && leb budget g.made)) ≡ true → g.made ≤ budget → g.made ≡ budget
resting_moves true c budget g e h r l = absurd (grind arith)
resting_moves false c budget g e h r l =
    let full : leb budget g.made ≡ true = (and_parts (is_due (act c g.at)) (leb budget g.made) r).1 in
    let least : budget ≤ g.made = grind (arith, nat_tests) in
    omega arith

pub whole_spent : (c : Context) (budget : ℕ) (a : Advice) → length c.ranges ≤ most_unknowns →
    ending_of (whole_run c budget a).at.phase ≡ Refused Spent → (whole_run c budget a).made ≡ budget
whole_spent c budget a l e =
    let none : 0 ≤ budget = omega arith in
    resting_moves (is_over (whole_run c budget a).at.phase) c budget (whole_run c budget a) refl
    (lasting_not_spent _ (whole_lasts c budget a) e) (run_rests c budget a l).0 (run_made c budget (enough_steps budget) (begins c a) none)

-- the tests before a run refuse list or misfit
not_first : (b d : Bool) → answered {A = Unit {0}} (when b NoList ∷ when d Misfit ∷ []) tt ≡ Err Spent → ⊥
not_first true d h = absurd cc
not_first false true h = absurd cc
not_first false false h = absurd cc

-- and let only an adviser and a log for as many unknowns pass
pub begins_fit : (b d e : Bool) (u : Unit {0}) → answered {A = Unit {0}} (when b NoList ∷ when (not d || not e) Misfit ∷ []) tt ≡ Ok u →
    (d ≡ true) × (e ≡ true)
begins_fit true d e u h = absurd cc
begins_fit false false e u h = absurd cc
begins_fit false true false u h = absurd cc
begins_fit false true true u h = (refl, refl)

spent_by : (r : Result (Unit {0}) Refusal) (rs : List Range) (rows : List Row) (a : Advice) (log : Logbook) (plan : List ℤ) (budget : ℕ) →
    (r ≡ Err Spent → ⊥) → length rs ≤ most_unknowns →
    (left_by r rs rows a log plan budget).ending ≡ Refused Spent → (left_by r rs rows a log plan budget).moves ≡ budget
spent_by (Err r) rs rows a log plan budget n l e = absurd (n (ap Err (let same : r ≡ Spent = cc in same)))
spent_by (Ok u) rs rows a log plan budget n l e = whole_spent _ budget a l e

pub spent_is_budget : SpentIsBudget
spent_is_budget rs rows a log plan budget l e =
    spent_by (begin_answer rs a log plan) rs (rows_of rows) a log plan budget (λ h. not_first (not (eqb (length plan) (length rs)))
    (not (eqb (advised a) (length rs)) || not (eqb log.unknowns (length rs))) h) l e

-- ---- the log

-- the base lines stay first
pub whole_grown : (c : Context) (budget : ℕ) (a : Advice) → Grown (start c a).lines (whole_run c budget a).at.lines
whole_grown c budget a =
    whole_keeps (λ m. Grown (start c a).lines m.lines) c (λ m h. grown_on h (act_step c m).lines.grown) budget a
    (grown_same (start c a).lines)

-- no more lines than there is room for
start_by_room : (b : Bool) (c : Context) (a : Advice) → leb (length (base_lines c.ranges c.rows)) c.capacity ≡ b →
    length (start_by b c a).lines ≤ c.capacity
start_by_room true c a e = grind (arith, nat_tests)
start_by_room false c a e =
    let l = length-take c.capacity (base_lines c.ranges c.rows) in
    omega arith

pub whole_room : (c : Context) (budget : ℕ) (a : Advice) → length (whole_run c budget a).at.lines ≤ c.capacity
whole_room c budget a =
    whole_keeps (λ m. length m.lines ≤ c.capacity) c (λ m h. (act_step c m).lines.room h) budget a (start_by_room _ c a refl)

abbrev Starts : Context → Machine → Type 0
Starts c m =
    (m.lines ≡ base_lines c.ranges c.rows)
    ⊎ ((c.capacity < length (base_lines c.ranges c.rows)) × (m.lines ≡ take c.capacity (base_lines c.ranges c.rows))
    × (m.phase ≡ ended (Refused Log)))

starts_by : (b : Bool) (c : Context) (a : Advice) → leb (length (base_lines c.ranges c.rows)) c.capacity ≡ b →
    Starts c (start_by b c a)
starts_by true c a e = inl refl
starts_by false c a e = inr (grind (arith, nat_tests), refl, refl)

log_by : (r : Result (Unit {0}) Refusal) (rs : List Range) (rows : List Row) (a : Advice) (log : Logbook) (plan : List ℤ) (budget : ℕ) →
    r ≡ Ok tt →
    let end = left_by r rs rows a log plan budget in
    let base = base_lines rs rows in
    Grown base end.log.lines
    ⊎ ((log.capacity < length base) × (end.log.lines ≡ take log.capacity base) × (end.ending ≡ Refused Log) × (end.moves ≡ 0))
log_by (Err r) rs rows a log plan budget h = absurd cc
log_by (Ok u) rs rows a log plan budget h = by_start (starts_by _ (context_of rs rows log) a refl)
  where
    c : Context
    c = context_of rs rows log

    by_start : Starts c (start c a) →
        Grown (base_lines rs rows) (whole_run c budget a).at.lines
        ⊎ ((log.capacity < length (base_lines rs rows)) × ((whole_run c budget a).at.lines ≡ take log.capacity (base_lines rs rows))
        × (ending_of (whole_run c budget a).at.phase ≡ Refused Log) × ((whole_run c budget a).made ≡ 0))
    by_start (inl e) = inl (subst (λ (ls : List Line). Grown ls (whole_run c budget a).at.lines) e (whole_grown c budget a))
    by_start (inr p) =
        let over : is_over (start c a).phase ≡ true = ap is_over p.2 in
        let stays : whole_run c budget a ≡ begins c a =
        rest_stays c budget (enough_steps budget) (begins c a) (over_rests c budget (begins c a) over) in
        inr (
          p.0,
          ap (λ (g : Progress). g.at.lines) stays ∙ p.1,
          ap (λ (g : Progress). ending_of g.at.phase) stays ∙ ap ending_of p.2,
          ap (λ (g : Progress). g.made) stays,
        )

pub log_after : LogAfter
log_after rs rows a log plan budget h = log_by _ rs (rows_of rows) a log plan budget h

log_same_by : (r : Result (Unit {0}) Refusal) (rs : List Range) (rows : List Row) (a : Advice) (log : Logbook) (plan : List ℤ)
    (budget : ℕ) →
    let end = left_by r rs rows a log plan budget in (end.log.unknowns ≡ log.unknowns) × (end.log.capacity ≡ log.capacity)
log_same_by (Err r) rs rows a log plan budget = (refl, refl)
log_same_by (Ok u) rs rows a log plan budget = (refl, refl)

pub log_same : LogSame
log_same rs rows a log plan budget = log_same_by _ rs (rows_of rows) a log plan budget
