-- No run makes as many moves as the figure: each move is paid for from the potential of the start, whatever the lines say.
-- It rests on the ranks, on the three moves, and on what a step without a move leaves of the trail.
use Rattle.std.proofs.Common.{◌≡◌, ℕ, zero, suc, ◌+◌, ◌*◌, ◌<◌, ◌≤◌, Bool, true, false, leb, ◌⊎◌, List, [], ◌∷◌, length, ℤ, Ok, Err, Result, sym, refl, ap, subst, inl, inr, arith}
use Rattle.std.proofs.lemmas.Bool.{true≢false}
use Rattle.calculus.specs.Advice.{Advice}
use Rattle.calculus.specs.Bounds.{Trail, row_at}
use Rattle.calculus.specs.Logs.{Logbook}
use Rattle.calculus.specs.Machines.{Context, Phase, looking, repairing, ended, Machine, Acted, free, halted, moved, decided, act}
use Rattle.calculus.specs.MoveLaws.{Propagates, Decides, Backjumps}
use Rattle.calculus.specs.Promises.{SpentRight, MovesBounded, FigureEnough}
use Rattle.calculus.specs.RunLaws.{OneOf}
use Rattle.calculus.specs.Rows.{Row}
use Rattle.calculus.specs.Runs.{Progress, range_entries, start_by, start, within_budget, advanced, run, enough_steps, whole_run}
use Rattle.calculus.specs.Runs.{left_by, rows_of, figure}
use Rattle.calculus.specs.declared.endings.Ending.{Ending}
use Rattle.calculus.specs.declared.endings.Ending.TheVariants.{Plan, NoPlan, Refused}
use Rattle.calculus.specs.declared.ranges.Range.{Range}
use Rattle.calculus.specs.declared.refusals.Refusal.{Refusal}
use Rattle.calculus.specs.declared.refusals.Refusal.TheVariants.{Spent, Long, Wide, Log}
use Rattle.calculus.specs.declared.trails.Entry.{Entry}
use Rattle.calculus.proofs.Firm.{InOrder, Firm, fit_order, implied, start_firm, better_nearer, better_sits, choice_room, decided_nearer}
use Rattle.calculus.proofs.Firm.{decided_sits, firm_lower}
use Rattle.calculus.proofs.Firsts.{first_pair}
use Rattle.calculus.proofs.Moves.{one_of_three}
use Rattle.calculus.proofs.Ranks.{wide_falls, past, potential, past_below, past_stays, propagate_falls, jump_falls, decide_falls}
use Rattle.calculus.proofs.Ranks.{first_potential, first_below, Short, push_short, start_short}
use Rattle.calculus.proofs.Running.{run_answers, spent_is_budget}
use Rattle.calculus.proofs.Unmoved.{Lower, lower_keeps, Onward, Unmoved, Rest, act_rest}

-- ---- what moves cost

-- Each move costs the price. Where repair comes to cost moves of its own, a trail under repair costs its toll. Only the lemmas of this
-- section look at the two numbers.
unfoldable pub price : List Range → ℕ
price rs = 1

unfoldable pub toll : Trail → ℕ
toll t = 0

-- where a number falls, its worth falls by a move at least
move_paid : (rs : List Range) (a b : ℕ) → a < b → suc (a * price rs) ≤ b * price rs
unfolding price
move_paid rs a b h = omega arith

price_keeps : (rs : List Range) (a b : ℕ) → a ≤ b → a * price rs ≤ b * price rs
unfolding price
price_keeps rs a b h = omega arith

-- what is left at a conflict is enough for its repair; a toll may go by the length of the trail
repair_paid : (rs : List Range) (t : Trail) → Short rs t → past rs t * price rs + toll t < potential rs t * price rs
unfolding price toll
repair_paid rs t short = let a = past_below rs t in omega arith

-- and taking an entry off asks for no more
off_paid : (rs : List Range) (e : Entry) (t : Trail) → past rs t * price rs + toll t ≤ past rs (e ∷ t) * price rs + toll (e ∷ t)
unfolding price toll
off_paid rs e t = let a = past_stays rs e t in omega arith

-- what a run has to spend
abbrev pub purse : List Range → ℕ
purse rs = first_potential rs * price rs

purse_below : (rs : List Range) → InOrder rs → purse rs < figure rs
unfolding price
purse_below rs o = let a = first_below rs o in omega arith

-- ---- what every run keeps

-- the moves made so far and what the next may cost are within the purse
abbrev pub Paid : List Range → Phase → Trail → ℕ → Type 0
Paid rs looking t made = made + potential rs t * price rs ≤ purse rs
Paid rs (repairing j line place) t made = made + past rs t * price rs + toll t < purse rs
Paid rs (ended e) t made = made < purse rs

-- A run on its way.
pub record Counted (rs : List Range) (g : Progress) : Type 0 where
  pub firm : Firm rs g.at.trail
  pub short : Short rs g.at.trail
  pub paid : Paid rs g.at.phase g.at.trail g.made

paid_below : (rs : List Range) (p : Phase) (t : Trail) (made : ℕ) → Paid rs p t made → made < purse rs
paid_below rs looking t made h = let a = move_paid rs (past rs t) (potential rs t) (past_below rs t) in omega arith
paid_below rs (repairing j line place) t made h = omega arith
paid_below rs (ended e) t made h = h

-- ---- a step without a move

lower_paid : (rs : List Range) (s t : Trail) → Lower s t → past rs t * price rs + toll t ≤ past rs s * price rs + toll s
lower_paid rs s t l =
    lower_keeps (λ u. past rs u * price rs + toll u ≤ past rs s * price rs + toll s) (λ e u h. let a = off_paid rs e u in omega arith) s t l
    (omega arith)

onward_paid : (rs : List Range) (p q : Phase) (s t : Trail) (made : ℕ) → Short rs s → Lower s t → Onward p q → Paid rs p s made →
    Paid rs q t made
onward_paid rs p looking s t made short l o h = absurd o
onward_paid rs p (ended e) s t made short l o h = paid_below rs p s made h
onward_paid rs looking (repairing j line place) s t made short l o h =
    let a = lower_paid rs s t l in
    let b = repair_paid rs s short in
    omega arith
onward_paid rs (repairing k at from) (repairing j line place) s t made short l o h = let a = lower_paid rs s t l in omega arith
onward_paid rs (ended e) (repairing j line place) s t made short l o h = absurd (true≢false o)

unmoved_counted : (c : Context) (m n : Machine) (made : ℕ) → Unmoved c m n → Counted c.ranges (record { at = m; made = made }) →
    Counted c.ranges (record { at = n; made = made })
unmoved_counted c m n made u h = record {
  firm = firm_lower c.ranges m.trail n.trail u.lower h.firm;
  short = lower_keeps (Short c.ranges) (λ e t s. s.1) m.trail n.trail u.lower h.short;
  paid = onward_paid c.ranges m.phase n.phase m.trail n.trail made h.short u.lower u.onward h.paid;
}

-- ---- a move

-- a machine that looks, over another trail
looks_counted : (rs : List Range) (n : Machine) (made : ℕ) (t : Trail) → n.trail ≡ t → n.phase ≡ looking → Firm rs t → Short rs t →
    made + potential rs t * price rs ≤ purse rs → Counted rs (record { at = n; made = made })
looks_counted rs n made t e on f s h = record {
  firm = subst (Firm rs) (sym e) f;
  short = subst (Short rs) (sym e) s;
  paid = subst (λ (p : Phase). Paid rs p n.trail made) (sym on)
      (subst (λ (u : Trail). made + potential rs u * price rs ≤ purse rs) (sym e) h);
}

module _ (c : Context) (m n : Machine) (made : ℕ) (o : InOrder c.ranges)
    (h : Counted c.ranges (record { at = m; made = made })) where
  propagates_counted : Propagates c m n → Counted c.ranges (record { at = n; made = suc made })
  propagates_counted p =
      let rs = c.ranges in
      let t = m.trail in
      let x = p.unknown in
      let b = p.bound in
      let e = implied x b p.reason in
      let r = (first_pair rs c.rows t).0 p.place x b p.found in
      let sits = better_sits rs t (row_at c.rows p.place) x b p.reason r.1 r.2 in
      let near = better_nearer rs t (row_at c.rows p.place) x b r.1 r.2 in
      let before : made + potential rs t * price rs ≤ purse rs = subst (λ (q : Phase). Paid rs q t made) p.looks h.paid in
      let costs = move_paid rs _ _ (propagate_falls rs t o h.firm x b p.reason sits near) in
      looks_counted rs n (suc made) (e ∷ t) p.pushes p.on (sits, h.firm)
      (push_short rs t e (wide_falls rs t e o h.firm sits near) h.short) (omega arith)

  decides_counted : Decides c m n → Counted c.ranges (record { at = n; made = suc made })
  decides_counted p =
      let rs = c.ranges in
      let t = m.trail in
      let x = p.unknown in
      let s = p.side in
      let e = decided rs t x s in
      let r = choice_room rs t m.advice.mind.order x s o h.firm p.chosen in
      let sits = decided_sits rs t x s r.0 r.1 in
      let before : made + potential rs t * price rs ≤ purse rs = subst (λ (q : Phase). Paid rs q t made) p.looks h.paid in
      let costs = move_paid rs _ _ (decide_falls rs t o h.firm x s r.0 r.1) in
      looks_counted rs n (suc made) (e ∷ t) p.pushes p.on (sits, h.firm)
      (push_short rs t e (wide_falls rs t e o h.firm sits (decided_nearer rs t x s r.1)) h.short) (omega arith)

  backjumps_counted : Backjumps c m n → Counted c.ranges (record { at = n; made = suc made })
  backjumps_counted p =
      let rs = c.ranges in
      let t = p.below in
      let x = p.top.unknown in
      let b = p.bound in
      let e = implied x b p.reason in
      let firm : Firm rs (p.top ∷ t) = subst (Firm rs) p.tops h.firm in
      let short : Short rs (p.top ∷ t) = subst (Short rs) p.tops h.short in
      let sits = better_sits rs t p.conflict x b p.reason firm.0.known p.found in
      let near = better_nearer rs t p.conflict x b firm.0.known p.found in
      let before : made + past rs m.trail * price rs + toll m.trail < purse rs =
      subst (λ (q : Phase). Paid rs q m.trail made) p.repairs h.paid in
      let same = ap (λ (u : Trail). past rs u * price rs) p.tops in
      let costs = price_keeps rs _ _ (jump_falls rs t o firm.1 x b p.reason sits near p.top p.decision) in
      looks_counted rs n (suc made) (e ∷ t) p.pushes p.on (sits, firm.1)
      (push_short rs t e (wide_falls rs t e o firm.1 sits near) short.1) (omega arith)

  move_counted : Propagates c m n ⊎ (Decides c m n ⊎ Backjumps c m n) → Counted c.ranges (record { at = n; made = suc made })
  move_counted (inl p) = propagates_counted p
  move_counted (inr (inl p)) = decides_counted p
  move_counted (inr (inr p)) = backjumps_counted p

-- ---- a run

either_counted : (rs : List Range) (b : Bool) (g h : Progress) → Counted rs g → Counted rs h → Counted rs (within_budget b g h)
either_counted rs true g h p q = p
either_counted rs false g h p q = q

advanced_counted : (a : Acted) (c : Context) (budget : ℕ) (g : Progress) → act c g.at ≡ a → Rest c g.at a → InOrder c.ranges →
    Counted c.ranges g → Counted c.ranges (advanced budget a g)
advanced_counted (free n) c budget g e r o h = unmoved_counted c g.at n g.made r h
advanced_counted (halted n) c budget g e r o h =
    either_counted c.ranges (leb budget g.made) g _ h (unmoved_counted c g.at n g.made r h)
advanced_counted (moved n) c budget g e r o h =
    either_counted c.ranges (leb budget g.made) g _ h (move_counted c g.at n g.made o h (one_of_three c g.at n e))

pub run_counted : (c : Context) (budget steps : ℕ) (g : Progress) → InOrder c.ranges → Counted c.ranges g →
    Counted c.ranges (run c budget steps g)
run_counted c budget zero g o h = h
run_counted c budget (suc k) g o h =
    run_counted c budget k (advanced budget (act c g.at) g) o
    (advanced_counted (act c g.at) c budget g refl (act_rest c g.at) o h)

start_counted : (b : Bool) (c : Context) (a : Advice) → InOrder c.ranges →
    Counted c.ranges (record { at = start_by b c a; made = 0 })
start_counted true c a o = record {
  firm = start_firm c.ranges o (length c.ranges) (omega arith);
  short = start_short c.ranges o (length c.ranges) (omega arith);
  paid = omega arith;
}
start_counted false c a o = record {
  firm = start_firm c.ranges o (length c.ranges) (omega arith);
  short = start_short c.ranges o (length c.ranges) (omega arith);
  paid = paid_below c.ranges looking (range_entries c.ranges (length c.ranges)) 0 (omega arith);
}

pub whole_counted : (c : Context) (budget : ℕ) (a : Advice) → InOrder c.ranges → Counted c.ranges (whole_run c budget a)
whole_counted c budget a o =
    run_counted c budget (enough_steps budget) (record { at = start c a; made = 0 }) o (start_counted _ c a o)

-- ---- the promises

moves_by : (r : Result (Unit {0}) Refusal) (rs : List Range) (rows : List Row) (a : Advice) (log : Logbook) (plan : List ℤ) (budget : ℕ) →
    InOrder rs → (left_by r rs rows a log plan budget).moves < figure rs
moves_by (Err r) rs rows a log plan budget o = let l = purse_below rs o in omega arith
moves_by (Ok u) rs rows a log plan budget o =
    let c : Context = record { ranges = rs; rows = rows; capacity = log.capacity } in
    let g = whole_run c budget a in
    let few = paid_below rs g.at.phase g.at.trail g.made (whole_counted c budget a o).paid in
    let l = purse_below rs o in
    omega arith

pub moves_bounded : MovesBounded
moves_bounded rs rows a log plan budget fit = moves_by _ rs (rows_of rows) a log plan budget (fit_order rs fit)

pub spent_right : SpentRight
spent_right rs rows a log plan budget fit h =
    let same = spent_is_budget rs rows a log plan budget fit.few h in
    (same, subst (λ (k : ℕ). k < figure rs) same (moves_bounded rs rows a log plan budget fit))

but_spent : (e : Ending) → (e ≡ Refused Spent → ⊥) →
    OneOf (Plan ∷ NoPlan ∷ Refused Spent ∷ Refused Long ∷ Refused Wide ∷ Refused Log ∷ []) e →
    OneOf (Plan ∷ NoPlan ∷ Refused Long ∷ Refused Wide ∷ Refused Log ∷ []) e
but_spent e n (inl h) = inl h
but_spent e n (inr (inl h)) = inr (inl h)
but_spent e n (inr (inr (inl h))) = absurd (n h)
but_spent e n (inr (inr (inr h))) = inr (inr h)

pub figure_enough : FigureEnough
figure_enough rs rows a log plan budget fit begins enough =
    but_spent _ (λ h. let l = (spent_right rs rows a log plan budget fit h).1 in omega arith)
    (run_answers rs rows a log plan budget begins)
