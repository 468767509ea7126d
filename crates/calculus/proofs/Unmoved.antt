-- A step that is no move leaves the trail or what is below its top, goes on to repair or to an end, and finds a plan only where no row
-- fails and no unknown is chosen. One lemma for each function of the machine; nothing is asked of the lines.
-- It rests on the definitions and the library alone.
use Rattle.std.proofs.Common.{◌≡◌, ℕ, Bool, true, false, ltb, leb, ◌⊎◌, List, [], ◌∷◌, length, nat_abs, Some, None, Ok, Err, Option, sym, refl, ap, subst, inl, inr}
use Rattle.calculus.specs.Advice.{Advice, choice, told}
use Rattle.calculus.specs.Arithmetic.{common}
use Rattle.calculus.specs.Bounds.{Trail, lows, highs, row_at, fails_under, better_under}
use Rattle.calculus.specs.Bounds.{conflict, propagating}
use Rattle.calculus.specs.Limits.{most_entries}
use Rattle.calculus.specs.Logs.{Line, line_row, Written, written}
use Rattle.calculus.specs.Machines.{Context, Phase, looking, repairing, ended, Machine, Acted, free, halted, moved, row_line}
use Rattle.calculus.specs.Machines.{pushed, due_by, decide_by, look_choice, look_bound, look_fail}
use Rattle.calculus.specs.Machines.{mended, reduced_by, repaired, resolved_by, implied_off, jump, decided_off, off}
use Rattle.calculus.specs.Machines.{closed, close, repair, act_in, act}
use Rattle.calculus.specs.Rows.{Row, coef, cut}
use Rattle.calculus.specs.RunLaws.{is_over, Untold, OnlyMovesTell}
use Rattle.calculus.specs.Tightening.{plus, fits, matches, tightened}
use Rattle.calculus.specs.declared.endings.Ending.{Ending}
use Rattle.calculus.specs.declared.endings.Ending.TheVariants.{Plan, NoPlan, Refused}
use Rattle.calculus.specs.declared.kinds.Kind.TheVariants.{Row as Placed, Sum, Cut}
use Rattle.calculus.specs.declared.refusals.Refusal.{Refusal}
use Rattle.calculus.specs.declared.refusals.Refusal.TheVariants.{Long, Wide}
use Rattle.calculus.specs.declared.sides.Side.{Side}
use Rattle.calculus.specs.declared.trails.Bound.{Bound}
use Rattle.calculus.specs.declared.trails.Entry.{Entry}

-- a trail, or what is below its top
abbrev pub Lower : Trail → Trail → Type 0
Lower s t = (t ≡ s) ⊎ ((e : Entry) × (s ≡ e ∷ t))

-- what goes over to the trail below the top goes over
pub lower_keeps : (P : Trail → Type 0) → ((e : Entry) (t : Trail) → P (e ∷ t) → P t) → (s t : Trail) → Lower s t → P s → P t
lower_keeps P down s t (inl h) p = subst P (sym h) p
lower_keeps P down s t (inr (e, h)) p = down e t (subst P h p)

-- the phases that follow without a move: none goes back to looking, and an end stays an end
abbrev pub Onward : Phase → Phase → Type 0
Onward p looking = ⊥
Onward p (repairing j line place) = is_over p ≡ false
Onward p (ended e) = Unit {0}

-- no row fails and no unknown is chosen
abbrev pub Calm : Context → Machine → Type 0
Calm c m =
    (conflict c.ranges c.rows m.trail ≡ None)
    × (choice m.advice.mind.order (lows c.ranges m.trail) (highs c.ranges m.trail) ≡ None)

-- From one machine to the next without a move.
pub record Unmoved (c : Context) (m n : Machine) : Type 0 where
  pub lower : Lower m.trail n.trail
  pub onward : Onward m.phase n.phase
  pub advice : n.advice ≡ m.advice
  -- a plan was there already, or it is found by this look
  pub planned : n.phase ≡ ended Plan → (m ≡ n) ⊎ (Calm c m × (n.trail ≡ m.trail))

-- what is true of a step unless it is a move
abbrev pub Rest : Context → Machine → Acted → Type 0
Rest c m (free n) = Unmoved c m n
Rest c m (halted n) = Unmoved c m n
Rest c m (moved n) = Unit {0}

module _ (c : Context) (m : Machine) where
  -- a run that ends without a plan
  over : (t : Trail) (ls : List Line) (e : Ending) → (e ≡ Plan → ⊥) → Lower m.trail t →
      Unmoved c m (record { trail = t; lines = ls; advice = m.advice; phase = ended e })
  over t ls e n l = record { lower = l; onward = tt; advice = refl; planned = λ h. let same : e ≡ Plan = cc in absurd (n same) }

  refused : (t : Trail) (ls : List Line) (r : Refusal) → Lower m.trail t →
      Unmoved c m (record { trail = t; lines = ls; advice = m.advice; phase = ended (Refused r) })
  refused t ls r l = over t ls (Refused r) (λ h. absurd cc) l

  pushed_rest : (w : Written) (a : Advice) (t : Trail) (x : ℕ) (b : Bound) → Lower m.trail t → Rest c m (pushed w m a t x b)
  pushed_rest (Ok q, ls) a t x b l = tt
  pushed_rest (Err r, ls) a t x b l = refused t ls r l

  due_rest : (f : Bool) (a : Advice) (t : Trail) (row : Row) (line x : ℕ) (b : Bound) → Lower m.trail t →
      Rest c m (due_by f c m a t row line x b)
  due_rest true a t row line x b l = pushed_rest (tightened c.capacity t row line x m.lines) a t x b l
  due_rest false a t row line x b l = refused t m.lines Long l

  decide_rest : (f : Bool) (x : ℕ) (s : Side) → Rest c m (decide_by f c m x s)
  decide_rest true x s = tt
  decide_rest false x s = refused m.trail m.lines Long (inl refl)

  choice_rest : (o : Option (ℕ × Side)) → conflict c.ranges c.rows m.trail ≡ None →
      choice m.advice.mind.order (lows c.ranges m.trail) (highs c.ranges m.trail) ≡ o → Rest c m (look_choice o c m)
  choice_rest None h k = record { lower = inl refl; onward = tt; advice = refl; planned = λ _. inr ((h, k), refl) }
  choice_rest (Some (x, s)) h k = decide_rest (ltb (length m.trail) most_entries) x s

  bound_rest : (o : Option (ℕ × (ℕ × Bound))) → conflict c.ranges c.rows m.trail ≡ None → Rest c m (look_bound o c m)
  bound_rest (Some (p, (x, b))) h =
      due_rest (ltb (length m.trail) most_entries) m.advice m.trail (row_at c.rows p) (row_line c p) x b (inl refl)
  bound_rest None h =
      choice_rest (choice m.advice.mind.order (lows c.ranges m.trail) (highs c.ranges m.trail)) h refl

  closed_rest : (w : Written) → Rest c m (closed w m)
  closed_rest (Ok q, ls) =
      over m.trail ls NoPlan (λ h. absurd cc) (inl refl)
  closed_rest (Err r, ls) = refused m.trail ls r (inl refl)

  close_rest : (o : Option ℕ) (j : Row) (line : ℕ) → Rest c m (close o c m j line)
  close_rest (Some p) j line = closed_rest (written c.capacity (Placed p) j m.lines)
  close_rest None j line = closed_rest (Ok line, m.lines)

  module _ (busy : is_over m.phase ≡ false) where
    -- repair goes on
    onwards : (t : Trail) (ls : List Line) (j : Row) (line : ℕ) (place : Option ℕ) → Lower m.trail t →
        Unmoved c m (record { trail = t; lines = ls; advice = m.advice; phase = repairing j line place })
    onwards t ls j line place l =
        record { lower = l; onward = busy; advice = refl; planned = λ h. absurd cc }

    fail_rest : (o : Option ℕ) → conflict c.ranges c.rows m.trail ≡ o → Rest c m (look_fail o c m)
    fail_rest (Some p) h = onwards m.trail m.lines (row_at c.rows p) (row_line c p) (Some p) (inl refl)
    fail_rest None h = bound_rest (propagating c.ranges c.rows m.trail) h

    module _ (t : Trail) (l : Lower m.trail t) where
      mended_rest : (w : Written) (j : Row) → Rest c m (mended w m t j)
      mended_rest (Ok line, ls) j = onwards t ls j line None l
      mended_rest (Err r, ls) j = refused t ls r l

      reduced_rest : (f : Bool) (j : Row) (line : ℕ) (ls : List Line) → Rest c m (reduced_by f c m t j line ls)
      reduced_rest true j line ls =
          mended_rest (written c.capacity (Cut line (common j.coefs)) (cut (common j.coefs) j) ls) (cut (common j.coefs) j)
      reduced_rest false j line ls = onwards t ls j line None l

      repaired_rest : (w : Written) (j : Row) → Rest c m (repaired w c m t j)
      repaired_rest (Ok line, ls) j = reduced_rest (leb 2 (common j.coefs)) j line ls
      repaired_rest (Err r, ls) j = refused t ls r l

      resolved_rest : (f : Bool) (j : Row) (line q k : ℕ) → Rest c m (resolved_by f c m t j line q k)
      resolved_rest true j line q k = repaired_rest (written c.capacity (Sum line q 1 k) j m.lines) j
      resolved_rest false j line q k = refused t m.lines Wide l

      implied_rest : (f : Bool) (j : Row) (line : ℕ) (place : Option ℕ) (q k : ℕ) → Rest c m (implied_off f c m t j line place q k)
      implied_rest true j line place q k =
          let sum = plus j k (line_row m.lines q) in
          resolved_rest (fits sum) sum line q k
      implied_rest false j line place q k = onwards t m.lines j line place l

      jump_rest : (o : Option Bound) (j : Row) (line : ℕ) (place : Option ℕ) (x : ℕ) → Rest c m (jump o c m t j line place x)
      jump_rest (Some b) j line place x = due_rest (ltb (length t) most_entries) (told m.advice x) t j line x b l
      jump_rest None j line place x = onwards t m.lines j line place l

      decided_rest : (f : Bool) (j : Row) (line : ℕ) (place : Option ℕ) (x : ℕ) → Rest c m (decided_off f c m t j line place x)
      decided_rest true j line place x = onwards t m.lines j line place l
      decided_rest false j line place x = jump_rest (better_under c.ranges t j x) j line place x

      off_rest : (k : Option ℕ) (e : Entry) (j : Row) (line : ℕ) (place : Option ℕ) → Rest c m (off k c m e t j line place)
      off_rest (Some q) e j line place =
          let k = coef j.coefs e.unknown in
          implied_rest (matches e.side k) j line place q (nat_abs k)
      off_rest None e j line place = decided_rest (fails_under c.ranges t j) j line place e.unknown

    repair_rest : (t : Trail) → m.trail ≡ t → (j : Row) (line : ℕ) (place : Option ℕ) → Rest c m (repair t c m j line place)
    repair_rest [] h j line place = close_rest place j line
    repair_rest (e ∷ t) h j line place = off_rest t (inr (e, h)) e.cause e j line place

  phase_rest : (p : Phase) → m.phase ≡ p → Rest c m (act_in p c m)
  phase_rest looking h = fail_rest (ap is_over h) (conflict c.ranges c.rows m.trail) refl
  phase_rest (repairing j line place) h = repair_rest (ap is_over h) m.trail refl j line place
  phase_rest (ended e) h =
      record { lower = inl refl; onward = subst (Onward m.phase) (sym h) tt; advice = refl; planned = λ _. inl refl }

  -- every step that is no move
  pub act_rest : Rest c m (act c m)
  act_rest = phase_rest m.phase refl

untold_by : (c : Context) (m : Machine) (a : Acted) → Rest c m a → Untold a m.advice
untold_by c m (free n) r = r.advice
untold_by c m (halted n) r = r.advice
untold_by c m (moved n) r = tt

pub only_moves_tell : OnlyMovesTell
only_moves_tell c m = untold_by c m (act c m) (act_rest c m)
