-- What a move is: the number of times a partner is added, what a decision fixes, and each move one of three and only one.
-- It rests on `BetterBounds`, `Leasts` and `Ints`.
use Rattle.std.proofs.Common.{◌≡◌, ℕ, zero, suc, ◌+◌, ◌%◌, ◌<◌, Bool, true, false, ltb, leb, ◌⊎◌, List, [], ◌∷◌, map, length, ℤ, pos, negsuc, ◌+ℤ◌, ◌*ℤ◌, nat_abs, Some, None, Ok, Err, Option, sym, refl, ap, ◌∙◌, subst, inl, inr, arith}
use Rattle.std.proofs.lemmas.Bool.{ltb-true, lt-ltb}
use Rattle.std.proofs.lemmas.Nat.Gcd.{dvd_of_mod-eq-zero, mod-eq-zero_of_dvd}
use Rattle.std.proofs.lemmas.Int.{ints}
use Rattle.calculus.specs.Advice.{Advice, choice, told}
use Rattle.calculus.specs.Arithmetic.{common}
use Rattle.calculus.specs.Bounds.{Trail, low, high, lows, highs, row_at, fails_under, better_under, conflict, propagating}
use Rattle.calculus.specs.Limits.{most_entries}
use Rattle.calculus.specs.Logs.{Line, line_row, Written, written}
use Rattle.calculus.specs.Machines.{Context, Phase, looking, repairing, ended, Machine, moved, row_line, decided}
use Rattle.calculus.specs.Machines.{pushed, due_by, row_due, decide_by, look_choice, look_bound, look_fail}
use Rattle.calculus.specs.Machines.{mended, reduced_by, repaired, resolved_by, implied_off, jump, decided_off, off}
use Rattle.calculus.specs.Machines.{closed, close, repair, act_in, act}
use Rattle.calculus.specs.MoveLaws.{Partners, LeastNumber, PlusIsSum, DecisionFixes, Propagates, Decides, Backjumps, OneOfThree}
use Rattle.calculus.specs.MoveLaws.{ThreeMove, NeverTwo}
use Rattle.calculus.specs.Rows.{Row, coef, cut}
use Rattle.calculus.specs.Tightening.{added_coefs, plus, lacking, fits, matches, tightened}
use Rattle.calculus.specs.declared.kinds.Kind.TheVariants.{Row as Placed, Sum, Cut}
use Rattle.calculus.specs.declared.sides.Side.{Side}
use Rattle.calculus.specs.declared.sides.Side.TheVariants.{Low, High}
use Rattle.calculus.specs.declared.trails.Bound.{Bound}
use Rattle.calculus.specs.declared.trails.Entry.{Entry}
use Rattle.calculus.proofs.BetterBounds.{here_same, here_other}
use Rattle.calculus.proofs.Leasts.{coef_plus}
use Rattle.calculus.proofs.Ints.{lacking_fills, lacking_least, once}

-- a partner moves the coefficient by 1, away from 0
partner_moves : (c u : ℤ) (m : ℕ) → Partners c u → nat_abs (c +ℤ pos m *ℤ u) ≡ nat_abs c + m
partner_moves (pos zero) u m h = absurd h
partner_moves (pos (suc a)) u m h = let e = ap (λ (z : ℤ). pos m *ℤ z) h in omega (arith, ints)
partner_moves (negsuc a) u m h = let e = ap (λ (z : ℤ). pos m *ℤ z) h in omega (arith, ints)

pub least_number : LeastNumber
least_number d part partner y p h =
    let c = coef part.coefs y in
    let moved_to : (m : ℕ) → nat_abs (coef (plus part m partner).coefs y) ≡ nat_abs c + m =
    λ m. ap nat_abs (coef_plus part m partner y) ∙ partner_moves c (coef partner.coefs y) m h in (
      dvd_of_mod-eq-zero _ (ap (λ (n : ℕ). n % d) (moved_to (lacking d c)) ∙ lacking_fills d (nat_abs c) p),
      λ k g. lacking_least d (nat_abs c) k p (ap (λ (n : ℕ). n % d) (sym (moved_to k)) ∙ mod-eq-zero_of_dvd _ g),
    )

pub plus_is_sum : PlusIsSum
plus_is_sum p m q = λ i. record {
  coefs = added_coefs (sym (once p.coefs) i) (map (λ c. pos m *ℤ c) q.coefs);
  constant = (let e : p.constant ≡ pos 1 *ℤ p.constant = omega (arith, ints) in e) i +ℤ pos m *ℤ q.constant;
}

pub decision_fixes : DecisionFixes
decision_fixes rs t x = (
  (refl, here_same x (low rs t x) (high rs t x)),
  (here_same x (high rs t x) (low rs t x), refl),
  other,
)
  where
    other : (s : Side) (y : ℕ) → (x ≡ y → ⊥) →
        (low rs (decided rs t x s ∷ t) y ≡ low rs t y) × (high rs (decided rs t x s ∷ t) y ≡ high rs t y)
    other Low y n = (refl, here_other x y (low rs t x) (high rs t y) n)
    other High y n = (here_other x y (high rs t x) (low rs t y) n, refl)

-- two moves that come to the same
same_move : {m m' : Machine} → moved m ≡ moved m' → m ≡ m'
same_move e = cc

abbrev One : Context → Machine → Machine → Type 0
One c m m' = Propagates c m m' ⊎ (Decides c m m' ⊎ Backjumps c m m')

-- What a move by a row comes to.
record Pushed (c : Context) (m : Machine) (a : Advice) (t : Trail) (row : Row) (line x : ℕ) (b : Bound) (m' : Machine) : Type 0 where
  pub reason : ℕ
  pub room : length t < most_entries
  pub tight : tightened c.capacity t row line x m.lines ≡ (Ok reason, m'.lines)
  pub pushes : m'.trail ≡ record { unknown = x; side = b.side; bound = b.value; cause = Some reason } ∷ t
  pub advice : m'.advice ≡ a
  pub on : m'.phase ≡ looking

module _ (c : Context) (m m' : Machine) where
  module _ (a : Advice) (t : Trail) (row : Row) (line x : ℕ) (b : Bound) where
    of_pushed : length t < most_entries → (w : Written) → tightened c.capacity t row line x m.lines ≡ w →
        pushed w m a t x b ≡ moved m' → Pushed c m a t row line x b m'
    of_pushed l (Ok q, ls) h e =
        subst (Pushed c m a t row line x b) (same_move e)
        (record { reason = q; room = l; tight = h; pushes = refl; advice = refl; on = refl })
    of_pushed l (Err r, ls) h e = absurd cc

    of_due : (f : Bool) → ltb (length t) most_entries ≡ f → due_by f c m a t row line x b ≡ moved m' → Pushed c m a t row line x b m'
    of_due true l e = of_pushed (ltb-true (length t) most_entries l) (tightened c.capacity t row line x m.lines) refl e
    of_due false l e = absurd cc

  module _ (looks : m.phase ≡ looking) (calm : conflict c.ranges c.rows m.trail ≡ None) where
    module _ (still : propagating c.ranges c.rows m.trail ≡ None) where
      of_decide : (x : ℕ) (s : Side) (f : Bool) → ltb (length m.trail) most_entries ≡ f →
          choice m.advice.mind.order (lows c.ranges m.trail) (highs c.ranges m.trail) ≡ Some (x, s) →
          decide_by f c m x s ≡ moved m' → Decides c m m'
      of_decide x s true l h e =
          subst (Decides c m) (same_move e)
          (record {
            unknown = x;
            side = s;
            looks = looks;
            calm = calm;
            still = still;
            chosen = h;
            room = ltb-true (length m.trail) most_entries l;
            pushes = refl;
            lines = refl;
            advice = refl;
            on = refl;
          })
      of_decide x s false l h e = absurd cc

      of_choice : (o : Option (ℕ × Side)) →
          choice m.advice.mind.order (lows c.ranges m.trail) (highs c.ranges m.trail) ≡ o →
          look_choice o c m ≡ moved m' → Decides c m m'
      of_choice None h e = absurd cc
      of_choice (Some (x, s)) h e = of_decide x s (ltb (length m.trail) most_entries) refl h e

    of_bound : (o : Option (ℕ × (ℕ × Bound))) → propagating c.ranges c.rows m.trail ≡ o → look_bound o c m ≡ moved m' → One c m m'
    of_bound (Some (p, (x, b))) h e =
        let r = of_due m.advice m.trail (row_at c.rows p) (row_line c p) x b (ltb (length m.trail) most_entries) refl e in
        inl (record {
          place = p;
          unknown = x;
          bound = b;
          reason = r.reason;
          looks = looks;
          calm = calm;
          found = h;
          room = r.room;
          tight = r.tight;
          pushes = r.pushes;
          advice = r.advice;
          on = r.on;
        })
    of_bound None h e =
        inr (inl (of_choice h (choice m.advice.mind.order (lows c.ranges m.trail) (highs c.ranges m.trail)) refl e))

  of_fail : m.phase ≡ looking → (o : Option ℕ) → conflict c.ranges c.rows m.trail ≡ o → look_fail o c m ≡ moved m' → One c m m'
  of_fail looks (Some p) h e = absurd cc
  of_fail looks None h e = of_bound looks h (propagating c.ranges c.rows m.trail) refl e

  -- a step of repair that only changes the conflict, or ends it, is no move
  no_mended : (w : Written) (t : Trail) (j : Row) → mended w m t j ≡ moved m' → ⊥
  no_mended (Ok line, ls) t j e = cc
  no_mended (Err r, ls) t j e = cc

  no_reduced : (f : Bool) (t : Trail) (j : Row) (line : ℕ) (ls : List Line) → reduced_by f c m t j line ls ≡ moved m' → ⊥
  no_reduced true t j line ls e = no_mended (written c.capacity (Cut line (common j.coefs)) (cut (common j.coefs) j) ls) t _ e
  no_reduced false t j line ls e = cc

  no_repaired : (w : Written) (t : Trail) (j : Row) → repaired w c m t j ≡ moved m' → ⊥
  no_repaired (Ok line, ls) t j e = no_reduced (leb 2 (common j.coefs)) t j line ls e
  no_repaired (Err r, ls) t j e = cc

  no_resolved : (f : Bool) (t : Trail) (j : Row) (line q k : ℕ) → resolved_by f c m t j line q k ≡ moved m' → ⊥
  no_resolved true t j line q k e = no_repaired (written c.capacity (Sum line q 1 k) j m.lines) t j e
  no_resolved false t j line q k e = cc

  no_implied : (f : Bool) (t : Trail) (j : Row) (line : ℕ) (place : Option ℕ) (q k : ℕ) →
      implied_off f c m t j line place q k ≡ moved m' → ⊥
  no_implied true t j line place q k e =
      let sum = plus j k (line_row m.lines q) in
      no_resolved (fits sum) t sum line q k e
  no_implied false t j line place q k e = cc

  no_closed : (w : Written) → closed w m ≡ moved m' → ⊥
  no_closed (Ok q, ls) e = cc
  no_closed (Err r, ls) e = cc

  no_close : (o : Option ℕ) (j : Row) (line : ℕ) → close o c m j line ≡ moved m' → ⊥
  no_close (Some p) j line e = no_closed (written c.capacity (Placed p) j m.lines) e
  no_close None j line e = cc

  module _ (j : Row) (line : ℕ) (place : Option ℕ) (repairs : m.phase ≡ repairing j line place) where
    module _ (top : Entry) (t : Trail) (tops : m.trail ≡ top ∷ t) where
      module _ (decision : top.cause ≡ None) where
        of_jump : fails_under c.ranges t j ≡ false → (o : Option Bound) → better_under c.ranges t j top.unknown ≡ o →
            jump o c m t j line place top.unknown ≡ moved m' → Backjumps c m m'
        of_jump passes (Some b) h e =
            let r = of_due (told m.advice top.unknown) t j line top.unknown b (ltb (length t) most_entries) refl e in
            record {
              conflict = j;
              line = line;
              place = place;
              top = top;
              below = t;
              bound = b;
              reason = r.reason;
              repairs = repairs;
              tops = tops;
              decision = decision;
              passes = passes;
              found = h;
              room = r.room;
              tight = r.tight;
              pushes = r.pushes;
              advice = r.advice;
              on = r.on;
            }
        of_jump passes None h e = absurd cc

        of_decided : (f : Bool) → fails_under c.ranges t j ≡ f → decided_off f c m t j line place top.unknown ≡ moved m' →
            Backjumps c m m'
        of_decided true h e = absurd cc
        of_decided false h e = of_jump h (better_under c.ranges t j top.unknown) refl e

      of_off : (k : Option ℕ) → top.cause ≡ k → off k c m top t j line place ≡ moved m' → Backjumps c m m'
      of_off (Some q) h e =
          let k = coef j.coefs top.unknown in
          absurd (no_implied (matches top.side k) t j line place q (nat_abs k) e)
      of_off None h e = of_decided h (fails_under c.ranges t j) refl e

    of_repair : (t : Trail) → m.trail ≡ t → repair t c m j line place ≡ moved m' → Backjumps c m m'
    of_repair [] h e = absurd (no_close place j line e)
    of_repair (top ∷ t) h e = of_off top t h top.cause refl e

  of_phase : (p : Phase) → m.phase ≡ p → act_in p c m ≡ moved m' → One c m m'
  of_phase looking h e = of_fail h (conflict c.ranges c.rows m.trail) refl e
  of_phase (repairing j line place) h e = inr (inr (of_repair j line place h m.trail refl e))
  of_phase (ended a) h e = absurd cc

pub one_of_three : OneOfThree
one_of_three c m m' e = of_phase c m m' m.phase refl e

pub never_two : NeverTwo
never_two c m m' m'' = (
  λ p d. let a = d.still in let b = p.found in cc,
  λ p b. let a = p.looks in let d = b.repairs in cc,
  λ d b. let a = d.looks in let p = b.repairs in cc,
)

-- ---- and each of the three is a move

-- a row that is due, tightened and pushed
due_moves : (c : Context) (m m' : Machine) (a : Advice) (t : Trail) (row : Row) (line x : ℕ) (b : Bound) → Pushed c m a t row line x b m' →
    row_due c m a t row line x b ≡ moved m'
due_moves c m m' a t row line x b p =
    ap (λ (f : Bool). due_by f c m a t row line x b) (lt-ltb (length t) most_entries p.room)
    ∙ ap (λ (w : Written). pushed w m a t x b) p.tight
    ∙ (λ i. moved (record { trail = sym p.pushes i; lines = m'.lines; advice = sym p.advice i; phase = sym p.on i }))

propagates_move : (c : Context) (m m' : Machine) → Propagates c m m' → act c m ≡ moved m'
propagates_move c m m' p =
    ap (λ (q : Phase). act_in q c m) p.looks
    ∙ ap (λ (o : Option ℕ). look_fail o c m) p.calm
    ∙ ap (λ (o : Option (ℕ × (ℕ × Bound))). look_bound o c m) p.found
    ∙ due_moves c m m' m.advice m.trail (row_at c.rows p.place) (row_line c p.place) p.unknown p.bound
    (record { reason = p.reason; room = p.room; tight = p.tight; pushes = p.pushes; advice = p.advice; on = p.on })

decides_move : (c : Context) (m m' : Machine) → Decides c m m' → act c m ≡ moved m'
decides_move c m m' p =
    ap (λ (q : Phase). act_in q c m) p.looks
    ∙ ap (λ (o : Option ℕ). look_fail o c m) p.calm
    ∙ ap (λ (o : Option (ℕ × (ℕ × Bound))). look_bound o c m) p.still
    ∙ ap (λ (o : Option (ℕ × Side)). look_choice o c m) p.chosen
    ∙ ap (λ (f : Bool). decide_by f c m p.unknown p.side) (lt-ltb (length m.trail) most_entries p.room)
    ∙ (λ i. moved (record { trail = sym p.pushes i; lines = sym p.lines i; advice = sym p.advice i; phase = sym p.on i }))

backjumps_move : (c : Context) (m m' : Machine) → Backjumps c m m' → act c m ≡ moved m'
backjumps_move c m m' p =
    ap (λ (q : Phase). act_in q c m) p.repairs
    ∙ ap (λ (t : Trail). repair t c m p.conflict p.line p.place) p.tops
    ∙ ap (λ (k : Option ℕ). off k c m p.top p.below p.conflict p.line p.place) p.decision
    ∙ ap (λ (f : Bool). decided_off f c m p.below p.conflict p.line p.place p.top.unknown) p.passes
    ∙ ap (λ (o : Option Bound). jump o c m p.below p.conflict p.line p.place p.top.unknown) p.found
    ∙ due_moves c m m' (told m.advice p.top.unknown) p.below p.conflict p.line p.top.unknown p.bound
    (record { reason = p.reason; room = p.room; tight = p.tight; pushes = p.pushes; advice = p.advice; on = p.on })

pub three_move : ThreeMove
three_move c m m' = (propagates_move c m m', decides_move c m m', backjumps_move c m m')
