-- The invariant of a run with its log, and that each step keeps it: one lemma for each function of the machine.
-- Rests on Tightens and Conflicts for what the steps do to rows, and on Firm for the trail.
use Rattle.std.proofs.Common.{◌≡◌, ℕ, suc, ◌-◌, ◌<◌, Bool, true, false, ◌&&◌, ltb, leb, List, [], ◌∷◌, length, ℤ, pos, nat_abs, ◌<ℤ◌, Some, None, Ok, Err, Option, sym, refl, ap, ◌∙◌, subst, arith}
use Rattle.std.proofs.lemmas.Bool.{lt-ltb}
use Rattle.std.proofs.lemmas.List.Recursion.{and_from_places}
use Rattle.std.proofs.lemmas.Bool.Decides.{nat_tests}
use Rattle.std.specs.Int.Signed.{lt_z}
use Rattle.std.proofs.lemmas.Int.{ints}
use Rattle.calculus.specs.Advice.{Advice, choice, told, turned_side}
use Rattle.calculus.specs.Arithmetic.{common}
use Rattle.calculus.specs.Arithmetic.{same_number}
use Rattle.calculus.specs.Bounds.{Trail, low, high, lows, highs, row_at, fails_under, better_under, conflict, propagating}
use Rattle.calculus.specs.Checking.{all_zero, contradicts, closes}
use Rattle.calculus.specs.Logs.{Line, line_row, fields_of, Written}
use Rattle.calculus.specs.Machines.{Context, Phase, looking, repairing, ended, Machine, row_line}
use Rattle.calculus.specs.Machines.{pushed, due_by, decided, decide_by, look_choice, look_bound, look_fail}
use Rattle.calculus.specs.Machines.{mended, reduced_by, repaired, resolved_by, implied_off, jump, decided_off, off}
use Rattle.calculus.specs.Machines.{closed, close, repair, act_in, act}
use Rattle.calculus.specs.RunLaws.{after, Grown}
use Rattle.calculus.specs.Rows.{Row, coef, cut}
use Rattle.calculus.specs.Runs.{base_lines}
use Rattle.calculus.specs.Tightening.{plus, matches, reason_of}
use Rattle.calculus.specs.declared.endings.Ending.TheVariants.{Plan, NoPlan, Refused}
use Rattle.calculus.specs.declared.kinds.Kind.TheVariants.{Row as Placed, Sum, Cut}
use Rattle.calculus.specs.declared.ranges.Range.{Range}
use Rattle.calculus.specs.declared.sides.Side.{Side}
use Rattle.calculus.specs.declared.sides.Side.TheVariants.{Low, High}
use Rattle.calculus.specs.declared.trails.Bound.{Bound}
use Rattle.calculus.specs.declared.trails.Entry.{Entry}
use Rattle.calculus.proofs.Conflicts.{Conflict, conflict_past, conflict_resolved, conflict_dropped, common_multiple, conflict_cut}
use Rattle.calculus.proofs.Conflicts.{conflict_bounds}
use Rattle.calculus.proofs.Covering.{Complete, Bare, has_more, covered_none}
use Rattle.calculus.proofs.Firm.{InOrder, end_at, Firm, firm_order, better_sits, choice_room, decided_sits}
use Rattle.calculus.proofs.Firsts.{first_conflict, first_pair}
use Rattle.calculus.proofs.Good.{Made}
use Rattle.calculus.proofs.GoodLogs.{entered, Sound, Wrote, wrote, sum_made, cut_made}
use Rattle.calculus.proofs.Multiples.{divide_test}
use Rattle.calculus.proofs.Reasons.{Reason, Held, Backed, grown_row, grown_long, held_grown, partner_reason}
use Rattle.calculus.proofs.Reduction.{same_number_decides}
use Rattle.calculus.proofs.Stepping.{grown_on}
use Rattle.calculus.proofs.Tightens.{Tightened, tightened_reason, plain_least}

-- What holds before every step: the trail is firm and held by the log, the lines are sound, and the base lines come first.
pub record Backing (c : Context) (t : Trail) (ls : List Line) : Type 0 where
  pub firm : Firm c.ranges t
  pub held : Held c.ranges ls t
  pub sound : Sound c.ranges c.rows ls
  pub base : Grown (base_lines c.ranges c.rows) ls

-- the conflict is the standing row at its place, or it is the last line
abbrev pub Stands : Option ℕ → Context → Row → ℕ → List Line → Type 0
Stands (Some p) c j line ls = (p < length c.rows) × (j ≡ row_at c.rows p)
Stands None c j line ls = suc line ≡ length ls

-- What holds while repairing.
pub record Repairs (c : Context) (t : Trail) (ls : List Line) (j : Row) (line : ℕ) (place : Option ℕ) : Type 0 where
  pub backing : Backing c t ls
  pub conflict : Conflict c.ranges t j
  pub held : line < length ls
  pub is : line_row ls line ≡ j
  pub stands : Stands place c j line ls

-- the invariant by the phase; whatever a run ends in, its lines are sound
abbrev pub Well : Context → Phase → Trail → List Line → Type 0
Well c looking t ls = Backing c t ls × Complete c.ranges t
Well c (repairing j line place) t ls = Repairs c t ls j line place
Well c (ended Plan) t ls = Sound c.ranges c.rows ls
Well c (ended NoPlan) t ls = Sound c.ranges c.rows ls × (closes ls ≡ true)
Well c (ended (Refused r)) t ls = Sound c.ranges c.rows ls

abbrev pub WellAt : Context → Machine → Type 0
WellAt c m = Well c m.phase m.trail m.lines

module _ (c : Context) (o : InOrder c.ranges) (thin : (p : ℕ) → Bare (length c.ranges) (row_at c.rows p))
    (base_row : (p : ℕ) → p < length c.rows →
    (row_line c p < length (base_lines c.ranges c.rows)) ×
    (line_row (base_lines c.ranges c.rows) (row_line c p) ≡ row_at c.rows p)) where
  abbrev rs : List Range
  rs = c.ranges

  -- ---- a move by a row

  pushed_well : (w : Written) (m : Machine) (a : Advice) (t : Trail) (x : ℕ) (b : Bound) → Backing c t m.lines → Complete rs t →
      x < length rs → (r : Row) → better_under rs t r x ≡ Some b → Tightened rs c.rows t x b m.lines w →
      WellAt c (after (pushed w m a t x b))
  pushed_well (Ok q, ls) m a t x b back complete known r found h = (
    record {
      firm = (better_sits rs t r x b q known found, back.firm);
      held = (h.0, held_grown h.2 rs t back.held);
      sound = h.1;
      base = grown_on back.base h.2;
    },
    λ s y l. has_more s y (record { unknown = x; side = b.side; bound = b.value; cause = Some q }) t (complete s y l),
  )
  pushed_well (Err f, ls) m a t x b back complete known r found h = h

  due_by_well : (less : Bool) (m : Machine) (a : Advice) (t : Trail) (r : Row) (line x : ℕ) (b : Bound) → Backing c t m.lines →
      Complete rs t →
      x < length rs → Bare (length rs) r → better_under rs t r x ≡ Some b → line < length m.lines → line_row m.lines line ≡ r →
      WellAt c (after (due_by less c m a t r line x b))
  due_by_well true m a t r line x b back complete known bare found l is =
      pushed_well _ m a t x b back complete known r found
      (tightened_reason rs c.rows t x r b m.lines o back.firm back.held complete known bare found c.capacity line
      back.sound l is)
  due_by_well false m a t r line x b back complete known bare found l is = back.sound

  -- ---- the look

  decide_by_well : (less : Bool) (m : Machine) (x : ℕ) (s : Side) → Backing c m.trail m.lines → Complete rs m.trail →
      x < length rs → low rs m.trail x <ℤ high rs m.trail x → WellAt c (after (decide_by less c m x s))
  decide_by_well false m x s back complete known wide = back.sound
  decide_by_well true m x s back complete known wide = (
    record {
      firm = (decided_sits rs m.trail x s known wide, back.firm);
      held = ((complete, partner s), back.held);
      sound = back.sound;
      base = back.base;
    },
    λ z y l. has_more z y (decided rs m.trail x s) m.trail (complete z y l),
  )
    where
      partner : (s : Side) →
          Reason rs m.lines m.trail (reason_of (turned_side (turned_side s)) x m.trail) x (turned_side (turned_side s))
          (end_at rs m.trail s x)
      partner Low = partner_reason rs m.lines m.trail Low x back.firm back.held wide (complete Low x known)
      partner High = partner_reason rs m.lines m.trail High x back.firm back.held wide (complete High x known)

  look_choice_well : (q : Option (ℕ × Side)) (m : Machine) →
      choice m.advice.mind.order (lows rs m.trail) (highs rs m.trail) ≡ q →
      Backing c m.trail m.lines → Complete rs m.trail → WellAt c (after (look_choice q c m))
  look_choice_well None m h back complete = back.sound
  look_choice_well (Some (x, s)) m h back complete =
      let room = choice_room rs m.trail m.advice.mind.order x s o back.firm h in
      decide_by_well _ m x s back complete room.0 room.1

  look_bound_well : (q : Option (ℕ × (ℕ × Bound))) (m : Machine) → propagating rs c.rows m.trail ≡ q →
      Backing c m.trail m.lines → Complete rs m.trail → WellAt c (after (look_bound q c m))
  look_bound_well None m h back complete = look_choice_well _ m refl back complete
  look_bound_well (Some (p, (x, b))) m h back complete =
      let found = (first_pair rs c.rows m.trail).0 p x b h in
      let line = base_row p found.0 in
      let long = grown_long back.base in
      let less = line.0 in
      due_by_well _ m m.advice m.trail (row_at c.rows p) (row_line c p) x b back complete found.1 (thin p) found.2
      (omega arith)
      (grown_row back.base (row_line c p) line.0 ∙ line.1)

  look_fail_well : (q : Option ℕ) (m : Machine) → conflict rs c.rows m.trail ≡ q → Backing c m.trail m.lines →
      Complete rs m.trail →
      WellAt c (after (look_fail q c m))
  look_fail_well None m h back complete = look_bound_well _ m refl back complete
  look_fail_well (Some p) m h back complete =
      let found = (first_conflict rs c.rows m.trail).0 p h in
      let line = base_row p found.0 in
      let long = grown_long back.base in
      let less = line.0 in
      record {
        backing = back;
        conflict = conflict_dropped rs m.trail (row_at c.rows p) found.1 complete (thin p);
        held = omega arith;
        is = grown_row back.base (row_line c p) line.0 ∙ line.1;
        stands = (found.0, refl);
      }

  -- ---- repair

  mended_well : (w : Written) (m : Machine) (t : Trail) (j : Row) (line : ℕ) (ls : List Line) → Backing c t ls → Conflict rs t j →
      line < length ls → line_row ls line ≡ j → 0 < common j.coefs →
      Wrote (Cut line (common j.coefs)) (cut (common j.coefs) j) ls w → WellAt c (after (mended w m t (cut (common j.coefs) j)))
  mended_well (Ok q, ms) m t j line ls back conf held is two w =
      let g = common j.coefs in
      let small = conflict_cut rs t j two conf in
      let made = cut_made rs c.rows ls j line g held is two (divide_test g j.coefs (common_multiple j.coefs)) in
      let last = entered rs c.rows (Cut line g) (cut g j) ls q ms back.sound made small.bare w in
      record {
        backing = record {
          firm = back.firm;
          held = held_grown last.grown rs t back.held;
          sound = last.sound;
          base = grown_on back.base last.grown;
        };
        conflict = small;
        held = last.held;
        is = last.is;
        stands = last.last;
      }
  mended_well (Err f, ms) m t j line ls back conf held is two w = subst (Sound rs c.rows) (sym w) back.sound

  reduced_by_well : (two : Bool) (m : Machine) (t : Trail) (j : Row) (line : ℕ) (ls : List Line) → leb 2 (common j.coefs) ≡ two →
      Backing c t ls → Conflict rs t j → line < length ls → line_row ls line ≡ j → suc line ≡ length ls →
      WellAt c (after (reduced_by two c m t j line ls))
  reduced_by_well true m t j line ls h back conf held is last =
      let some : 0 < common j.coefs = grind (arith, nat_tests) in
      mended_well _ m t j line ls back conf held is some (wrote c.capacity (Cut line (common j.coefs)) _ ls)
  reduced_by_well false m t j line ls h back conf held is last =
      record { backing = back; conflict = conf; held = held; is = is; stands = last }

  repaired_well : (w : Written) (m : Machine) (t : Trail) (j r : Row) (line q k : ℕ) → Backing c t m.lines → Conflict rs t (plus j k r) →
      line_row m.lines q ≡ r → line < length m.lines → line_row m.lines line ≡ j → q < length m.lines →
      Wrote (Sum line q 1 k) (plus j k r) m.lines w → WellAt c (after (repaired w c m t (plus j k r)))
  repaired_well (Ok new, ms) m t j r line q k back conf reads held is less w =
      let ls = m.lines in
      let made : Made rs c.rows ls (record { fields = fields_of (Sum line q 1 k); row = plus j k r }) =
      subst (λ (z : Row). Made rs c.rows ls (record { fields = fields_of (Sum line q 1 k); row = plus j k z })) reads
      (sum_made rs c.rows ls j line q k held is less) in
      let last = entered rs c.rows (Sum line q 1 k) (plus j k r) ls new ms back.sound made conf.bare w in
      reduced_by_well _ m t (plus j k r) new ms refl
      (record {
        firm = back.firm;
        held = held_grown last.grown rs t back.held;
        sound = last.sound;
        base = grown_on back.base last.grown;
      })
      conf last.held last.is last.last
  repaired_well (Err f, ms) m t j r line q k back conf reads held is less w = subst (Sound rs c.rows) (sym w) back.sound

  -- what is left of the backing below the top entry
  below : (e : Entry) (t : Trail) (ls : List Line) → Backing c (e ∷ t) ls → Backing c t ls
  below e t ls b = record { firm = b.firm.1; held = b.held.1; sound = b.sound; base = b.base }

  -- an entry that leaves the conflict as it is
  lowered : (m : Machine) (e : Entry) (t : Trail) (j : Row) (line : ℕ) (place : Option ℕ) → Repairs c (e ∷ t) m.lines j line place →
      Conflict rs t j → Repairs c t m.lines j line place
  lowered m e t j line place h conf =
      record { backing = below e t m.lines h.backing; conflict = conf; held = h.held; is = h.is; stands = h.stands }

  resolved_by_well : (b : Bool) (m : Machine) (e : Entry) (t : Trail) (j : Row) (line : ℕ) (place : Option ℕ) (q : ℕ) →
      Repairs c (e ∷ t) m.lines j line place → Backed (Some q) rs m.lines t e →
      matches e.side (coef j.coefs e.unknown) ≡ true →
      let k = nat_abs (coef j.coefs e.unknown) in
      WellAt c (after (resolved_by b c m t (plus j k (line_row m.lines q)) line q k))
  resolved_by_well false m e t j line place q h back match = h.backing.sound
  resolved_by_well true m e t j line place q h back match =
      let k = nat_abs (coef j.coefs e.unknown) in
      let order = firm_order rs t o h.backing.firm.1 in
      let conf = conflict_resolved rs e t j h.conflict m.lines q order h.backing.firm.0.known match back
      (h.backing.sound.bare q) in
      repaired_well _ m t j (line_row m.lines q) line q k (below e t m.lines h.backing) conf refl h.held h.is back.held
      (wrote c.capacity (Sum line q 1 k) (plus j k (line_row m.lines q)) m.lines)

  implied_off_well : (b : Bool) (m : Machine) (e : Entry) (t : Trail) (j : Row) (line : ℕ) (place : Option ℕ) (q : ℕ) →
      matches e.side (coef j.coefs e.unknown) ≡ b → Repairs c (e ∷ t) m.lines j line place →
      Backed (Some q) rs m.lines t e →
      WellAt c (after (implied_off b c m t j line place q (nat_abs (coef j.coefs e.unknown))))
  implied_off_well true m e t j line place q match h back = resolved_by_well _ m e t j line place q h back match
  implied_off_well false m e t j line place q match h back =
      lowered m e t j line place h (conflict_past rs e t j h.conflict match)

  jump_well : (q : Option Bound) (m : Machine) (e : Entry) (t : Trail) (j : Row) (line : ℕ) (place : Option ℕ) →
      better_under rs t j e.unknown ≡ q → Repairs c (e ∷ t) m.lines j line place → Complete rs t →
      ((b : Bound) × (better_under rs t j e.unknown ≡ Some b)) → WellAt c (after (jump q c m t j line place e.unknown))
  jump_well None m e t j line place found h complete some =
      let clash = sym found ∙ some.1 in
      absurd cc
  jump_well (Some b) m e t j line place found h complete some =
      due_by_well _ m (told m.advice e.unknown) t j line e.unknown b (below e t m.lines h.backing) complete
      h.backing.firm.0.known h.conflict.bare found h.held h.is

  decided_off_well : (b : Bool) (m : Machine) (e : Entry) (t : Trail) (j : Row) (line : ℕ) (place : Option ℕ) →
      fails_under rs t j ≡ b → Repairs c (e ∷ t) m.lines j line place → e.cause ≡ None → Complete rs t →
      WellAt c (after (decided_off b c m t j line place e.unknown))
  decided_off_well true m e t j line place f h why complete =
      lowered m e t j line place h (conflict_dropped rs t j f complete h.conflict.bare)
  decided_off_well false m e t j line place f h why complete =
      jump_well _ m e t j line place refl h complete (conflict_bounds rs e t j h.conflict h.backing.firm.0 why f)

  off_well : (why : Option ℕ) (m : Machine) (e : Entry) (t : Trail) (j : Row) (line : ℕ) (place : Option ℕ) → e.cause ≡ why →
      Repairs c (e ∷ t) m.lines j line place → Backed why rs m.lines t e → WellAt c (after (off why c m e t j line place))
  off_well (Some q) m e t j line place h r back = implied_off_well _ m e t j line place q refl r back
  off_well None m e t j line place h r back = decided_off_well _ m e t j line place refl r h back.0

  -- ---- the end

  -- a conflict that nothing covers has no coefficient, and its constant is above 0
  closing : (j : Row) → Conflict rs [] j → contradicts j ≡ true
  closing j conf =
      let none = covered_none j conf.covered in
      let rest = plain_least (length rs) (low rs []) (high rs []) j none in
      let f = conf.fails in
      let above : lt_z (pos 0) j.constant ≡ true = grind (arith, ints) in
      (λ i. all_noughts j.coefs none i && above i)
    where
      all_noughts : (cs : List ℤ) → ((i : ℕ) → coef cs i ≡ pos 0) → all_zero cs ≡ true
      all_noughts cs h =
          and_from_places all_zero (λ z. same_number z (pos 0)) refl (λ _ _. refl) cs (pos 0)
          (λ i l. (same_number_decides (coef cs i) (pos 0)).1 (h i))

  closes_last : (ls : List Line) (line : ℕ) (j : Row) → suc line ≡ length ls → line_row ls line ≡ j → contradicts j ≡ true →
      closes ls ≡ true
  closes_last ls line j last is h =
      let some : ltb 0 (length ls) ≡ true = lt-ltb 0 (length ls) (omega arith) in
      let at : length ls - 1 ≡ line = omega arith in
      (λ i. some i && (ap (λ (q : ℕ). contradicts (line_row ls q)) at ∙ ap contradicts is ∙ h) i)

  closed_well : (w : Written) (m : Machine) (j : Row) (p line : ℕ) → Repairs c [] m.lines j line (Some p) →
      Wrote (Placed p) j m.lines w →
      WellAt c (after (closed w m))
  closed_well (Ok q, ms) m j p line h w =
      let ls = m.lines in
      let made : Made rs c.rows ls (record { fields = fields_of (Placed p); row = j }) = record {
        kind = Placed p;
        fields = refl;
        there = lt-ltb p (length c.rows) h.stands.0;
        earlier = refl;
        is = h.stands.1;
        cuts = tt;
      } in
      let last = entered rs c.rows (Placed p) j ls q ms h.backing.sound made h.conflict.bare w in
      (last.sound, closes_last ms q j last.last last.is (closing j h.conflict))
  closed_well (Err f, ms) m j p line h w = subst (Sound rs c.rows) (sym w) h.backing.sound

  close_well : (place : Option ℕ) (m : Machine) (j : Row) (line : ℕ) → Repairs c [] m.lines j line place →
      WellAt c (after (close place c m j line))
  close_well (Some p) m j line h = closed_well _ m j p line h (wrote c.capacity (Placed p) j m.lines)
  close_well None m j line h = (h.backing.sound, closes_last m.lines line j h.stands h.is (closing j h.conflict))

  repair_well : (t : Trail) (m : Machine) (j : Row) (line : ℕ) (place : Option ℕ) → Repairs c t m.lines j line place →
      WellAt c (after (repair t c m j line place))
  repair_well [] m j line place h = close_well place m j line h
  repair_well (e ∷ t) m j line place h = off_well e.cause m e t j line place refl h h.backing.held.0

  -- ---- one step

  act_in_well : (p : Phase) (m : Machine) → m.phase ≡ p → Well c p m.trail m.lines → WellAt c (after (act_in p c m))
  act_in_well looking m e h = look_fail_well _ m refl h.0 h.1
  act_in_well (repairing j line place) m e h = repair_well m.trail m j line place h
  act_in_well (ended x) m e h = subst (λ (p : Phase). Well c p m.trail m.lines) (sym e) h

  -- every step keeps the invariant
  pub act_well : (m : Machine) → WellAt c m → WellAt c (after (act c m))
  act_well m h = act_in_well m.phase m refl h
