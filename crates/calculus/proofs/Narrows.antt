-- Tightening reads the whole trail and keeps its invariant and the log's. Rests on Descending and GoodLogs.
use Rattle.std.specs.Prelude.{None, Option, Some}
use Rattle.std.proofs.Common.{◌≡◌, ℕ, zero, suc, ◌<◌, Bool, true, false, List, [], ◌∷◌, ◌++◌, length, ℤ, nat_abs, ◌≤ℤ◌, ◌<ℤ◌, Ok, Err, sym, refl, ◌∙◌, subst, arith}
use Rattle.std.proofs.lemmas.List.{append_assoc}
use Rattle.std.proofs.lemmas.Int.{ints}
use Rattle.calculus.specs.Advice.{turned_side}
use Rattle.calculus.specs.Bounds.{Trail, low, high}
use Rattle.calculus.specs.Logs.{Line, line_row, Written, written}
use Rattle.calculus.specs.RunLaws.{Grown}
use Rattle.calculus.specs.Rows.{Row, coef}
use Rattle.calculus.specs.Tightening.{plus, matches, reason_of, lacking, Narrowing, going, stopped, outcome, summed_by, summed, aside}
use Rattle.calculus.specs.Tightening.{matched, narrowed_by, narrowed}
use Rattle.calculus.specs.declared.kinds.Kind.TheVariants.{Sum}
use Rattle.calculus.specs.declared.ranges.Range.{Range}
use Rattle.calculus.specs.declared.sides.Side.{Side}
use Rattle.calculus.specs.declared.sides.Side.TheVariants.{Low, High}
use Rattle.calculus.specs.declared.trails.Entry.{Entry}
use Rattle.calculus.proofs.Covering.{Bare, bare_plus}
use Rattle.calculus.proofs.Descending.{SumOf, sum_of_plus, sum_of_none, Kept, kept_past, kept_resolved, kept_aside}
use Rattle.calculus.proofs.Firm.{InOrder, end_at, Firm, firm_order}
use Rattle.calculus.proofs.GoodLogs.{entered, Sound, Wrote, wrote, sum_made}
use Rattle.calculus.proofs.Multiples.{filled}
use Rattle.calculus.proofs.Reasons.{Backed, Held, held_grown, decided_fixed, fixed_on}
use Rattle.calculus.proofs.Stepping.{grown_same, grown_on}

-- ---- one sum

-- What a sum leaves: line q was added m times to the work row and to the open part, and the work row's line is held.
pub record Summed (rs : List Range) (rows : List Row) (ls : List Line) (m q : ℕ) (row part row' part' : Row) (line : ℕ) (ms : List Line)
    : Type 0 where
  pub rows_add : SumOf row m (line_row ls q) row'
  pub parts_add : SumOf part m (line_row ls q) part'
  pub sound : Sound rs rows ms
  pub grown : Grown ls ms
  pub held : line < length ms
  pub is : line_row ms line ≡ row'
  pub bare : Bare (length rs) row'

abbrev Sums : List Range → List Row → List Line → ℕ → ℕ → Row → Row → Narrowing → Type 0
Sums rs rows ls m q row part (going row' part' line ms) = Summed rs rows ls m q row part row' part' line ms
Sums rs rows ls m q row part (stopped r ms) = Sound rs rows ms

module _ (rs : List Range) (rows : List Row) (ls : List Line) (sound : Sound rs rows ls) (row part : Row) (line : ℕ)
    (held : line < length ls)
    (is : line_row ls line ≡ row) (bare : Bare (length rs) row) where
  outcome_sums : (m q : ℕ) → q < length ls → (w : Written) → Wrote (Sum line q 1 m) (plus row m (line_row ls q)) ls w →
      Sums rs rows ls m q row part (outcome w (plus row m (line_row ls q)) (plus part m (line_row ls q)))
  outcome_sums m q k (Ok new, ms) w =
      let fits = bare_plus (length rs) row m (line_row ls q) bare (sound.bare q) in
      let made = sum_made rs rows ls row line q m held is k in
      let last = entered rs rows (Sum line q 1 m) (plus row m (line_row ls q)) ls new ms sound made fits w in
      record {
        rows_add = sum_of_plus row m (line_row ls q);
        parts_add = sum_of_plus part m (line_row ls q);
        sound = last.sound;
        grown = last.grown;
        held = last.held;
        is = last.is;
        bare = fits;
      }
  outcome_sums m q k (Err r, ms) w = subst (Sound rs rows) (sym w) sound

  summed_by_sums : (b : Bool) (capacity m q : ℕ) → q < length ls →
      Sums rs rows ls m q row part (summed_by b capacity m q (plus row m (line_row ls q)) (plus part m (line_row ls q)) line ls)
  summed_by_sums false capacity m q k = sound
  summed_by_sums true capacity m q k =
      outcome_sums m q k (written capacity (Sum line q 1 m) (plus row m (line_row ls q)) ls) (wrote capacity (Sum line q 1 m) _ ls)

  pub summed_sums : (capacity m q : ℕ) → q < length ls → Sums rs rows ls m q row part (summed capacity m q row part line ls)
  summed_sums capacity zero q k = record {
    rows_add = sum_of_none row (line_row ls q);
    parts_add = sum_of_none part (line_row ls q);
    sound = sound;
    grown = grown_same ls;
    held = held;
    is = is;
    bare = bare;
  }
  summed_sums capacity (suc m) q k = summed_by_sums _ capacity (suc m) q k

-- ---- the whole trail

-- Tightening underway: the invariant of the row, and the log's.
pub record Narrowed (rs : List Range) (rows : List Row) (whole : Trail) (x d : ℕ) (r : Row) (ls : List Line) (t : Trail) (row part : Row)
    (line : ℕ) (ms : List Line) : Type 0 where
  pub kept : Kept rs whole x d r t row part
  pub sound : Sound rs rows ms
  pub grown : Grown ls ms
  pub held : line < length ms
  pub is : line_row ms line ≡ row

abbrev pub Narrows : List Range → List Row → Trail → ℕ → ℕ → Row → List Line → Trail → Narrowing → Type 0
Narrows rs rows whole x d r ls t (going row part line ms) = Narrowed rs rows whole x d r ls t row part line ms
Narrows rs rows whole x d r ls t (stopped f ms) = Sound rs rows ms

module _ (rs : List Range) (rows : List Row) (whole : Trail) (x d : ℕ) (r : Row) (ls : List Line) (o : InOrder rs) (firm : Firm rs whole)
    (wide : low rs whole x <ℤ high rs whole x) (some : 0 < d) where
  module _ (front : Trail) (e : Entry) (t : Trail) (joins : whole ≡ front ++ e ∷ t) (below : Firm rs (e ∷ t)) (row part : Row) (line : ℕ)
      (ms : List Line)
      (n : Narrowed rs rows whole x d r ls (e ∷ t) row part line ms) where
    abbrev c : ℤ
    c = coef part.coefs e.unknown

    order : (i : ℕ) → low rs t i ≤ℤ high rs t i
    order = firm_order rs t o below.1

    -- an implied entry
    of_implied : (q : ℕ) → Backed (Some q) rs ms t e → matches e.side c ≡ true →
        (w : Narrowing) → Sums rs rows ms (nat_abs c) q row part w → Narrows rs rows whole x d r ls t w
    of_implied q b m (going row' part' line' ns) s = record {
      kept = kept_resolved rs whole x d r e t row part n.kept order below.0.known (nat_abs c) (line_row ms q) row' part' s.rows_add
          s.parts_add s.bare m refl b.tight b.covered;
      sound = s.sound;
      grown = grown_on n.grown s.grown;
      held = s.held;
      is = s.is;
    }
    of_implied q b m (stopped f ns) s = s

    -- the unknown of a decided entry is fixed under the whole trail
    fixed : e.cause ≡ None → (s : Side) → end_at rs whole s e.unknown ≡ e.bound
    fixed why s =
        subst (λ (m : Trail). end_at rs m s e.unknown ≡ e.bound) (sym joins)
        (fixed_on rs front (e ∷ t) e.unknown e.bound o (subst (Firm rs) joins firm) (decided_fixed rs t e below.0 why) s)

    -- so it is another one than x
    apart : e.cause ≡ None → e.unknown ≡ x → ⊥
    apart why h =
        let lo : low rs whole x ≡ e.bound = subst (λ (y : ℕ). low rs whole y ≡ e.bound) h (fixed why Low) in
        let hi : high rs whole x ≡ e.bound = subst (λ (y : ℕ). high rs whole y ≡ e.bound) h (fixed why High) in
        absurd (omega (arith, ints))

    -- a decided entry
    of_decided : e.cause ≡ None → Backed None rs ms t e → matches e.side c ≡ true →
        (w : Narrowing) → Sums rs rows ms (lacking d c) (reason_of (turned_side e.side) e.unknown t) row part w →
        Narrows rs rows whole x d r ls t (aside e.unknown w)
    of_decided why b m (going row' part' line' ns) s = record {
      kept = kept_aside rs whole x d r e t row part n.kept order below.0.known (lacking d c) (line_row ms _) row' part' s.rows_add
          s.parts_add s.bare m (fixed why) (apart why) b.1.tight b.1.covered (filled e.side d c some m);
      sound = s.sound;
      grown = grown_on n.grown s.grown;
      held = s.held;
      is = s.is;
    }
    of_decided why b m (stopped f ns) s = s

    of_matched : (why : Option ℕ) (capacity : ℕ) → e.cause ≡ why → Backed why rs ms t e → matches e.side c ≡ true →
        Narrows rs rows whole x d r ls t (matched why capacity d e t c row part line ms)
    of_matched (Some q) capacity h b m =
        of_implied q b m _ (summed_sums rs rows ms n.sound row part line n.held n.is n.kept.bare capacity (nat_abs c) q
        b.held)
    of_matched None capacity h b m =
        of_decided h b m _ (summed_sums rs rows ms n.sound row part line n.held n.is n.kept.bare capacity (lacking d c) _
        b.1.held)

    of_entry : (b : Bool) (capacity : ℕ) → matches e.side c ≡ b → Backed e.cause rs ms t e →
        Narrows rs rows whole x d r ls t (narrowed_by b capacity d e t c row part line ms)
    of_entry true capacity m b = of_matched e.cause capacity refl b m
    of_entry false capacity m b = record {
      kept = kept_past rs whole x d r e t row part n.kept m;
      sound = n.sound;
      grown = n.grown;
      held = n.held;
      is = n.is;
    }

  -- the trail read downwards
  pub narrowed_narrows : (capacity : ℕ) (front t : Trail) (w : Narrowing) → whole ≡ front ++ t → Firm rs t → Held rs ls t →
      Narrows rs rows whole x d r ls t w → Narrows rs rows whole x d r ls [] (narrowed capacity d t w)
  narrowed_narrows capacity front [] w joins f h n = n
  narrowed_narrows capacity front (e ∷ t) (going row part line ms) joins f h n =
      narrowed_narrows capacity (front ++ e ∷ []) t _ (joins ∙ sym (append_assoc front (e ∷ []) t)) f.1 h.1
      (of_entry front e t joins f row part line ms n _ capacity refl (held_grown n.grown rs (e ∷ t) h).0)
  narrowed_narrows capacity front (e ∷ t) (stopped g ms) joins f h n = n
