-- Every line that a run writes keeps to its limits: n coefficients, a row that fits, and multipliers within theirs. Follows the machine
-- by one lemma for each of its functions. Rests on Good, on Firsts, on Divisors and on Running.
use Rattle.std.proofs.Common.{◌≡◌, ℕ, zero, suc, ◌-◌, ◌%◌, ◌<◌, ◌≤◌, Bool, true, false, not, ◌&&◌, ◌||◌, eqb, ltb, leb, ◌⊎◌, List, [], ◌∷◌, map, length, replicate, ℤ, pos, negsuc, ◌*ℤ◌, neg_ℤ, nat_abs, Some, None, Ok, Err, Decides, Option, sym, refl, ◌∙◌, subst, inl, inr, ⊎_elim, div-le_self, arith}
use Prim.Native.Nat.{◌∣◌}
use Rattle.std.specs.List.{AllByRecursion}
use Rattle.std.proofs.ByRecursion.{All-get_or, All-append, All-set, All-push, All-weaker, All-take, All-map, Decides-by_and}
use Rattle.std.proofs.lemmas.List.{length-set, length-map, length-replicate}
use Rattle.std.proofs.lemmas.List.Elements.{recursion_from_All, All-replicate}
use Rattle.std.proofs.lemmas.Bool.{and_parts, and_from, or_parts, not-false, leb-true, le-leb}
use Rattle.std.proofs.lemmas.Nat.Gcd.{le_of_dvd}
use Rattle.std.proofs.Math.Nat.{mod-le}
use Rattle.std.specs.Int.Signed.{lt_z}
use Rattle.std.proofs.lemmas.Int.{ints}
use Rattle.calculus.specs.Account.{bad_range, heavy}
use Rattle.calculus.specs.Advice.{Advice, told, choice, turned_side}
use Rattle.calculus.specs.Arithmetic.{floor, ceiling, common, near}
use Rattle.calculus.specs.Bounds.{Trail, range_at, row_at, here_or, without, lows, highs, conflict, propagating, fails_under, better_under}
use Rattle.calculus.specs.Limits.{end_limit, added_coefficient_limit, added_constant_limit, formed_coefficient_limit, formed_constant_limit}
use Rattle.calculus.specs.Limits.{multiplier_limit, most_entries}
use Rattle.calculus.specs.Logs.{Line, fields_of, line_row, Written, written, written_by}
use Rattle.calculus.specs.Machines.{Context, Phase, looking, repairing, ended, Machine, Acted, row_line}
use Rattle.calculus.specs.Machines.{pushed, due_by, row_due, decide_by, look_choice, look_bound, look_fail}
use Rattle.calculus.specs.Machines.{mended, reduced_by, repaired, resolved_by, dropped, implied_off, jump, decided_off, off}
use Rattle.calculus.specs.Machines.{closed, close, repair, act_in, act}
use Rattle.calculus.specs.Promises.{FitRanges, FitRows}
use Rattle.calculus.specs.RunLaws.{after}
use Rattle.calculus.specs.Rows.{Row, Standing, coef, cut}
use Rattle.calculus.specs.Runs.{lone, low_row, high_row, line_of, range_lines, row_lines, base_lines, start_by, rows_of}
use Rattle.calculus.specs.Runs.{whole_run}
use Rattle.calculus.specs.Tightening.{added_coefs, plus, light, fits, lacking, matches, reason_of, left_open, open_part}
use Rattle.calculus.specs.Tightening.{Narrowing, going, stopped, outcome, summed_by, summed, aside, matched, narrowed_by, narrowed}
use Rattle.calculus.specs.Tightening.{finished_by, finished, tightened}
use Rattle.calculus.specs.declared.kinds.Kind.{Kind}
use Rattle.calculus.specs.declared.kinds.Kind.TheVariants.{Low as LowLine, High as HighLine, Row as Placed, Sum, Cut}
use Rattle.calculus.specs.declared.ranges.Range.{Range}
use Rattle.calculus.specs.declared.sides.Side.{Side}
use Rattle.calculus.specs.declared.trails.Bound.{Bound}
use Rattle.calculus.specs.declared.trails.Entry.{Entry}
use Rattle.calculus.proofs.Divisors.{common_divides, row_divisor_plain}
use Rattle.calculus.proofs.Firsts.{first_conflict, first_pair}
use Rattle.calculus.proofs.Good.{Slim}
use Rattle.calculus.proofs.Running.{whole_keeps}

-- ---- small rows

-- a coefficient within the limit of formed ones
abbrev pub Lean : ℤ → Type 0
Lean c = nat_abs c ≤ formed_coefficient_limit

-- A row with n coefficients that keeps to the limits of formed rows.
pub record Small (n : ℕ) (r : Row) : Type 0 where
  pub long : length r.coefs ≡ n
  pub lean : AllByRecursion Lean r.coefs
  pub kept : nat_abs r.constant ≤ formed_constant_limit

light_decides : (cs : List ℤ) → Decides (light cs) (AllByRecursion Lean cs)
light_decides cs =
    Decides-by_and (near formed_coefficient_limit) Lean light
    (λ c. (leb-true (nat_abs c) formed_coefficient_limit, le-leb (nat_abs c) formed_coefficient_limit)) refl (λ _ _. refl) cs

pub small_fits : (n : ℕ) (r : Row) → Small n r → fits r ≡ true
small_fits n r s =
    and_from _ _ ((light_decides r.coefs).1 s.lean) (le-leb (nat_abs r.constant) formed_constant_limit s.kept)

pub fits_small : (n : ℕ) (r : Row) → length r.coefs ≡ n → fits r ≡ true → Small n r
fits_small n r e h =
    let both = and_parts (light r.coefs) (near formed_constant_limit r.constant) h in
    record {
      long = e;
      lean = (light_decides r.coefs).0 both.0;
      kept = leb-true (nat_abs r.constant) formed_constant_limit both.1;
    }

lean_at : (cs : List ℤ) (i : ℕ) → AllByRecursion Lean cs → Lean (coef cs i)
lean_at [] i h = omega arith
lean_at (c ∷ cs) zero h = h.0
lean_at (c ∷ cs) (suc i) h = lean_at cs i h.1

pub small_at : (n : ℕ) (r : Row) (i : ℕ) → Small n r → Lean (coef r.coefs i)
small_at n r i s = lean_at r.coefs i s.lean

-- ---- cuts, open parts and terms set aside

floor_less : (c : ℤ) (k : ℕ) → nat_abs (floor c k) ≤ nat_abs c
floor_less (pos a) k = div-le_self a k
floor_less (negsuc a) k = let l = div-le_self a k in omega arith

ceiling_less : (c : ℤ) (k : ℕ) → nat_abs (ceiling c k) ≤ nat_abs c
ceiling_less c k = let l = floor_less (neg_ℤ c) k in omega (arith, ints)

floors_lean : (k : ℕ) (cs : List ℤ) → AllByRecursion Lean cs → AllByRecursion Lean (map (λ c. floor c k) cs)
floors_lean k cs h =
    All-map Lean (λ c. floor c k) cs (All-weaker Lean (λ c. Lean (floor c k)) (λ c l. let f = floor_less c k in omega arith) cs h)

small_cut : (n k : ℕ) (r : Row) → Small n r → Small n (cut k r)
small_cut n k r s =
    let l = ceiling_less r.constant k in
    let m = s.kept in
    record { long = length-map r.coefs (λ c. floor c k) ∙ s.long; lean = floors_lean k r.coefs s.lean; kept = omega arith }

open_lean : (b : Bool) (c : ℤ) → Lean c → Lean (here_or b (pos 0) c)
open_lean true c h = omega arith
open_lean false c h = h

small_open : (n d : ℕ) (r : Row) → Small n r → Small n (open_part d r)
small_open n d r s = record {
  long = length-map r.coefs (left_open d) ∙ s.long;
  lean = All-map Lean (left_open d) r.coefs
      (All-weaker Lean (λ c. Lean (left_open d c)) (λ c l. open_lean (eqb (nat_abs c % d) 0) c l) r.coefs s.lean);
  kept = s.kept;
}

small_without : (n x : ℕ) (r : Row) → Small n r → Small n (without x r)
small_without n x r s = record {
  long = length-set r.coefs x (pos 0) ∙ s.long;
  lean = All-set Lean r.coefs x (pos 0) (omega arith) s.lean;
  kept = s.kept;
}

-- ---- multipliers

lacking_less : (d : ℕ) (c : ℤ) → lacking d c ≤ d
lacking_less d c = let l = mod-le (d - nat_abs c % d) d in omega arith

divisor_lean : (g : ℕ) (cs : List ℤ) → AllByRecursion (λ c. g ∣ nat_abs c) cs → AllByRecursion Lean cs →
    AllByRecursion (λ c. c ≡ pos 0) cs ⊎ (g ≤ formed_coefficient_limit)
divisor_lean g [] h l = inl tt
divisor_lean g (pos zero ∷ cs) h l = ⊎_elim (λ z. inl (refl, z)) (λ k. inr k) (divisor_lean g cs h.1 l.1)
divisor_lean g (pos (suc a) ∷ cs) h l =
    let some : 0 < suc a = omega arith in
    let few = le_of_dvd some h.0 in
    let lean = l.0 in
    inr (omega arith)
divisor_lean g (negsuc a ∷ cs) h l =
    let some : 0 < suc a = omega arith in
    let few = le_of_dvd some h.0 in
    let lean = l.0 in
    inr (omega arith)

-- a common divisor above 1 is not above some coefficient
common_lean : (cs : List ℤ) → 2 ≤ common cs → AllByRecursion Lean cs → common cs ≤ multiplier_limit
common_lean cs h l =
    ⊎_elim (λ z. let one = row_divisor_plain cs z in absurd (omega arith)) (λ k. k)
    (divisor_lean (common cs) cs (common_divides cs) l)

-- ---- sums and lines

added_long : (n : ℕ) (cs ds : List ℤ) → length cs ≡ n → length ds ≤ n → length (added_coefs cs ds) ≡ n
added_long n [] [] e l = e
added_long n [] (d ∷ ds) e l = absurd (omega arith)
added_long n (c ∷ cs) [] e l = e
added_long zero (c ∷ cs) (d ∷ ds) e l = absurd (omega arith)
added_long (suc n) (c ∷ cs) (d ∷ ds) e l = let f = added_long n cs ds (omega arith) (omega arith) in omega arith

-- a line read has at most n coefficients: none where no line is held
line_short : (n : ℕ) (ls : List Line) (q : ℕ) → AllByRecursion (Slim n) ls → length (line_row ls q).coefs ≤ n
line_short n [] q h = omega arith
line_short n (l ∷ ls) zero h = let e = h.0.shaped in omega arith
line_short n (l ∷ ls) (suc q) h = line_short n ls q h.1

plus_long : (n : ℕ) (r : Row) (m : ℕ) (ls : List Line) (q : ℕ) → Small n r → AllByRecursion (Slim n) ls →
    length (plus r m (line_row ls q)).coefs ≡ n
plus_long n r m ls q s h =
    let few = line_short n ls q h in
    let same = length-map (line_row ls q).coefs (λ c. pos m *ℤ c) in
    added_long n r.coefs (map (λ c. pos m *ℤ c) (line_row ls q).coefs) s.long (omega arith)

slim_of : (n : ℕ) (k : Kind) (r : Row) → Small n r → (fields_of k).k ≤ multiplier_limit → (fields_of k).m ≤ multiplier_limit →
    Slim n (record { fields = fields_of k; row = r })
slim_of n k r s p q = record { shaped = s.long; fit = small_fits n r s; k_fits = p; m_fits = q }

written_by_slim : (n : ℕ) (b : Bool) (l : Line) (ls : List Line) → Slim n l → AllByRecursion (Slim n) ls →
    AllByRecursion (Slim n) (written_by b l ls).1
written_by_slim n true l ls s h = h
written_by_slim n false l ls s h = All-push (Slim n) ls l h s

written_slim : (n capacity : ℕ) (k : Kind) (r : Row) (ls : List Line) → Small n r → (fields_of k).k ≤ multiplier_limit →
    (fields_of k).m ≤ multiplier_limit → AllByRecursion (Slim n) ls → AllByRecursion (Slim n) (written capacity k r ls).1
written_slim n capacity k r ls s p q h = written_by_slim n (leb capacity (length ls)) _ ls (slim_of n k r s p q) h

-- ---- tightening

abbrev Narrow : ℕ → Narrowing → Type 0
Narrow n (going row part line ls) = Small n row × Small n part × AllByRecursion (Slim n) ls
Narrow n (stopped r ls) = AllByRecursion (Slim n) ls

outcome_slim : (n : ℕ) (w : Written) (row part : Row) → Small n row → Small n part → AllByRecursion (Slim n) w.1 →
    Narrow n (outcome w row part)
outcome_slim n (Ok line, ls) row part s t h = (s, t, h)
outcome_slim n (Err r, ls) row part s t h = h

summed_by_slim : (n : ℕ) (b : Bool) (capacity m q : ℕ) (row part : Row) (line : ℕ) (ls : List Line) →
    (fits row && fits part) ≡ b → length row.coefs ≡ n → length part.coefs ≡ n → m ≤ multiplier_limit → AllByRecursion (Slim n) ls →
    Narrow n (summed_by b capacity m q row part line ls)
summed_by_slim n false capacity m q row part line ls e p r l h = h
summed_by_slim n true capacity m q row part line ls e p r l h =
    let both = and_parts (fits row) (fits part) e in
    let s = fits_small n row p both.0 in
    outcome_slim n _ row part s (fits_small n part r both.1) (written_slim n capacity (Sum line q 1 m) row ls s (omega arith) l h)

summed_slim : (n capacity m q : ℕ) (row part : Row) (line : ℕ) (ls : List Line) → m ≤ multiplier_limit →
    Small n row → Small n part → AllByRecursion (Slim n) ls → Narrow n (summed capacity m q row part line ls)
summed_slim n capacity zero q row part line ls l s t h = (s, t, h)
summed_slim n capacity (suc m) q row part line ls l s t h =
    summed_by_slim n _ capacity (suc m) q (plus row (suc m) (line_row ls q)) (plus part (suc m) (line_row ls q)) line ls refl
    (plus_long n row (suc m) ls q s h) (plus_long n part (suc m) ls q t h) l h

aside_slim : (n y : ℕ) (w : Narrowing) → Narrow n w → Narrow n (aside y w)
aside_slim n y (going row part line ls) h = (h.0, small_without n y part h.1, h.2)
aside_slim n y (stopped r ls) h = h

matched_slim : (n : ℕ) (why : Option ℕ) (capacity d : ℕ) (e : Entry) (t : Trail) (c : ℤ) (row part : Row) (line : ℕ) (ls : List Line) →
    Lean c → d ≤ multiplier_limit → Small n row → Small n part → AllByRecursion (Slim n) ls →
    Narrow n (matched why capacity d e t c row part line ls)
matched_slim n (Some q) capacity d e t c row part line ls l k s p h = summed_slim n capacity (nat_abs c) q row part line ls l s p h
matched_slim n None capacity d e t c row part line ls l k s p h =
    let few = lacking_less d c in
    let q = reason_of (turned_side e.side) e.unknown t in
    aside_slim n e.unknown (summed capacity (lacking d c) q row part line ls)
    (summed_slim n capacity (lacking d c) q row part line ls (omega arith) s p h)

narrowed_by_slim : (n : ℕ) (b : Bool) (capacity d : ℕ) (e : Entry) (t : Trail) (c : ℤ) (row part : Row) (line : ℕ) (ls : List Line) →
    Lean c → d ≤ multiplier_limit → Small n row → Small n part → AllByRecursion (Slim n) ls →
    Narrow n (narrowed_by b capacity d e t c row part line ls)
narrowed_by_slim n true capacity d e t c row part line ls l k s p h = matched_slim n e.cause capacity d e t c row part line ls l k s p h
narrowed_by_slim n false capacity d e t c row part line ls l k s p h = (s, p, h)

narrowed_slim : (n capacity d : ℕ) (t : Trail) (w : Narrowing) → d ≤ multiplier_limit → Narrow n w → Narrow n (narrowed capacity d t w)
narrowed_slim n capacity d [] w k h = h
narrowed_slim n capacity d (e ∷ t) (going row part line ls) k h =
    let c = coef part.coefs e.unknown in
    let lean = small_at n part e.unknown h.1 in
    narrowed_slim n capacity d t _ k
    (narrowed_by_slim n (matches e.side c) capacity d e t c row part line ls lean k h.0 h.1 h.2)
narrowed_slim n capacity d (e ∷ t) (stopped r ls) k h = h

finished_by_slim : (n : ℕ) (b : Bool) (capacity d : ℕ) (row : Row) (line : ℕ) (ls : List Line) → d ≤ multiplier_limit → Small n row →
    AllByRecursion (Slim n) ls → AllByRecursion (Slim n) (finished_by b capacity d row line ls).1
finished_by_slim n true capacity d row line ls k s h =
    written_slim n capacity (Cut line d) (cut d row) ls (small_cut n d row s) k (omega arith) h
finished_by_slim n false capacity d row line ls k s h = h

finished_slim : (n capacity d : ℕ) (w : Narrowing) → d ≤ multiplier_limit → Narrow n w → AllByRecursion (Slim n) (finished capacity d w).1
finished_slim n capacity d (going row part line ls) k h = finished_by_slim n (leb 2 d) capacity d row line ls k h.0 h.2
finished_slim n capacity d (stopped r ls) k h = h

pub tightened_slim : (n capacity : ℕ) (t : Trail) (row : Row) (line x : ℕ) (ls : List Line) → Small n row → AllByRecursion (Slim n) ls →
    AllByRecursion (Slim n) (tightened capacity t row line x ls).1
tightened_slim n capacity t row line x ls s h =
    let d = nat_abs (coef row.coefs x) in
    let w = going row (open_part d row) line ls in
    finished_slim n capacity d (narrowed capacity d t w) (small_at n row x s)
    (narrowed_slim n capacity d t w (small_at n row x s) (s, small_open n d row s, h))

-- ---- one step

-- the row that is repaired is small
abbrev Sized : ℕ → Phase → Type 0
Sized n looking = Unit {0}
Sized n (repairing j line place) = Small n j
Sized n (ended e) = Unit {0}

abbrev Keeps : ℕ → Machine → Type 0
Keeps n m = AllByRecursion (Slim n) m.lines × Sized n m.phase

-- what a step comes to keeps to the limits
abbrev Stays : ℕ → Acted → Type 0
Stays n a = Keeps n (after a)

-- the rows of a context are small
abbrev Smalls : ℕ → Context → Type 0
Smalls n c = AllByRecursion (Small n) c.rows

small_row : (n : ℕ) (c : Context) (p : ℕ) → Smalls n c → p < length c.rows → Small n (row_at c.rows p)
small_row n c p h l = All-get_or (Small n) c.rows p (record { coefs = []; constant = pos 0 }) l h

pushed_slim : (n : ℕ) (w : Written) (m : Machine) (a : Advice) (t : Trail) (x : ℕ) (b : Bound) → AllByRecursion (Slim n) w.1 →
    Stays n (pushed w m a t x b)
pushed_slim n (Ok q, ls) m a t x b h = (h, tt)
pushed_slim n (Err r, ls) m a t x b h = (h, tt)

due_by_slim : (n : ℕ) (less : Bool) (c : Context) (m : Machine) (a : Advice) (t : Trail) (row : Row) (line x : ℕ) (b : Bound) →
    Small n row → AllByRecursion (Slim n) m.lines → Stays n (due_by less c m a t row line x b)
due_by_slim n true c m a t row line x b s h =
    pushed_slim n _ m a t x b (tightened_slim n c.capacity t row line x m.lines s h)
due_by_slim n false c m a t row line x b s h = (h, tt)

row_due_slim : (n : ℕ) (c : Context) (m : Machine) (a : Advice) (t : Trail) (row : Row) (line x : ℕ) (b : Bound) →
    Small n row → AllByRecursion (Slim n) m.lines → Stays n (row_due c m a t row line x b)
row_due_slim n c m a t row line x b s h = due_by_slim n (ltb (length t) most_entries) c m a t row line x b s h

decide_by_slim : (n : ℕ) (less : Bool) (c : Context) (m : Machine) (x : ℕ) (s : Side) → AllByRecursion (Slim n) m.lines →
    Stays n (decide_by less c m x s)
decide_by_slim n true c m x s h = (h, tt)
decide_by_slim n false c m x s h = (h, tt)

look_choice_slim : (n : ℕ) (o : Option (ℕ × Side)) (c : Context) (m : Machine) → AllByRecursion (Slim n) m.lines →
    Stays n (look_choice o c m)
look_choice_slim n None c m h = (h, tt)
look_choice_slim n (Some (x, s)) c m h = decide_by_slim n (ltb (length m.trail) most_entries) c m x s h

look_bound_slim : (n : ℕ) (o : Option (ℕ × (ℕ × Bound))) (c : Context) (m : Machine) →
    propagating c.ranges c.rows m.trail ≡ o → Smalls n c → AllByRecursion (Slim n) m.lines → Stays n (look_bound o c m)
look_bound_slim n None c m e r h =
    look_choice_slim n (choice m.advice.mind.order (lows c.ranges m.trail) (highs c.ranges m.trail)) c m h
look_bound_slim n (Some (p, (x, b))) c m e r h =
    let few = ((first_pair c.ranges c.rows m.trail).0 p x b e).0 in
    row_due_slim n c m m.advice m.trail (row_at c.rows p) (row_line c p) x b (small_row n c p r few) h

look_fail_slim : (n : ℕ) (o : Option ℕ) (c : Context) (m : Machine) → conflict c.ranges c.rows m.trail ≡ o → Smalls n c →
    AllByRecursion (Slim n) m.lines → Stays n (look_fail o c m)
look_fail_slim n None c m e r h = look_bound_slim n (propagating c.ranges c.rows m.trail) c m refl r h
look_fail_slim n (Some p) c m e r h = (h, small_row n c p r ((first_conflict c.ranges c.rows m.trail).0 p e).0)

-- ---- repair

mended_slim : (n : ℕ) (w : Written) (m : Machine) (t : Trail) (j : Row) → Small n j → AllByRecursion (Slim n) w.1 → Stays n (mended w m t j)
mended_slim n (Ok line, ls) m t j s h = (h, s)
mended_slim n (Err r, ls) m t j s h = (h, tt)

reduced_by_slim : (n : ℕ) (b : Bool) (c : Context) (m : Machine) (t : Trail) (j : Row) (line : ℕ) (ls : List Line) →
    leb 2 (common j.coefs) ≡ b → Small n j → AllByRecursion (Slim n) ls → Stays n (reduced_by b c m t j line ls)
reduced_by_slim n true c m t j line ls e s h =
    let g = common j.coefs in
    let cutted = small_cut n g j s in
    mended_slim n _ m t (cut g j) cutted
    (written_slim n c.capacity (Cut line g) (cut g j) ls cutted (common_lean j.coefs (leb-true 2 g e) s.lean) (omega arith) h)
reduced_by_slim n false c m t j line ls e s h = (h, s)

repaired_slim : (n : ℕ) (w : Written) (c : Context) (m : Machine) (t : Trail) (j : Row) → Small n j → AllByRecursion (Slim n) w.1 →
    Stays n (repaired w c m t j)
repaired_slim n (Ok line, ls) c m t j s h = reduced_by_slim n (leb 2 (common j.coefs)) c m t j line ls refl s h
repaired_slim n (Err r, ls) c m t j s h = (h, tt)

resolved_by_slim : (n : ℕ) (b : Bool) (c : Context) (m : Machine) (t : Trail) (j : Row) (line q k : ℕ) → fits j ≡ b →
    length j.coefs ≡ n → k ≤ multiplier_limit → AllByRecursion (Slim n) m.lines → Stays n (resolved_by b c m t j line q k)
resolved_by_slim n true c m t j line q k e long l h =
    let s = fits_small n j long e in
    repaired_slim n _ c m t j s (written_slim n c.capacity (Sum line q 1 k) j m.lines s (omega arith) l h)
resolved_by_slim n false c m t j line q k e long l h = (h, tt)

dropped_slim : (n : ℕ) (m : Machine) (t : Trail) (j : Row) (line : ℕ) (place : Option ℕ) → Small n j → AllByRecursion (Slim n) m.lines →
    Stays n (dropped m t j line place)
dropped_slim n m t j line place s h = (h, s)

implied_off_slim : (n : ℕ) (b : Bool) (c : Context) (m : Machine) (t : Trail) (j : Row) (line : ℕ) (place : Option ℕ) (q k : ℕ) →
    k ≤ multiplier_limit → Small n j → AllByRecursion (Slim n) m.lines → Stays n (implied_off b c m t j line place q k)
implied_off_slim n true c m t j line place q k l s h =
    let sum = plus j k (line_row m.lines q) in
    resolved_by_slim n (fits sum) c m t sum line q k refl (plus_long n j k m.lines q s h) l h
implied_off_slim n false c m t j line place q k l s h = dropped_slim n m t j line place s h

jump_slim : (n : ℕ) (o : Option Bound) (c : Context) (m : Machine) (t : Trail) (j : Row) (line : ℕ) (place : Option ℕ) (x : ℕ) →
    Small n j → AllByRecursion (Slim n) m.lines → Stays n (jump o c m t j line place x)
jump_slim n None c m t j line place x s h = dropped_slim n m t j line place s h
jump_slim n (Some b) c m t j line place x s h = row_due_slim n c m (told m.advice x) t j line x b s h

decided_off_slim : (n : ℕ) (b : Bool) (c : Context) (m : Machine) (t : Trail) (j : Row) (line : ℕ) (place : Option ℕ) (x : ℕ) →
    Small n j → AllByRecursion (Slim n) m.lines → Stays n (decided_off b c m t j line place x)
decided_off_slim n true c m t j line place x s h = dropped_slim n m t j line place s h
decided_off_slim n false c m t j line place x s h = jump_slim n (better_under c.ranges t j x) c m t j line place x s h

off_slim : (n : ℕ) (why : Option ℕ) (c : Context) (m : Machine) (e : Entry) (t : Trail) (j : Row) (line : ℕ) (place : Option ℕ) →
    Small n j → AllByRecursion (Slim n) m.lines → Stays n (off why c m e t j line place)
off_slim n (Some q) c m e t j line place s h =
    let k = coef j.coefs e.unknown in
    implied_off_slim n (matches e.side k) c m t j line place q (nat_abs k) (small_at n j e.unknown s) s h
off_slim n None c m e t j line place s h = decided_off_slim n (fails_under c.ranges t j) c m t j line place e.unknown s h

closed_slim : (n : ℕ) (w : Written) (m : Machine) → AllByRecursion (Slim n) w.1 → Stays n (closed w m)
closed_slim n (Ok q, ls) m h = (h, tt)
closed_slim n (Err r, ls) m h = (h, tt)

close_slim : (n : ℕ) (place : Option ℕ) (c : Context) (m : Machine) (j : Row) (line : ℕ) → Small n j → AllByRecursion (Slim n) m.lines →
    Stays n (close place c m j line)
close_slim n (Some p) c m j line s h =
    closed_slim n _ m (written_slim n c.capacity (Placed p) j m.lines s (omega arith) (omega arith) h)
close_slim n None c m j line s h = (h, tt)

repair_slim : (n : ℕ) (t : Trail) (c : Context) (m : Machine) (j : Row) (line : ℕ) (place : Option ℕ) → Small n j →
    AllByRecursion (Slim n) m.lines → Stays n (repair t c m j line place)
repair_slim n [] c m j line place s h = close_slim n place c m j line s h
repair_slim n (e ∷ t) c m j line place s h = off_slim n e.cause c m e t j line place s h

act_in_slim : (n : ℕ) (p : Phase) (c : Context) (m : Machine) → m.phase ≡ p → Smalls n c → Sized n p → AllByRecursion (Slim n) m.lines →
    Stays n (act_in p c m)
act_in_slim n looking c m e r s h = look_fail_slim n (conflict c.ranges c.rows m.trail) c m refl r h
act_in_slim n (repairing j line place) c m e r s h = repair_slim n m.trail c m j line place s h
act_in_slim n (ended x) c m e r s h = (h, subst (Sized n) (sym e) tt)

act_slim : (n : ℕ) (c : Context) (m : Machine) → Smalls n c → Keeps n m → Stays n (act c m)
act_slim n c m r k = act_in_slim n m.phase c m refl r k.1 k.0

-- ---- the start

-- the ends of a range are within their limits
good_ends : (r : Range) → bad_range r.low r.high ≡ false → (nat_abs r.low ≤ end_limit) × (nat_abs r.high ≤ end_limit)
good_ends r h =
    let both = or_parts (not (near end_limit r.low)) (not (near end_limit r.high))
    (or_parts (lt_z r.high r.low) (not (near end_limit r.low) || not (near end_limit r.high)) h).1 in (
      leb-true (nat_abs r.low) end_limit (not-false (near end_limit r.low) both.0),
      leb-true (nat_abs r.high) end_limit (not-false (near end_limit r.high) both.1),
    )

small_lone : (n x : ℕ) (a k : ℤ) → Lean a → nat_abs k ≤ end_limit → Small n (lone n x a k)
small_lone n x a k l h = record {
  long = length-set (replicate n (pos 0)) x a ∙ length-replicate n (pos 0);
  lean = All-set Lean (replicate n (pos 0)) x a l (recursion_from_All Lean _ (All-replicate Lean n (pos 0) (omega arith)));
  kept = omega arith;
}

abbrev pub GoodRanges : List Range → Type 0
GoodRanges rs = AllByRecursion (λ r. bad_range r.low r.high ≡ false) rs

range_lines_slim : (rs : List Range) (k : ℕ) → GoodRanges rs → k ≤ length rs → AllByRecursion (Slim (length rs)) (range_lines rs k)
range_lines_slim rs zero h l = tt
range_lines_slim rs (suc x) h l =
    let n = length rs in
    let ends = good_ends (range_at rs x)
    (All-get_or (λ r. bad_range r.low r.high ≡ false) rs x (record { low = pos 0; high = pos 0 }) (omega arith) h) in
    let low = ends.0 in
    let high = ends.1 in
    let first = slim_of n (LowLine x) (low_row rs x) (small_lone n x (negsuc 0) (range_at rs x).low (omega arith) low)
    (omega arith) (omega arith) in
    let second = slim_of n (HighLine x) (high_row rs x)
    (small_lone n x (pos 1) (neg_ℤ (range_at rs x).high) (omega arith) (omega (arith, ints))) (omega arith) (omega arith) in
    All-append (Slim n) (range_lines rs x) _ (range_lines_slim rs x h (omega arith)) (first, (second, tt))

row_lines_slim : (n : ℕ) (rows : List Row) (k : ℕ) → AllByRecursion (Small n) rows → k ≤ length rows →
    AllByRecursion (Slim n) (row_lines rows k)
row_lines_slim n rows zero h l = tt
row_lines_slim n rows (suc p) h l =
    All-push (Slim n) (row_lines rows p) (line_of (Placed p) (row_at rows p)) (row_lines_slim n rows p h (omega arith))
    (slim_of n (Placed p) (row_at rows p) (All-get_or (Small n) rows p (record { coefs = []; constant = pos 0 }) (omega arith) h)
    (omega arith) (omega arith))

pub base_slim : (rs : List Range) (rows : List Row) → GoodRanges rs → AllByRecursion (Small (length rs)) rows →
    AllByRecursion (Slim (length rs)) (base_lines rs rows)
base_slim rs rows h s =
    let n = length rs in
    All-append (Slim n) (range_lines rs n) (row_lines rows (length rows)) (range_lines_slim rs n h (omega arith))
    (row_lines_slim n rows (length rows) s (omega arith))

start_by_slim : (b : Bool) (c : Context) (a : Advice) → GoodRanges c.ranges → Smalls (length c.ranges) c →
    Keeps (length c.ranges) (start_by b c a)
start_by_slim true c a h s = (base_slim c.ranges c.rows h s, tt)
start_by_slim false c a h s =
    (All-take (Slim (length c.ranges)) c.capacity (base_lines c.ranges c.rows) (base_slim c.ranges c.rows h s), tt)

-- ---- whole runs

-- every line that a run leaves keeps to its limits, whatever the run ends in
pub whole_slim : (c : Context) (budget : ℕ) (a : Advice) → GoodRanges c.ranges → AllByRecursion (Small (length c.ranges)) c.rows →
    AllByRecursion (Slim (length c.ranges)) (whole_run c budget a).at.lines
whole_slim c budget a h s =
    let n = length c.ranges in
    (whole_keeps (Keeps n) c (λ m k. act_slim n c m s k) budget a
    (start_by_slim (leb (length (base_lines c.ranges c.rows)) c.capacity) c a h s)).0

heavy_lean : (cs : List ℤ) → heavy cs ≡ false → AllByRecursion Lean cs
heavy_lean [] h = tt
heavy_lean (c ∷ cs) h =
    let both = or_parts (not (near added_coefficient_limit c)) (heavy cs) h in
    let l = leb-true (nat_abs c) added_coefficient_limit (not-false (near added_coefficient_limit c) both.0) in
    (omega arith, heavy_lean cs both.1)

small_rows : (n : ℕ) (rows : List Standing) → AllByRecursion (λ s. length s.row.coefs ≡ n) rows →
    AllByRecursion (λ s. heavy s.row.coefs ≡ false) rows →
    AllByRecursion (λ s. near added_constant_limit s.row.constant ≡ true) rows → AllByRecursion (Small n) (rows_of rows)
small_rows n [] p q r = tt
small_rows n (s ∷ rows) p q r =
    let l = leb-true (nat_abs s.row.constant) added_constant_limit r.0 in
    (record { long = p.0; lean = heavy_lean s.row.coefs q.0; kept = omega arith }, small_rows n rows p.1 q.1 r.1)

-- rows as a ticket takes them are small
pub fit_small : (rs : List Range) (rows : List Standing) → FitRows rs rows → AllByRecursion (Small (length rs)) (rows_of rows)
fit_small rs rows f = small_rows (length rs) rows f.shaped f.light f.small

-- the same from ranges and rows as a ticket takes them
pub run_slim : (rs : List Range) (rows : List Standing) (capacity budget : ℕ) (a : Advice) → FitRanges rs → FitRows rs rows →
    AllByRecursion (Slim (length rs)) (whole_run (record { ranges = rs; rows = rows_of rows; capacity = capacity }) budget a).at.lines
run_slim rs rows capacity budget a p q =
    whole_slim (record { ranges = rs; rows = rows_of rows; capacity = capacity }) budget a p.good (fit_small rs rows q)
