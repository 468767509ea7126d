-- Logs are sound: an assignment within the ranges that meets every row meets every line that is made from them, and no assignment meets
-- a row that contradicts. So a log that a check accepts excludes every plan. Rests on Good, on Leasts and on Reduction.
use Rattle.std.proofs.Common.{◌≡◌, ℕ, zero, suc, ◌-◌, ◌%◌, ◌<◌, Bool, true, false, not, ◌&&◌, eqb, ltb, List, [], ◌∷◌, ◌++◌, map, length, take, ℤ, pos, negsuc, ◌+ℤ◌, ◌*ℤ◌, neg_ℤ, nat_abs, ◌≤ℤ◌, Some, None, Ok, Err, Option, Result, sym, refl, ap, ◌∙◌, subst, arith}
use Rattle.std.proofs.ByRecursion.{All-get_or, All-map}
use Rattle.std.proofs.lemmas.List.{append-nil, append_assoc, length-take-le, get_or-take}
use Rattle.std.proofs.lemmas.Bool.{and_parts, eqb-true, ltb-true}
use Rattle.std.proofs.lemmas.Nat.Gcd.{dvd-zero, dvd_of_mod-eq-zero}
use Rattle.std.proofs.Math.IntN.{zero-*ℤ, *ℤ-zero}
use Rattle.std.specs.Int.Signed.{lt_z}
use Rattle.std.proofs.lemmas.Int.{ints}
use Rattle.calculus.specs.Account.{when, answered}
use Rattle.calculus.specs.Arithmetic.{sum, floor, same_number}
use Rattle.calculus.specs.Bounds.{range_at, row_at}
use Rattle.calculus.specs.Checking.{same_fields, kind_or, kind_among, kind_of, operands, all_below, subject_there, given, all_divide}
use Rattle.calculus.specs.Checking.{may_give, multipliers_fit, judged_kind, judged, Justified, wrong_or, wrong_from, all_zero}
use Rattle.calculus.specs.Checking.{contradicts, closes, open_unless, line_or, fit_or, check_end}
use Rattle.calculus.specs.Logs.{Line, Logbook, fields_of, no_line, line_at, line_row}
use Rattle.calculus.specs.Promises.{AcceptedRight, AllJustified, LinesSound, LogSound}
use Rattle.calculus.specs.Rows.{Row, Standing, coef, value, Meets, MeetsAll, Within, cut, same_row}
use Rattle.calculus.specs.Runs.{lone, low_row, high_row, rows_of}
use Rattle.calculus.specs.Tightening.{combined}
use Rattle.calculus.specs.declared.endings.Objection.{Objection}
use Rattle.calculus.specs.declared.kinds.Fields.{Fields}
use Rattle.calculus.specs.declared.kinds.Kind.{Kind}
use Rattle.calculus.specs.declared.kinds.Kind.TheVariants.{Low, High, Row as Placed, Sum, Cut}
use Rattle.calculus.specs.declared.ranges.Range.{Range}
use Rattle.calculus.specs.declared.refusals.Refusal.{Refusal}
use Rattle.calculus.specs.declared.refusals.Refusal.TheVariants.{Operand, Multiplier, Mismatch}
use Rattle.calculus.proofs.BetterBounds.{sum_same, sum_zero, sum_only}
use Rattle.calculus.proofs.Good.{CutsWell, Made, Good}
use Rattle.calculus.proofs.Ints.{distrib, assoc, times_le, rounded_down, sum_times, mixed}
use Rattle.calculus.proofs.Leasts.{sum_plus, coef_added, coef_map, coef_cut, lone_here, lone_else}
use Rattle.calculus.proofs.Meeting.{within_each}
use Rattle.calculus.proofs.Reduction.{floor_exact, same_number_decides, same_row_decides}

-- ---- sums of rows

pub coef_combined : (k : ℕ) (p : Row) (m : ℕ) (q : Row) (i : ℕ) →
    coef (combined k p m q).coefs i ≡ pos k *ℤ coef p.coefs i +ℤ pos m *ℤ coef q.coefs i
coef_combined k p m q i =
    let e = coef_map (λ c. pos k *ℤ c) (*ℤ-zero (pos k)) p.coefs i in
    let d = coef_map (λ c. pos m *ℤ c) (*ℤ-zero (pos m)) q.coefs i in
    let a = coef_added (map (λ c. pos k *ℤ c) p.coefs) (map (λ c. pos m *ℤ c) q.coefs) i in
    a ∙ ap (λ (u : ℤ). u +ℤ coef (map (λ c. pos m *ℤ c) q.coefs) i) e ∙ ap (λ (u : ℤ). pos k *ℤ coef p.coefs i +ℤ u) d

pub value_combined : (xs : List ℤ) (k : ℕ) (p : Row) (m : ℕ) (q : Row) →
    value xs (combined k p m q) ≡ pos k *ℤ value xs p +ℤ pos m *ℤ value xs q
value_combined xs k p m q =
    let n = length xs in
    let f : ℕ → ℤ = λ i. coef p.coefs i *ℤ coef xs i in
    let g : ℕ → ℤ = λ i. coef q.coefs i *ℤ coef xs i in
    let h : ℕ → ℤ = λ i. coef (combined k p m q).coefs i *ℤ coef xs i in
    let kf : ℕ → ℤ = λ i. pos k *ℤ f i in
    let each : sum n h ≡ sum n (λ i. kf i +ℤ pos m *ℤ g i) =
    sum_same n h (λ i. kf i +ℤ pos m *ℤ g i)
    (λ i l. ap (λ (z : ℤ). z *ℤ coef xs i) (coef_combined k p m q i)
    ∙ mixed (pos k *ℤ coef p.coefs i) (coef q.coefs i) (coef xs i) m
    ∙ ap (λ (z : ℤ). z +ℤ pos m *ℤ g i) (assoc (pos k) (coef p.coefs i) (coef xs i))) in
    let s = sum_plus n (pos m) kf g in
    let t : sum n kf ≡ pos k *ℤ sum n f = sum_times n (pos k) kf f (λ i. refl) in
    let d = distrib (pos k) (sum n f) p.constant in
    let e = distrib (pos m) (sum n g) q.constant in
    omega (arith, ints)

pub meets_combined : (xs : List ℤ) (k : ℕ) (p : Row) (m : ℕ) (q : Row) → Meets xs p → Meets xs q → Meets xs (combined k p m q)
meets_combined xs k p m q h l =
    let a = times_le k (value xs p) (pos 0) h in
    let b = times_le m (value xs q) (pos 0) l in
    let e : value xs (combined k p m q) ≡ pos k *ℤ value xs p +ℤ pos m *ℤ value xs q = value_combined xs k p m q in
    let z = *ℤ-zero (pos k) in
    let y = *ℤ-zero (pos m) in
    omega (arith, ints)

-- ---- cuts

-- coefficients that divide are k times their quotients
pub exact_all : (k : ℕ) (cs : List ℤ) (i : ℕ) → 0 < k → all_divide k cs ≡ true → pos k *ℤ floor (coef cs i) k ≡ coef cs i
exact_all k [] i l h = floor_exact k (pos 0) l (dvd-zero k)
exact_all k (c ∷ cs) zero l h =
    floor_exact k c l (dvd_of_mod-eq-zero k (eqb-true (nat_abs c % k) 0 (and_parts (eqb (nat_abs c % k) 0) (all_divide k cs) h).0))
exact_all k (c ∷ cs) (suc i) l h = exact_all k cs i l (and_parts (eqb (nat_abs c % k) 0) (all_divide k cs) h).1

pub meets_cut : (xs : List ℤ) (k : ℕ) (p : Row) → 0 < k → all_divide k p.coefs ≡ true → Meets xs p → Meets xs (cut k p)
meets_cut xs k p l h meets =
    let n = length xs in
    let f : ℕ → ℤ = λ i. coef p.coefs i *ℤ coef xs i in
    let g : ℕ → ℤ = λ i. coef (cut k p).coefs i *ℤ coef xs i in
    let s : sum n f ≡ pos k *ℤ sum n g =
    sum_times n (pos k) f g
    (λ i. ap (λ (z : ℤ). z *ℤ coef xs i) (sym (exact_all k p.coefs i l h) ∙ ap (λ (z : ℤ). pos k *ℤ z) (sym (coef_cut k p i l)))
    ∙ assoc (pos k) (coef (cut k p).coefs i) (coef xs i)) in
    rounded_down k (sum n g) p.constant l (subst (λ (z : ℤ). (z +ℤ p.constant) ≤ℤ pos 0) s meets)

-- ---- the rows of ranges

pub value_lone : (xs : List ℤ) (x : ℕ) (a k : ℤ) → x < length xs → value xs (lone (length xs) x a k) ≡ a *ℤ coef xs x +ℤ k
value_lone xs x a k l =
    let n = length xs in
    let f : ℕ → ℤ = λ i. coef (lone n x a k).coefs i *ℤ coef xs i in
    let g : ℕ → ℤ = λ i. pos 0 in
    let s : sum n f +ℤ g x ≡ sum n g +ℤ f x =
    sum_only n x f g l (λ i d. ap (λ (z : ℤ). z *ℤ coef xs i) (lone_else n x i a k d) ∙ zero-*ℤ (coef xs i)) in
    let z : sum n g ≡ pos 0 = sum_zero n g (λ i. refl) in
    let e : f x ≡ a *ℤ coef xs x = ap (λ (u : ℤ). u *ℤ coef xs x) (lone_here n x a k l) in
    omega (arith, ints)

meets_low : (rs : List Range) (xs : List ℤ) (x : ℕ) → Within rs xs → x < length rs → Meets xs (low_row rs x)
meets_low rs xs x w l =
    let each = (within_each rs xs (record { low = pos 0; high = pos 0 })).0 w in
    let long : length xs ≡ length rs = each.0 in
    let here : (range_at rs x).low ≤ℤ coef xs x = (each.1 x l).0 in
    let v = value_lone xs x (negsuc 0) (range_at rs x).low (omega arith) in
    let e : Meets xs (lone (length xs) x (negsuc 0) (range_at rs x).low) = omega (arith, ints) in
    subst (λ (n : ℕ). Meets xs (lone n x (negsuc 0) (range_at rs x).low)) long e

meets_high : (rs : List Range) (xs : List ℤ) (x : ℕ) → Within rs xs → x < length rs → Meets xs (high_row rs x)
meets_high rs xs x w l =
    let each = (within_each rs xs (record { low = pos 0; high = pos 0 })).0 w in
    let long : length xs ≡ length rs = each.0 in
    let here : coef xs x ≤ℤ (range_at rs x).high = (each.1 x l).1 in
    let v = value_lone xs x (pos 1) (neg_ℤ (range_at rs x).high) (omega arith) in
    let e : Meets xs (lone (length xs) x (pos 1) (neg_ℤ (range_at rs x).high)) = omega (arith, ints) in
    subst (λ (n : ℕ). Meets xs (lone n x (pos 1) (neg_ℤ (range_at rs x).high))) long e

-- ---- lines

-- every row is met, and every line
abbrev pub MeetsRows : List ℤ → List Row → Type 0
MeetsRows xs rows = (p : ℕ) → p < length rows → Meets xs (row_at rows p)

abbrev pub MeetsLines : List ℤ → List Line → Type 0
MeetsLines xs ls = (q : ℕ) → q < length ls → Meets xs (line_row ls q)

-- what a kind gives is met where the lines before are
given_meets : (rs : List Range) (rows : List Row) (ls : List Line) (xs : List ℤ) (k : Kind) → Within rs xs → MeetsRows xs rows →
    MeetsLines xs ls → subject_there (length rs) (length rows) k ≡ true → all_below (length ls) (operands k) ≡ true → CutsWell ls k →
    Meets xs (given rs rows ls k)
given_meets rs rows ls xs (Low x) w m h there below cuts = meets_low rs xs x w (ltb-true x (length rs) there)
given_meets rs rows ls xs (High x) w m h there below cuts = meets_high rs xs x w (ltb-true x (length rs) there)
given_meets rs rows ls xs (Placed p) w m h there below cuts = m p (ltb-true p (length rows) there)
given_meets rs rows ls xs (Sum a b k j) w m h there below cuts =
    let both = and_parts (ltb a (length ls)) (ltb b (length ls) && true) below in
    let second = and_parts (ltb b (length ls)) true both.1 in
    meets_combined xs k (line_row ls a) j (line_row ls b) (h a (ltb-true a (length ls) both.0))
    (h b (ltb-true b (length ls) second.0))
given_meets rs rows ls xs (Cut a k) w m h there below cuts =
    let both = and_parts (ltb a (length ls)) true below in
    meets_cut xs k (line_row ls a) cuts.0 cuts.1 (h a (ltb-true a (length ls) both.0))

made_meets_one : (rs : List Range) (rows : List Row) (ls : List Line) (l : Line) (xs : List ℤ) → Within rs xs → MeetsRows xs rows →
    MeetsLines xs ls → Made rs rows ls l → Meets xs l.row
made_meets_one rs rows ls l xs w m h made =
    subst (λ (r : Row). Meets xs r) (sym made.is)
    (given_meets rs rows ls xs made.kind w m h made.there made.earlier made.cuts)

made_meets_below : (rs : List Range) (rows : List Row) (ls : List Line) (xs : List ℤ) → Good rs rows ls → Within rs xs →
    MeetsRows xs rows → (b q : ℕ) → q < b → q < length ls → Meets xs (line_row ls q)
made_meets_below rs rows ls xs good w m zero q l k = absurd (omega arith)
made_meets_below rs rows ls xs good w m (suc b) q l k =
    let long = length-take-le q ls (omega arith) in
    made_meets_one rs rows (take q ls) (line_at ls q) xs w m
    (λ p j. let few : p < q = omega arith in
    subst (λ (z : Line). Meets xs z.row) (sym (get_or-take q ls p no_line few))
    (made_meets_below rs rows ls xs good w m b p (omega arith) (omega arith)))
    (good q k)

-- whoever lies within the ranges and meets the rows meets every line
pub made_meets : (rs : List Range) (rows : List Row) (ls : List Line) (xs : List ℤ) → Good rs rows ls → Within rs xs →
    MeetsRows xs rows → MeetsLines xs ls
made_meets rs rows ls xs good w m q l = made_meets_below rs rows ls xs good w m (suc q) q (omega arith) l

-- ---- contradictions

zero_coefs : (cs : List ℤ) (i : ℕ) → all_zero cs ≡ true → coef cs i ≡ pos 0
zero_coefs [] i h = refl
zero_coefs (c ∷ cs) zero h = (same_number_decides c (pos 0)).0 (and_parts (same_number c (pos 0)) (all_zero cs) h).0
zero_coefs (c ∷ cs) (suc i) h = zero_coefs cs i (and_parts (same_number c (pos 0)) (all_zero cs) h).1

-- no assignment meets a row that contradicts
pub contradicts_none : (xs : List ℤ) (r : Row) → contradicts r ≡ true → Meets xs r → ⊥
contradicts_none xs r h m =
    let both = and_parts (all_zero r.coefs) (lt_z (pos 0) r.constant) h in
    let z : sum (length xs) (λ i. coef r.coefs i *ℤ coef xs i) ≡ pos 0 =
    sum_zero (length xs) (λ i. coef r.coefs i *ℤ coef xs i)
    (λ i. ap (λ (u : ℤ). u *ℤ coef xs i) (zero_coefs r.coefs i both.0) ∙ zero-*ℤ (coef xs i)) in
    let up : lt_z (pos 0) r.constant ≡ true = both.1 in
    omega (arith, ints)

pub closes_none : (ls : List Line) (xs : List ℤ) → closes ls ≡ true → MeetsLines xs ls → ⊥
closes_none ls xs h m =
    let both = and_parts (ltb 0 (length ls)) (contradicts (line_row ls (length ls - 1))) h in
    let some = ltb-true 0 (length ls) both.0 in
    contradicts_none xs (line_row ls (length ls - 1)) both.1 (m (length ls - 1) (omega arith))

-- ---- what a check finds

same_fields_to : (f g : Fields) → same_fields f g ≡ true → f ≡ g
same_fields_to f g h =
    let a = and_parts (eqb f.kind g.kind) _ h in
    let b = and_parts (eqb f.i g.i) _ a.1 in
    let c = and_parts (eqb f.j g.j) _ b.1 in
    let d = and_parts (eqb f.k g.k) (eqb f.m g.m) c.1 in
    let p : f.kind ≡ g.kind = eqb-true _ _ a.0 in
    let q : f.i ≡ g.i = eqb-true _ _ b.0 in
    let r : f.j ≡ g.j = eqb-true _ _ c.0 in
    let s : f.k ≡ g.k = eqb-true _ _ d.0 in
    let t : f.m ≡ g.m = eqb-true _ _ d.1 in
    λ z. record { kind = p z; i = q z; j = r z; k = s z; m = t z }

kind_found : (b : Bool) (f : Fields) (first k : Kind) (later : Option Kind) → same_fields (fields_of first) f ≡ b →
    (later ≡ Some k → f ≡ fields_of k) → kind_or b first later ≡ Some k → f ≡ fields_of k
kind_found true f first k later e rest h =
    let same : first ≡ k = cc in sym (same_fields_to (fields_of first) f e) ∙ ap fields_of same
kind_found false f first k later e rest h = rest h

kind_listed : (f : Fields) (ks : List Kind) (k : Kind) → kind_among f ks ≡ Some k → f ≡ fields_of k
kind_listed f [] k h = absurd cc
kind_listed f (first ∷ ks) k h = kind_found (same_fields (fields_of first) f) f first k (kind_among f ks) refl (kind_listed f ks k) h

-- the kind that a line is found to have gives its fields
pub kind_is : (f : Fields) (k : Kind) → kind_of f ≡ Some k → f ≡ fields_of k
kind_is f k h =
    kind_listed f (Low f.i ∷ High f.i ∷ Placed f.i ∷ Sum f.i f.j f.k f.m ∷ Cut f.i f.k ∷ []) k h

passed : (a b c : Bool) →
    answered {A = Unit {0}} (when (not a) Operand ∷ when (not b) Multiplier ∷ when (not c) Mismatch ∷ []) tt ≡ Ok tt →
    (a ≡ true) × (b ≡ true) × (c ≡ true)
passed false b c h = absurd cc
passed true false c h = absurd cc
passed true true false h = absurd cc
passed true true true h = (refl, refl, refl)

judged_cuts : (rs : List Range) (rows : List Row) (ls : List Line) (k : Kind) → multipliers_fit k ≡ true →
    may_give rs rows ls k ≡ true → CutsWell ls k
judged_cuts rs rows ls (Low x) m g = tt
judged_cuts rs rows ls (High x) m g = tt
judged_cuts rs rows ls (Placed p) m g = tt
judged_cuts rs rows ls (Sum a b k j) m g = tt
judged_cuts rs rows ls (Cut a k) m g = (ltb-true 0 k (and_parts (ltb 0 k) _ m).0, g)

judged_by : (o : Option Kind) (rs : List Range) (rows : List Row) (ls : List Line) (l : Line) → kind_of l.fields ≡ o →
    judged_kind o rs rows ls l.row ≡ Ok tt → Made rs rows ls l
judged_by None rs rows ls l e h = absurd cc
judged_by (Some k) rs rows ls l e h =
    let tests = passed (subject_there (length rs) (length rows) k && all_below (length ls) (operands k)) (multipliers_fit k)
    (may_give rs rows ls k && same_row (given rs rows ls k) l.row) h in
    let first = and_parts (subject_there (length rs) (length rows) k) (all_below (length ls) (operands k)) tests.0 in
    let last = and_parts (may_give rs rows ls k) (same_row (given rs rows ls k) l.row) tests.2 in
    record {
      kind = k;
      fields = kind_is l.fields k e;
      there = first.0;
      earlier = first.1;
      is = sym ((same_row_decides (given rs rows ls k) l.row).0 last.1);
      cuts = judged_cuts rs rows ls k tests.1 last.0;
    }

-- a justified line is made as its kind says
pub justified_made : (rs : List Range) (rows : List Row) (ls : List Line) (l : Line) → Justified rs rows ls l → Made rs rows ls l
justified_made rs rows ls l h = judged_by (kind_of l.fields) rs rows ls l refl h

wrong_none : (r : Result (Unit {0}) Refusal) (t : ℕ) (later : Option Objection) → wrong_or r t later ≡ None → (r ≡ Ok tt) × (later ≡ None)
wrong_none (Ok u) t later h = (refl, h)
wrong_none (Err r) t later h = absurd cc

pub right_lines : (rs : List Range) (rows : List Row) (before ls : List Line) → wrong_from rs rows before ls ≡ None →
    (q : ℕ) → q < length ls → Justified rs rows (before ++ take q ls) (line_at ls q)
right_lines rs rows before [] h q k = absurd (omega arith)
right_lines rs rows before (l ∷ ls) h zero k =
    subst (λ (z : List Line). Justified rs rows z l) (sym (append-nil before)) (wrong_none (judged rs rows before l) _ _ h).0
right_lines rs rows before (l ∷ ls) h (suc q) k =
    subst (λ (z : List Line). Justified rs rows z (line_at ls q)) (append_assoc before (l ∷ []) (take q ls))
    (right_lines rs rows (before ++ l ∷ []) ls (wrong_none (judged rs rows before l) _ _ h).1 q (omega arith))

pub found_none : (b : Bool) (o : Option Objection) (c : Bool) (held : ℕ) → fit_or b (line_or o (open_unless c held)) ≡ None →
    (b ≡ true) × (o ≡ None) × (c ≡ true)
found_none false o c held h = absurd cc
found_none true (Some o) c held h = absurd cc
found_none true None false held h = absurd cc
found_none true None true held h = (refl, refl, refl)

-- the lines of an accepted log are made as their kinds say, and its last one contradicts
pub accepted_good : (rs : List Range) (rows : List Standing) (log : Logbook) → check_end rs rows log ≡ None →
    Good rs (rows_of rows) log.lines × (closes log.lines ≡ true)
accepted_good rs rows log h =
    let tests = found_none (eqb log.unknowns (length rs)) (wrong_from rs (rows_of rows) [] log.lines) (closes log.lines)
    (length log.lines) h in (
      λ q l. justified_made rs (rows_of rows) (take q log.lines) (line_at log.lines q)
          (right_lines rs (rows_of rows) [] log.lines tests.1 q l),
      tests.2,
    )

-- standing rows are met as rows
pub meets_rows : (xs : List ℤ) (rows : List Standing) → MeetsAll xs rows → MeetsRows xs (rows_of rows)
meets_rows xs rows h p l =
    All-get_or (λ r. Meets xs r) (rows_of rows) p (record { coefs = []; constant = pos 0 }) l
    (All-map (λ r. Meets xs r) (λ (s : Standing). s.row) rows h)

-- made lines of which the last contradicts exclude every assignment
pub good_excludes : (rs : List Range) (rows : List Standing) (ls : List Line) → Good rs (rows_of rows) ls → closes ls ≡ true →
    (xs : List ℤ) → Within rs xs → MeetsAll xs rows → ⊥
good_excludes rs rows ls good h xs w m =
    closes_none ls xs h (made_meets rs (rows_of rows) ls xs good w (meets_rows xs rows m))

pub accepted_right : AcceptedRight
accepted_right rs rows log h =
    let both = accepted_good rs rows log h in
    good_excludes rs rows log.lines both.0 both.1

-- a log of justified lines is made as its kinds say
justified_good : (rs : List Range) (rows : List Standing) (ls : List Line) → AllJustified rs rows ls → Good rs (rows_of rows) ls
justified_good rs rows ls h q l = justified_made rs (rows_of rows) (take q ls) (line_at ls q) (h q l)

pub lines_sound : LinesSound
lines_sound rs rows ls xs h w m q l = made_meets rs (rows_of rows) ls xs (justified_good rs rows ls h) w (meets_rows xs rows m) q l

pub log_sound : LogSound
log_sound rs rows ls h c = good_excludes rs rows ls (justified_good rs rows ls h) c
