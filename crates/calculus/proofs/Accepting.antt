-- Logs are accepted: lines that are made as their kinds say and keep to their limits are justified and fit their fields, and a log of
-- them whose last line contradicts passes a check. Rests on Good and on Reduction.
use Rattle.std.proofs.Common.{◌≡◌, ℕ, suc, ◌<◌, ◌≤◌, Bool, true, not, ◌&&◌, eqb, ltb, List, [], ◌∷◌, ◌++◌, length, take, Some, None, Ok, Option, Result, sym, refl, ap, ◌∙◌, subst, arith}
use Rattle.std.specs.List.{AllByRecursion}
use Rattle.std.proofs.ByRecursion.{All-get_or, All-from_get_or}
use Rattle.std.proofs.lemmas.List.{append-nil, append_assoc, length-take-le}
use Rattle.std.proofs.lemmas.Bool.{and_parts, and_from, ltb-true, lt-ltb, le-leb, eq-eqb}
use Rattle.std.proofs.lemmas.Bool.Decides.{nat_tests}
use Rattle.calculus.specs.Account.{when, answered}
use Rattle.calculus.specs.Checking.{same_fields, kind_or, kind_of, operands, all_below, subject_there, given, may_give}
use Rattle.calculus.specs.Checking.{multipliers_fit, judged_kind, judged, Justified, wrong_or, wrong_from, closes}
use Rattle.calculus.specs.Checking.{open_unless, line_or, fit_or, check_end}
use Rattle.calculus.specs.Limits.{multiplier_limit, most_unknowns, most_rows, most_lines}
use Rattle.calculus.specs.Logs.{Line, Logbook, fields_of, no_line, line_at}
use Rattle.calculus.specs.Promises.{AllJustified, FieldsFit}
use Rattle.calculus.specs.Rows.{Row, Standing, same_row}
use Rattle.calculus.specs.Runs.{rows_of}
use Rattle.calculus.specs.Tightening.{fits}
use Rattle.calculus.specs.declared.endings.Objection.{Objection}
use Rattle.calculus.specs.declared.kinds.Fields.{Fields}
use Rattle.calculus.specs.declared.kinds.Kind.{Kind}
use Rattle.calculus.specs.declared.kinds.Kind.TheVariants.{Low, High, Row as Placed, Sum, Cut}
use Rattle.calculus.specs.declared.ranges.Range.{Range}
use Rattle.calculus.specs.declared.refusals.Refusal.{Refusal}
use Rattle.calculus.specs.declared.refusals.Refusal.TheVariants.{Operand, Multiplier, Mismatch}
use Rattle.calculus.proofs.Good.{CutsWell, Made, Good, Slim}
use Rattle.calculus.proofs.Reduction.{same_row_decides}

-- ---- the kind of a line

same_fields_again : (f : Fields) → same_fields f f ≡ true
same_fields_again f = grind (arith, nat_tests)

kind_first : (k : Kind) (later : Option Kind) → kind_or (same_fields (fields_of k) (fields_of k)) k later ≡ Some k
kind_first k later = ap (λ (b : Bool). kind_or b k later) (same_fields_again (fields_of k))

-- the fields of a kind are those of no other
pub kind_again : (k : Kind) → kind_of (fields_of k) ≡ Some k
kind_again (Low x) = kind_first (Low x) _
kind_again (High x) = kind_first (High x) _
kind_again (Placed p) = kind_first (Placed p) _
kind_again (Sum a b k m) = kind_first (Sum a b k m) _
kind_again (Cut a k) = kind_first (Cut a k) _

-- ---- one line

multipliers_slim : (ls : List Line) (k : Kind) → CutsWell ls k → (fields_of k).k ≤ multiplier_limit → (fields_of k).m ≤ multiplier_limit →
    multipliers_fit k ≡ true
multipliers_slim ls (Low x) c p q = refl
multipliers_slim ls (High x) c p q = refl
multipliers_slim ls (Placed y) c p q = refl
multipliers_slim ls (Sum a b k m) c p q = and_from _ _ (le-leb k multiplier_limit p) (le-leb m multiplier_limit q)
multipliers_slim ls (Cut a k) c p q = and_from _ _ (lt-ltb 0 k c.0) (le-leb k multiplier_limit p)

may_slim : (rs : List Range) (rows : List Row) (ls : List Line) (k : Kind) → CutsWell ls k → fits (given rs rows ls k) ≡ true →
    may_give rs rows ls k ≡ true
may_slim rs rows ls (Low x) c f = refl
may_slim rs rows ls (High x) c f = refl
may_slim rs rows ls (Placed y) c f = refl
may_slim rs rows ls (Sum a b k m) c f = f
may_slim rs rows ls (Cut a k) c f = c.1

passes : (a b c : Bool) → a ≡ true → b ≡ true → c ≡ true →
    answered {A = Unit {0}} (when (not a) Operand ∷ when (not b) Multiplier ∷ when (not c) Mismatch ∷ []) tt ≡ Ok tt
passes a b c p q r =
    λ i. answered {A = Unit {0}} (when (not (p i)) Operand ∷ when (not (q i)) Multiplier ∷ when (not (r i)) Mismatch ∷ []) tt

-- a line that is made as its kind says and keeps to its limits is justified
pub made_justified : (rs : List Range) (rows : List Row) (ls : List Line) (l : Line) → Made rs rows ls l → Slim (length rs) l →
    Justified rs rows ls l
made_justified rs rows ls l made slim =
    let k = made.kind in
    let kinds : kind_of l.fields ≡ Some k = ap kind_of made.fields ∙ kind_again k in
    let kf : (fields_of k).k ≤ multiplier_limit = subst (λ (f : Fields). f.k ≤ multiplier_limit) made.fields slim.k_fits in
    let mf : (fields_of k).m ≤ multiplier_limit = subst (λ (f : Fields). f.m ≤ multiplier_limit) made.fields slim.m_fits in
    let rowfits : fits (given rs rows ls k) ≡ true = subst (λ (r : Row). fits r ≡ true) made.is slim.fit in
    ap (λ (o : Option Kind). judged_kind o rs rows ls l.row) kinds
    ∙ passes (subject_there (length rs) (length rows) k && all_below (length ls) (operands k)) (multipliers_fit k)
    (may_give rs rows ls k && same_row (given rs rows ls k) l.row)
    (and_from _ _ made.there made.earlier)
    (multipliers_slim ls k made.cuts kf mf)
    (and_from _ _ (may_slim rs rows ls k made.cuts rowfits) ((same_row_decides (given rs rows ls k) l.row).1 (sym made.is)))

-- ---- a whole log

pub good_justified : (rs : List Range) (rows : List Row) (ls : List Line) → Good rs rows ls → AllByRecursion (Slim (length rs)) ls →
    (q : ℕ) → q < length ls → Justified rs rows (take q ls) (line_at ls q)
good_justified rs rows ls good slim q l =
    made_justified rs rows (take q ls) (line_at ls q) (good q l) (All-get_or (Slim (length rs)) ls q no_line l slim)

pub none_wrong : (rs : List Range) (rows : List Row) (before ls : List Line) →
    ((q : ℕ) → q < length ls → Justified rs rows (before ++ take q ls) (line_at ls q)) → wrong_from rs rows before ls ≡ None
none_wrong rs rows before [] h = refl
none_wrong rs rows before (l ∷ ls) h =
    let first : judged rs rows before l ≡ Ok tt =
    subst (λ (z : List Line). Justified rs rows z l) (append-nil before) (h 0 (omega arith)) in
    ap (λ (r : Result (Unit {0}) Refusal). wrong_or r (length before) (wrong_from rs rows (before ++ l ∷ []) ls)) first
    ∙ none_wrong rs rows (before ++ l ∷ []) ls
    (λ q k. subst (λ (z : List Line). Justified rs rows z (line_at ls q)) (sym (append_assoc before (l ∷ []) (take q ls)))
    (h (suc q) (omega arith)))

pub found_nothing : (b : Bool) (o : Option Objection) (c : Bool) (held : ℕ) → b ≡ true → o ≡ None → c ≡ true →
    fit_or b (line_or o (open_unless c held)) ≡ None
found_nothing b o c held p q r = λ i. fit_or (p i) (line_or (q i) (open_unless (r i) held))

-- a check accepts a log of such lines whose last one contradicts, and each of them is justified
pub good_accepted : (rs : List Range) (rows : List Standing) (log : Logbook) → Good rs (rows_of rows) log.lines →
    AllByRecursion (Slim (length rs)) log.lines → closes log.lines ≡ true → log.unknowns ≡ length rs →
    (check_end rs rows log ≡ None) × AllJustified rs rows log.lines
good_accepted rs rows log good slim h n =
    let each = good_justified rs (rows_of rows) log.lines good slim in (
      found_nothing (eqb log.unknowns (length rs)) (wrong_from rs (rows_of rows) [] log.lines) (closes log.lines)
          (length log.lines) (eq-eqb log.unknowns (length rs) n) (none_wrong rs (rows_of rows) [] log.lines each) h,
      each,
    )

-- ---- the fields of lines

kind_fits : (k : Kind) (n rows t : ℕ) → n ≤ most_unknowns → rows ≤ most_rows → t ≤ most_lines → subject_there n rows k ≡ true →
    all_below t (operands k) ≡ true → (fields_of k).k ≤ multiplier_limit → (fields_of k).m ≤ multiplier_limit → FieldsFit (fields_of k)
kind_fits (Low x) n rows t a b c there below p q =
    let l = ltb-true x n there in (omega arith, omega arith, omega arith, omega arith, omega arith)
kind_fits (High x) n rows t a b c there below p q =
    let l = ltb-true x n there in (omega arith, omega arith, omega arith, omega arith, omega arith)
kind_fits (Placed y) n rows t a b c there below p q =
    let l = ltb-true y rows there in (omega arith, omega arith, omega arith, omega arith, omega arith)
kind_fits (Sum i j k m) n rows t a b c there below p q =
    let both = and_parts (ltb i t) (ltb j t && true) below in
    let first = ltb-true i t both.0 in
    let second = ltb-true j t (and_parts (ltb j t) true both.1).0 in
    (omega arith, omega arith, omega arith, omega arith, omega arith)
kind_fits (Cut i k) n rows t a b c there below p q =
    let first = ltb-true i t (and_parts (ltb i t) true below).0 in
    (omega arith, omega arith, omega arith, omega arith, omega arith)

pub made_fields : (rs : List Range) (rows : List Row) (ls : List Line) (l : Line) → Made rs rows ls l → Slim (length rs) l →
    length rs ≤ most_unknowns → length rows ≤ most_rows → length ls ≤ most_lines → FieldsFit l.fields
made_fields rs rows ls l made slim a b c =
    subst FieldsFit (sym made.fields)
    (kind_fits made.kind (length rs) (length rows) (length ls) a b c made.there made.earlier
    (subst (λ (f : Fields). f.k ≤ multiplier_limit) made.fields slim.k_fits)
    (subst (λ (f : Fields). f.m ≤ multiplier_limit) made.fields slim.m_fits))

-- the fields of every line fit
pub good_fields : (rs : List Range) (rows : List Row) (ls : List Line) → Good rs rows ls → AllByRecursion (Slim (length rs)) ls →
    length rs ≤ most_unknowns → length rows ≤ most_rows → length ls ≤ most_lines → AllByRecursion (λ l. FieldsFit l.fields) ls
good_fields rs rows ls good slim a b c =
    All-from_get_or (λ l. FieldsFit l.fields) ls no_line
    (λ q l. let long = length-take-le q ls (omega arith) in
    made_fields rs rows (take q ls) (line_at ls q) (good q l) (All-get_or (Slim (length rs)) ls q no_line l slim) a b (omega arith))
