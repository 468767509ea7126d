-- What a check answers: accepted just where every line is justified and the last one contradicts, and each objection with its reason.
-- It rests on `Accepting` and `SoundLogs`.
use Rattle.std.proofs.Common.{◌≡◌, ℕ, zero, suc, ◌+◌, ◌<◌, ◌≤◌, Bool, true, false, eqb, ltb, List, [], ◌∷◌, ◌++◌, length, take, Some, None, Ok, Err, Option, Result, sym, refl, ap, ◌∙◌, subst, arith, eq-eqb}
use Rattle.std.proofs.lemmas.List.{append-nil, append_assoc, length-append}
use Rattle.std.proofs.lemmas.Bool.{and_parts, ltb-true, eqb-true, both_ways}
use Rattle.calculus.specs.CheckLaws.{AcceptsRight, MisfitIs, FirstWrong, OpenIs}
use Rattle.calculus.specs.Checking.{judged, Justified, wrong_or, wrong_from, closes, open_unless, line_or, fit_or, check_end}
use Rattle.calculus.specs.Logs.{Line, Logbook, line_at}
use Rattle.calculus.specs.Rows.{Row, Standing}
use Rattle.calculus.specs.Runs.{rows_of}
use Rattle.calculus.specs.declared.endings.Objection.{Objection}
use Rattle.calculus.specs.declared.endings.Objection.TheVariants.{Misfit, Wrong, Open}
use Rattle.calculus.specs.declared.ranges.Range.{Range}
use Rattle.calculus.specs.declared.refusals.Refusal.{Refusal}
use Rattle.calculus.proofs.Accepting.{none_wrong, found_nothing}
use Rattle.calculus.proofs.SoundLogs.{right_lines, found_none}

-- The first wrong line, after the lines before.
record Wrongs (rs : List Range) (rows : List Row) (before ls : List Line) (o : Objection) : Type 0 where
  pub at : ℕ
  pub refusal : Refusal
  pub is : o ≡ Wrong refusal (length before + at)
  pub held : at < length ls
  pub wrong : judged rs rows (before ++ take at ls) (line_at ls at) ≡ Err refusal
  pub right : (q : ℕ) → q < at → Justified rs rows (before ++ take q ls) (line_at ls q)

module _ (rs : List Range) (rows : List Row) (before : List Line) (l : Line) (ls : List Line) (o : Objection) where
  -- the line itself, or one of those that follow
  wrongs_by : (r : Result (Unit {0}) Refusal) → judged rs rows before l ≡ r →
      wrong_or r (length before) (wrong_from rs rows (before ++ l ∷ []) ls) ≡ Some o →
      (wrong_from rs rows (before ++ l ∷ []) ls ≡ Some o → Wrongs rs rows (before ++ l ∷ []) ls o) → Wrongs rs rows before (l ∷ ls) o
  wrongs_by (Err r) e h later = record {
    at = 0;
    refusal = r;
    is = (let z : o ≡ Wrong r (length before) = cc in z) ∙ ap (Wrong r) (let n : length before ≡ length before + 0 = omega arith in n);
    held = omega arith;
    wrong = subst (λ (z : List Line). judged rs rows z l ≡ Err r) (sym (append-nil before)) e;
    right = λ q k. absurd (omega arith);
  }
  wrongs_by (Ok u) e h later =
      let w = later h in
      let long = length-append before (l ∷ []) in
      let less = w.held in
      record {
        at = suc w.at;
        refusal = w.refusal;
        is = w.is ∙ ap (Wrong w.refusal) (let n : length (before ++ l ∷ []) + w.at ≡ length before + suc w.at = omega arith in n);
        held = omega arith;
        wrong = subst (λ (z : List Line). judged rs rows z (line_at ls w.at) ≡ Err w.refusal)
            (append_assoc before (l ∷ []) (take w.at ls)) w.wrong;
        right = shifted w;
      }
    where
      shifted : (w : Wrongs rs rows (before ++ l ∷ []) ls o) (q : ℕ) → q < suc w.at →
          Justified rs rows (before ++ take q (l ∷ ls)) (line_at (l ∷ ls) q)
      shifted w zero k = subst (λ (z : List Line). Justified rs rows z l) (sym (append-nil before)) e
      shifted w (suc q) k =
          subst (λ (z : List Line). Justified rs rows z (line_at ls q)) (append_assoc before (l ∷ []) (take q ls))
          (w.right q (omega arith))

wrongs : (rs : List Range) (rows : List Row) (before ls : List Line) (o : Objection) → wrong_from rs rows before ls ≡ Some o →
    Wrongs rs rows before ls o
wrongs rs rows before [] o h = absurd cc
wrongs rs rows before (l ∷ ls) o h =
    wrongs_by rs rows before l ls o (judged rs rows before l) refl h (wrongs rs rows (before ++ l ∷ []) ls o)

-- ---- the whole check

-- where an objection comes from
pub data Origin (b : Bool) (w : Option Objection) (c : Bool) (held : ℕ) (o : Objection) : Type 0 where
  unfit : b ≡ false → o ≡ Misfit → Origin b w c held o
  wrong_line : w ≡ Some o → Origin b w c held o
  still_open : w ≡ None → c ≡ false → o ≡ Open held → Origin b w c held o

origin : (b : Bool) (w : Option Objection) (c : Bool) (held : ℕ) (o : Objection) →
    fit_or b (line_or w (open_unless c held)) ≡ Some o → Origin b w c held o
origin false w c held o h = unfit refl (let z : o ≡ Misfit = cc in z)
origin true (Some p) c held o h = wrong_line h
origin true None false held o h = still_open refl refl (let z : o ≡ Open held = cc in z)
origin true None true held o h = absurd cc

origin_of : (rs : List Range) (rows : List Standing) (log : Logbook) (o : Objection) → check_end rs rows log ≡ Some o →
    Origin (eqb log.unknowns (length rs)) (wrong_from rs (rows_of rows) [] log.lines) (closes log.lines) (length log.lines) o
origin_of rs rows log o h = origin _ _ _ _ o h

closes_some : (ls : List Line) → closes ls ≡ true → 1 ≤ length ls
closes_some ls h = ltb-true 0 (length ls) (and_parts (ltb 0 (length ls)) _ h).0

pub accepts_right : AcceptsRight
accepts_right rs rows log =
    let ls = log.lines in
    let parts : check_end rs rows log ≡ None →
    (eqb log.unknowns (length rs) ≡ true) × (wrong_from rs (rows_of rows) [] ls ≡ None) × (closes ls ≡ true) =
    λ h. found_none (eqb log.unknowns (length rs)) (wrong_from rs (rows_of rows) [] ls) (closes ls) (length ls) h in (
      λ h. (
        eqb-true log.unknowns (length rs) (parts h).0,
        right_lines rs (rows_of rows) [] ls (parts h).1,
        (parts h).2,
      ),
      λ n each h. found_nothing (eqb log.unknowns (length rs)) (wrong_from rs (rows_of rows) [] ls) (closes ls) (length ls)
          (eq-eqb log.unknowns (length rs) n) (none_wrong rs (rows_of rows) [] ls each) h,
      λ h. (closes_some ls (parts h).2, omega arith),
    )

pub misfit_is : MisfitIs
misfit_is rs rows log h n = by (origin_of rs rows log Misfit h)
  where
    by : Origin (eqb log.unknowns (length rs)) (wrong_from rs (rows_of rows) [] log.lines) (closes log.lines) (length log.lines)
        Misfit → ⊥
    by (unfit e f) = both_ways _ e (eq-eqb log.unknowns (length rs) n)
    by (wrong_line e) = let w = wrongs rs (rows_of rows) [] log.lines Misfit e in let i = w.is in
        absurd cc
    by (still_open e f g) = absurd cc

pub first_wrong : FirstWrong
first_wrong rs rows log r t h = by (origin_of rs rows log (Wrong r t) h)
  where
    ls : List Line
    ls = log.lines

    by : Origin (eqb log.unknowns (length rs)) (wrong_from rs (rows_of rows) [] log.lines) (closes log.lines) (length log.lines)
        (Wrong r t) →
        (t < length log.lines) × (judged rs (rows_of rows) (take t log.lines) (line_at log.lines t) ≡ Err r)
        × ((q : ℕ) → q < t → Justified rs (rows_of rows) (take q log.lines) (line_at log.lines q))
    by (unfit e f) = absurd cc
    by (still_open e f g) = absurd cc
    by (wrong_line e) =
        let w = wrongs rs (rows_of rows) [] log.lines (Wrong r t) e in
        let i = w.is in
        let same : r ≡ w.refusal = cc in
        let place : t ≡ 0 + w.at = cc in
        let here : w.at ≡ t = omega arith in
        let less = w.held in (
          omega arith,
          subst (λ (k : ℕ). judged rs (rows_of rows) (take k log.lines) (line_at log.lines k) ≡ Err r) here
              (w.wrong ∙ ap (λ (f : Refusal). Err f) (sym same)),
          λ q k. w.right q (omega arith),
        )

pub open_is : OpenIs
open_is rs rows log held h = by (origin_of rs rows log (Open held) h)
  where
    by : Origin (eqb log.unknowns (length rs)) (wrong_from rs (rows_of rows) [] log.lines) (closes log.lines) (length log.lines)
        (Open held) →
        (held ≡ length log.lines)
        × ((q : ℕ) → q < length log.lines → Justified rs (rows_of rows) (take q log.lines) (line_at log.lines q))
        × (closes log.lines ≡ false)
    by (unfit e f) = absurd cc
    by (wrong_line e) = let w = wrongs rs (rows_of rows) [] log.lines (Open held) e in let i = w.is in
        absurd cc
    by (still_open e f g) = (let z : held ≡ length log.lines = cc in z, right_lines rs (rows_of rows) [] log.lines e, f)
