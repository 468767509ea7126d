-- After none: every line is justified, a check accepts the log, and no assignment is left. It rests on the run's invariant with its log,
-- on the limits of lines, and on the soundness of logs.
use Rattle.std.proofs.Common.{◌≡◌, ℕ, zero, suc, ◌≤◌, true, not, eqb, List, [], ◌∷◌, length, ℤ, pos, None, Ok, Err, Result, refl, le_trans, arith}
use Rattle.std.specs.List.{AllByRecursion}
use Rattle.std.proofs.lemmas.List.{length-map, get_or_past}
use Rattle.std.proofs.lemmas.Bool.{eqb-true}
use Rattle.calculus.specs.Advice.{Advice, advised}
use Rattle.calculus.specs.Bounds.{Trail, row_at}
use Rattle.calculus.specs.Checking.{closes, check_end}
use Rattle.calculus.specs.Limits.{most_rows, most_lines}
use Rattle.calculus.specs.Logs.{Line, Logbook, with_lines}
use Rattle.calculus.specs.Machines.{Context, Phase, looking, repairing, ended, Machine}
use Rattle.calculus.specs.Promises.{FitRanges, FitRows, Excluded, AllJustified, FieldsFit, NoneRight, LineFits, LinesRight}
use Rattle.calculus.specs.Rows.{Standing}
use Rattle.calculus.specs.Runs.{whole_run, ending_of, left_by, rows_of, begin_answer}
use Rattle.calculus.specs.declared.endings.Ending.TheVariants.{Plan, NoPlan, Refused}
use Rattle.calculus.specs.declared.ranges.Range.{Range}
use Rattle.calculus.specs.declared.refusals.Refusal.{Refusal}
use Rattle.calculus.proofs.Accepting.{good_justified, good_accepted, good_fields}
use Rattle.calculus.proofs.Covering.{Bare}
use Rattle.calculus.proofs.Firm.{fit_order}
use Rattle.calculus.proofs.Good.{Good, Slim}
use Rattle.calculus.proofs.GoodLogs.{Sound}
use Rattle.calculus.proofs.Keeping.{Well}
use Rattle.calculus.proofs.Running.{whole_room, begins_fit, context_of}
use Rattle.calculus.proofs.SlimRuns.{run_slim}
use Rattle.calculus.proofs.SoundLogs.{good_excludes}
use Rattle.calculus.proofs.Starting.{FitContext, whole_well}

-- rows with one coefficient for each unknown have none past the unknowns
pub thin_rows : (n : ℕ) (rows : List Standing) → AllByRecursion (λ s. length s.row.coefs ≡ n) rows → (p : ℕ) →
    Bare n (row_at (rows_of rows) p)
thin_rows n [] h p y l = refl
thin_rows n (s ∷ rows) h zero y l = let e = h.0 in get_or_past s.row.coefs y (pos 0) (omega arith)
thin_rows n (s ∷ rows) h (suc p) y l = thin_rows n rows h.1 p y l

-- whatever a run ends in, its lines are sound
phase_sound : (p : Phase) (c : Context) (t : Trail) (ls : List Line) → Well c p t ls → Sound c.ranges c.rows ls
phase_sound looking c t ls w = w.0.sound
phase_sound (repairing j line place) c t ls w = w.backing.sound
phase_sound (ended Plan) c t ls w = w
phase_sound (ended NoPlan) c t ls w = w.0
phase_sound (ended (Refused r)) c t ls w = w

-- slim lines with fitting fields fit
lines_fit : (n : ℕ) (ls : List Line) → AllByRecursion (Slim n) ls → AllByRecursion (λ l. FieldsFit l.fields) ls →
    AllByRecursion (LineFits n) ls
lines_fit n [] s f = tt
lines_fit n (l ∷ ls) s f = ((f.0, s.0.shaped, s.0.fit), lines_fit n ls s.1 f.1)

-- What holds of the lines of every run.
record RunLines (rs : List Range) (rows : List Standing) (ls : List Line) : Type 0 where
  pub good : Good rs (rows_of rows) ls
  pub slim : AllByRecursion (Slim (length rs)) ls
  pub fit : AllByRecursion (LineFits (length rs)) ls

fit_context : (rs : List Range) (rows : List Standing) (log : Logbook) → FitRanges rs → FitRows rs rows →
    FitContext (context_of rs (rows_of rows) log)
fit_context rs rows log fr fs = record { order = fit_order rs fr; thin = thin_rows (length rs) rows fs.shaped }

run_lines : (rs : List Range) (rows : List Standing) (a : Advice) (log : Logbook) (budget : ℕ) → FitRanges rs → FitRows rs rows →
    log.capacity ≤ most_lines → RunLines rs rows (whole_run (context_of rs (rows_of rows) log) budget a).at.lines
run_lines rs rows a log budget fr fs most =
    let c = context_of rs (rows_of rows) log in
    let g = whole_run c budget a in
    let sound = phase_sound g.at.phase c g.at.trail g.at.lines (whole_well c budget a (fit_context rs rows log fr fs)) in
    let slim = run_slim rs rows log.capacity budget a fr fs in
    let few : length (rows_of rows) ≤ most_rows = let l = length-map rows (λ s. s.row) in let k = fs.few in omega arith in
    record {
      good = sound.good;
      slim = slim;
      fit = lines_fit (length rs) g.at.lines slim
          (good_fields rs (rows_of rows) g.at.lines sound.good slim fr.few few (le_trans (whole_room c budget a) most));
    }

lines_by : (r : Result (Unit {0}) Refusal) (rs : List Range) (rows : List Standing) (a : Advice) (log : Logbook) (plan : List ℤ)
    (budget : ℕ) → FitRanges rs → FitRows rs rows → log.capacity ≤ most_lines → r ≡ Ok tt →
    let end = left_by r rs (rows_of rows) a log plan budget in
    AllJustified rs rows end.log.lines × AllByRecursion (LineFits (length rs)) end.log.lines
lines_by (Err r) rs rows a log plan budget fr fs most e = absurd cc
lines_by (Ok u) rs rows a log plan budget fr fs most e =
    let l = run_lines rs rows a log budget fr fs most in
    (good_justified rs (rows_of rows) _ l.good l.slim, l.fit)

pub lines_right : LinesRight
lines_right rs rows a log plan budget fr fs most e = lines_by (begin_answer rs a log plan) rs rows a log plan budget fr fs most e

-- the phase of a run that ends in none
none_well : (p : Phase) (c : Context) (m : Machine) → m.phase ≡ p → ending_of p ≡ NoPlan → Well c p m.trail m.lines →
    Sound c.ranges c.rows m.lines × (closes m.lines ≡ true)
none_well looking c m h e w = absurd cc
none_well (repairing j line place) c m h e w = absurd cc
none_well (ended Plan) c m h e w = absurd cc
none_well (ended NoPlan) c m h e w = w
none_well (ended (Refused r)) c m h e w = absurd cc

-- what is promised of the lines after none
abbrev Shown : List Range → List Standing → Logbook → Type 0
Shown rs rows log =
    AllJustified rs rows log.lines
    × AllByRecursion (LineFits (length rs)) log.lines
    × (closes log.lines ≡ true)
    × (check_end rs rows log ≡ None)
    × Excluded rs rows

shown : (rs : List Range) (rows : List Standing) (a : Advice) (log : Logbook) (budget : ℕ) → FitRanges rs → FitRows rs rows →
    log.unknowns ≡ length rs → log.capacity ≤ most_lines →
    ending_of (whole_run (context_of rs (rows_of rows) log) budget a).at.phase ≡ NoPlan →
    Shown rs rows (with_lines log (whole_run (context_of rs (rows_of rows) log) budget a).at.lines)
shown rs rows a log budget fr fs same most e =
    let c = context_of rs (rows_of rows) log in
    let g = whole_run c budget a in
    let well = whole_well c budget a (fit_context rs rows log fr fs) in
    let lines = run_lines rs rows a log budget fr fs most in
    let none = none_well g.at.phase c g.at refl e well in
    let accepted = good_accepted rs rows (with_lines log g.at.lines) lines.good lines.slim none.1 same in (
      accepted.1,
      lines.fit,
      none.1,
      accepted.0,
      good_excludes rs rows g.at.lines none.0.good none.1,
    )

none_by : (r : Result (Unit {0}) Refusal) (rs : List Range) (rows : List Standing) (a : Advice) (log : Logbook) (plan : List ℤ)
    (budget : ℕ) →
    FitRanges rs → FitRows rs rows → log.capacity ≤ most_lines → (r ≡ Ok tt → log.unknowns ≡ length rs) →
    (left_by r rs (rows_of rows) a log plan budget).ending ≡ NoPlan → Shown rs rows (left_by r rs (rows_of rows) a log plan budget).log
none_by (Err r) rs rows a log plan budget fr fs most same e = absurd cc
none_by (Ok u) rs rows a log plan budget fr fs most same e = shown rs rows a log budget fr fs (same refl) most e

pub none_right : NoneRight
none_right rs rows a log plan budget fr fs most e =
    none_by (begin_answer rs a log plan) rs rows a log plan budget fr fs most
    (λ h. eqb-true log.unknowns (length rs)
    (begins_fit (not (eqb (length plan) (length rs))) (eqb (advised a) (length rs)) (eqb log.unknowns (length rs)) tt h).1) e
