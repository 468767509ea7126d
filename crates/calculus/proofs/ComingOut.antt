-- How a worked run is computed: a few steps until it rests, and the steps that are left change nothing.
use Rattle.std.proofs.Common.{◌≡◌, ℕ, ◌≤◌, true, length, Ok, ap, ◌∙◌, le_trans, arith}
use Rattle.calculus.specs.Machines.{Context}
use Rattle.calculus.specs.RunLaws.{rests}
use Rattle.calculus.specs.Runs.{Progress, start, run, steps_between, enough_steps, Left, left_at, left_by, begin_answer, rows_of}
use Rattle.calculus.specs.WorkedRuns.{Case, seen, log_for, sevens, run_of, ComesOutAt}
use Rattle.calculus.proofs.Running.{run_more}

abbrev pub context : Case → ℕ → Context
context w capacity = record { ranges = w.ranges; rows = rows_of w.rows; capacity = capacity }

-- the run after k steps
abbrev pub stepped : Case → ℕ → ℕ → ℕ → Progress
stepped w budget capacity k = run (context w capacity) budget k (record { at = start (context w capacity) w.advice; made = 0 })

-- what it leaves if it stops there
abbrev pub leaves : Case → ℕ → ℕ → ℕ → Left
leaves w budget capacity k =
    left_at (stepped w budget capacity k) w.ranges (log_for (length w.ranges) capacity) (sevens (length w.ranges))

-- the run begins, and rests after k steps
abbrev pub RestsAt : Case → ℕ → ℕ → ℕ → Type 0
RestsAt w budget capacity k =
    (begin_answer w.ranges w.advice (log_for (length w.ranges) capacity) (sevens (length w.ranges)) ≡ Ok tt)
    × (k ≤ steps_between)
    × (rests (context w capacity) budget (stepped w budget capacity k) ≡ true)

-- a run that rests after a few steps leaves what it has then
pub comes_to : (w : Case) (budget capacity k : ℕ) → RestsAt w budget capacity k → run_of w budget capacity ≡ leaves w budget capacity k
comes_to w budget capacity k h =
    let c = context w capacity in
    let log = log_for (length w.ranges) capacity in
    let plan = sevens (length w.ranges) in
    let enough : steps_between ≤ enough_steps budget = omega arith in
    ap (λ r. left_by r w.ranges (rows_of w.rows) w.advice log plan budget) h.0
    ∙ ap (λ (g : Progress). left_at g w.ranges log plan)
    (run_more c budget k (enough_steps budget) (record { at = start c w.advice; made = 0 }) (le_trans h.1 enough) h.2)

pub comes_out : (w : Case) (budget capacity k : ℕ) → RestsAt w budget capacity k → seen (leaves w budget capacity k) ≡ w.result →
    ComesOutAt w budget capacity
comes_out w budget capacity k h is = ap seen (comes_to w budget capacity k h) ∙ is
