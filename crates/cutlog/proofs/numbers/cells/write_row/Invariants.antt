use Rattle.std.proofs.Common.{◌≡◌, ℕ, ◌<◌}
use Rattle.calculus.specs.Rows.{coef}
use Rattle.cutlog.specs.Cells.{entry_in}
use Rattle.cutlog.proofs.numbers.cells.write_row.Given as goal

abbrev pub invariant-loop-place : goal.invariant-loop-place
invariant-loop-place l =
    (k : ℕ) → k < l.place → (coef l.cells k ≡ coef l.row k) × (entry_in (coef l.row k) ≡ coef l.row k)
