use Rattle.std.proofs.Common.{◌≡◌, ℕ, ◌<◌}
use Rattle.calculus.specs.Logs.{entries, line_row}
use Rattle.calculus.specs.Rows.{coef}
use Rattle.cutlog.proofs.lines.read_row.Given as goal

abbrev pub invariant-loop-e : goal.invariant-loop-e
invariant-loop-e g l = (k : ℕ) → k < l.e → coef l.row k ≡ coef (entries (line_row (g.L.Log.book l.log).lines l.line)) k
