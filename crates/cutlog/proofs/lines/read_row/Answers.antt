use Rattle.std.proofs.Common.{length, pos, arith}
use Rattle.calculus.specs.Logs.{entries, line_row}
use Rattle.calculus.specs.Rows.{coef}
use Rattle.cutlog.proofs.Held.{table_of}
use Rattle.cutlog.proofs.lines.read_row.Goals as goal

pub returns : goal.returns
returns g c =
    let held = line_row (g.L.Log.book c.args.log.now).lines c.args.line in
    table_of c.loop-e.row (coef (entries held)) (length c.args.row.now) (pos 0)
    c.loop-e.auto.row (λ k l. c.loop-e.invariant k (omega arith))
