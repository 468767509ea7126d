use Rattle.std.proofs.Common.{pos, arith}
use Rattle.std.proofs.lemmas.List.{ext_get_or}
use Rattle.cutlog.proofs.numbers.cells.write_row.Goals as goal

pub returns-clause-cells : goal.returns-clause-cells
returns-clause-cells c =
    ext_get_or (pos 0) c.loop-place.cells c.args.row.now (omega (arith, c.requires)) (λ k l. (c.loop-place.invariant k (omega arith)).0)
