use Rattle.std.proofs.Common.{arith}
use Rattle.calculus.specs.Arithmetic.{floor}
use Rattle.calculus.specs.Rows.{row_divisor}
use Rattle.forms.proofs.Coefficients.{same_pairs, same_apart}
use Rattle.forms.proofs.doubles.Reduced.has_coefficients_of.Goals as goal

pub returns-then-self-other : goal.returns-then-self-other
returns-then-self-other c =
    let cs = c.args.self.now.row.coefs in
    let ds = c.args.other.now.row.coefs in
    let pairs = same_pairs (λ z. floor z (row_divisor cs)) (λ z. floor z (row_divisor ds)) cs ds in
    grind (arith, pairs)

pub returns-else-self-other : goal.returns-else-self-other
returns-else-self-other c =
    let cs = c.args.self.now.row.coefs in
    let ds = c.args.other.now.row.coefs in
    let apart = same_apart (λ z. floor z (row_divisor cs)) (λ z. floor z (row_divisor ds)) cs ds in
    grind (arith, apart)
