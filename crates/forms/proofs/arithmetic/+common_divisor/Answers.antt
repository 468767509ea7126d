use Rattle.std.proofs.Common.{sym, ap, ◌∙◌, arith}
use Rattle.calculus.proofs.Divisors.{divisor_zero, divisor_step}
use Rattle.calculus.specs.Arithmetic.{divisor}
use Rattle.forms.proofs.arithmetic.+common_divisor.Goals as goal

pub returns-then-b-eq0 : goal.returns-then-b-eq0
returns-then-b-eq0 t c = sym (divisor_zero c.args.a) ∙ ap (divisor c.args.a) (sym c.if-b-eq0.true)

pub returns-else-b-eq0 : goal.returns-else-b-eq0
returns-else-b-eq0 t c = c.common_divisor.ensures ∙ sym (divisor_step c.args.a c.args.b (omega arith))
