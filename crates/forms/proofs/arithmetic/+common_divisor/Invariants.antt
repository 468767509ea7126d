use Rattle.forms.proofs.arithmetic.+common_divisor.Given as goal

abbrev pub decreases-common-divisor : goal.decreases-common-divisor
decreases-common-divisor l = l.b
