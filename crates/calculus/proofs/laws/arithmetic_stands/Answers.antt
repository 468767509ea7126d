use Rattle.calculus.proofs.Divisors.{divides_both, greatest, common_divides, common_greatest}
use Rattle.calculus.proofs.Ints.{floor_rounds, ceiling_rounds}
use Rattle.calculus.proofs.Meeting.{double_same}
use Rattle.calculus.proofs.Reduction.{reduced_divides, reduced_same, reduced_plain, double_decides}
use Rattle.calculus.proofs.laws.arithmetic_stands.Goals as goal

pub returns : goal.returns
returns c = record {
  floor = floor_rounds;
  ceiling = ceiling_rounds;
  divides = divides_both;
  greatest = greatest;
  common_divides = common_divides;
  common_greatest = common_greatest;
  reduced_divides = reduced_divides;
  reduced_same = reduced_same;
  reduced_plain = reduced_plain;
  double_decides = double_decides;
  double_same = double_same;
}
