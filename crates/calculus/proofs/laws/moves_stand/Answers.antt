use Rattle.calculus.proofs.BetterBounds.{better_is_last}
use Rattle.calculus.proofs.Firsts.{first_conflict, first_pair}
use Rattle.calculus.proofs.Moves.{least_number, plus_is_sum, decision_fixes, one_of_three, three_move, never_two}
use Rattle.calculus.proofs.laws.moves_stand.Goals as goal

pub returns : goal.returns
returns c = record {
  better_is_last = better_is_last;
  first_conflict = first_conflict;
  first_pair = first_pair;
  least_number = least_number;
  plus_is_sum = plus_is_sum;
  decision_fixes = decision_fixes;
  one_of_three = one_of_three;
  three_move = three_move;
  never_two = never_two;
}
