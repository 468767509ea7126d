use Rattle.calculus.proofs.Meeting.{within_each, meets_each, meets_together, meets_first, meets_part}
use Rattle.calculus.proofs.laws.meeting_stands.Goals as goal

pub returns : goal.returns
returns c = record {
  within_each = within_each;
  meets_each = meets_each;
  meets_together = meets_together;
  meets_first = meets_first;
  meets_part = meets_part;
}
