use Rattle.day.proofs.Staying.{refused_stays, misplaced_stays, lines_whole, lines_keep, begins_alike, stops_alike}
use Rattle.day.proofs.laws.day_stands.Goals as goal

pub returns : goal.returns
returns c = record {
  refused_stays = refused_stays;
  misplaced_stays = misplaced_stays;
  lines_whole = lines_whole;
  lines_keep = lines_keep;
  begins_alike = begins_alike;
  stops_alike = stops_alike;
}
