use Rattle.calculus.proofs.Cases.{reduces_out, doubles_out, rounds_out, ends_out}
use Rattle.calculus.proofs.laws.worked_cases_stand.Goals as goal

pub returns : goal.returns
returns c = record { reduces = reduces_out; doubles = doubles_out; rounds = rounds_out; ends_included = ends_out }
