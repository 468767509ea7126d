use Rattle.std.proofs.Common.{vec_items}
use Rattle.advice.proofs.Fronts.{first_orderly}
use Rattle.advice.proofs.blamers.Blaming.new.Goals as goal

pub invariant_of-result : goal.invariant_of-result
invariant_of-result c =
    record { orderly = first_orderly c.args.unknowns (vec_items c.in_ok-names.names) c.in_ok-names.ensures }
