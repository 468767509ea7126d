use Rattle.std.proofs.Common.{vec_items, ◌∙◌, rules}
use Rattle.std.proofs.lemmas.List.{with_items_is}
use Rattle.advice.proofs.Fronts.{front_orderly}
use Rattle.advice.proofs.blamers.calls.BlamingAdviser.told.Goals as goal

pub invariant_of-self : goal.invariant_of-self
invariant_of-self c =
    let v = c.args.self.now.names in
    record {
      orderly = front_orderly (vec_items v) _ c.in-Some.place c.args.unknown c.args.self.now.orderly (search rules)
          (with_items_is v c.move_to_front.new.names (search rules) ∙ search rules);
    }
