use Rattle.std.proofs.Common.{◌<◌, ◌∙◌, length, sym, ap, rules}
use Rattle.day.proofs.Cutting.{cut_at, last_line}
use Rattle.day.proofs.lines.LinesIterator.next.Goals as goal

pub returns-in_default-clause-steps : goal.returns-in_default-clause-steps
returns-in_default-clause-steps c =
    let some : 0 < length c.self.inside.rest.now = search rules in
    let cut = last_line c.self.inside.rest.now some (search rules) in
    sym c.self.view_is ∙ rw (c.take.ensures.value, c.take.ensures.after) cut

pub returns-clause-steps : goal.returns-clause-steps
returns-clause-steps c =
    let cut = cut_at c.self.inside.rest.now c.in-Some.end (search rules) (search rules) (search rules) in
    sym c.self.view_is ∙ cut

pub returns-clause-goes : goal.returns-clause-goes
returns-clause-goes c = let fewer = ap length (returns-clause-steps c) in (search rules)
