use Rattle.std.proofs.Common.{◌∙◌, length, sym, ap, rules}
use Rattle.script.proofs.Cutting.{first_word, no_word}
use Rattle.script.proofs.words.WordsIterator.next.Goals as goal

pub returns-in_err-start-clause-steps : goal.returns-in_err-start-clause-steps
returns-in_err-start-clause-steps c =
    let none = sym c.self.view_is ∙ no_word c.self.inside.rest.now (search rules) in
    rw c.from_residual.ensures (none, none)

pub returns-clause-steps : goal.returns-clause-steps
returns-clause-steps c =
    let cut = first_word c.self.inside.rest.now c.in_ok-start.start c.unwrap_or-end.result (search rules) (search rules) (search rules) (search rules, search rules) in
    let e = c.split_at.ensures in
    sym c.self.view_is ∙ rw (e.front, e.back) cut

pub returns-clause-goes : goal.returns-clause-goes
returns-clause-goes c = let fewer = ap length (returns-clause-steps c) in (search rules)
