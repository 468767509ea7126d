use Rattle.std.proofs.Common.{◌≤◌, subst}
use Rattle.std.specs.Prelude.{All}
use Rattle.calculus.specs.Account.{Account}
use Rattle.calculus.specs.Limits.{most_rows}
use Rattle.rows.proofs.Marks.{marks_held}
use Rattle.rows.proofs.store.Rows.marks.Goals as goal

pub returns-clause-held : goal.returns-clause-held
returns-clause-held c =
    subst (λ (a : Account). All (λ rows. rows ≤ most_rows) a.marks) c.self.view_is (marks_held c.self.inside.marks.items)
