use Rattle.std.proofs.Common.{subst}
use Rattle.std.specs.Prelude.{All}
use Rattle.calculus.specs.Account.{Account}
use Rattle.rows.proofs.Spans.{spans_ordered, spans_near}
use Rattle.rows.specs.Spans.{InOrder, Near}
use Rattle.rows.proofs.store.Rows.unknowns.Goals as goal

pub returns-clause-ordered : goal.returns-clause-ordered
returns-clause-ordered c = subst (λ (a : Account). All InOrder a.ranges) c.self.view_is (spans_ordered c.self.inside.spans.items)

pub returns-clause-near : goal.returns-clause-near
returns-clause-near c = subst (λ (a : Account). All Near a.ranges) c.self.view_is (spans_near c.self.inside.spans.items)
