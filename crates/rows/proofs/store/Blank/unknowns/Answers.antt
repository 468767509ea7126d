use Rattle.std.proofs.Common.{subst}
use Rattle.std.specs.Prelude.{All}
use Rattle.rows.proofs.Spans.{spans_ordered, spans_near}
use Rattle.rows.specs.Spans.{InOrder, Near}
use Rattle.rows.proofs.store.Blank.unknowns.Goals as goal

pub returns-clause-ordered : goal.returns-clause-ordered
returns-clause-ordered c = subst (λ rs. All InOrder rs) c.self.view_is (spans_ordered c.self.inside.spans.items)

pub returns-clause-near : goal.returns-clause-near
returns-clause-near c = subst (λ rs. All Near rs) c.self.view_is (spans_near c.self.inside.spans.items)
