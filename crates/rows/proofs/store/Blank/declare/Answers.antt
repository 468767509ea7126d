use Rattle.std.proofs.Common.{subst}
use Rattle.std.specs.Prelude.{All}
use Rattle.rows.proofs.Spans.{spans_ordered, spans_near}
use Rattle.rows.specs.Spans.{InOrder, Near}
use Rattle.rows.proofs.store.Blank.declare.Goals as goal

pub returns-then-unknown-ge-MAX_UNKNOWNS-clause-ordered : goal.returns-then-unknown-ge-MAX_UNKNOWNS-clause-ordered
returns-then-unknown-ge-MAX_UNKNOWNS-clause-ordered c = subst (λ rs. All InOrder rs) c.self.view_is (spans_ordered c.self.inside.spans.items)

pub returns-then-unknown-ge-MAX_UNKNOWNS-clause-near : goal.returns-then-unknown-ge-MAX_UNKNOWNS-clause-near
returns-then-unknown-ge-MAX_UNKNOWNS-clause-near c = subst (λ rs. All Near rs) c.self.view_is (spans_near c.self.inside.spans.items)

pub returns-then-is_bad_range-clause-ordered : goal.returns-then-is_bad_range-clause-ordered
returns-then-is_bad_range-clause-ordered c = subst (λ rs. All InOrder rs) c.self.view_is (spans_ordered c.self.inside.spans.items)

pub returns-then-is_bad_range-clause-near : goal.returns-then-is_bad_range-clause-near
returns-then-is_bad_range-clause-near c = subst (λ rs. All Near rs) c.self.view_is (spans_near c.self.inside.spans.items)

pub returns-clause-ordered : goal.returns-clause-ordered
returns-clause-ordered c = spans_ordered c.push_reserved.new.self.items

pub returns-clause-near : goal.returns-clause-near
returns-clause-near c = spans_near c.push_reserved.new.self.items
