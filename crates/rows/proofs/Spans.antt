-- What is a fact of every declared unknown holds of the ranges.
use Rattle.std.proofs.Common.{List, slice_index_or}
use Rattle.std.specs.Prelude.{All}
use Rattle.std.proofs.lemmas.List.Elements.{All-map}
use Rattle.rows.specs.Spans.{InOrder, Near}
use Rattle.rows.specs.Store.{ranges_of}
use Rattle.rows.specs.declared.store.Span.{Span}

pub spans_ordered : (spans : List Span) → All InOrder (ranges_of spans)
spans_ordered spans = All-map InOrder (λ (s : Span). s.range) spans (λ k d less. (slice_index_or spans k d).ordered)

pub spans_near : (spans : List Span) → All Near (ranges_of spans)
spans_near spans =
    All-map Near (λ (s : Span). s.range) spans (λ k d less. let s = slice_index_or spans k d in (s.low_near, s.high_near))
