-- What the stored ranges, rows and marks mean: the account of the day.
use Rattle.std.specs.Prelude.{◌≡◌, ℕ, ◌≤◌, List, [], map, length, reverse, vec_len, vec_capacity, All}
use Rattle.calculus.specs.Account.{Account}
use Rattle.calculus.specs.Limits.{most_unknowns, most_rows, most_marks}
use Rattle.calculus.specs.Rows.{Standing}
use Rattle.calculus.specs.declared.ranges.Range.{Range}
use Rattle.rows.specs.declared.store.Mark.{Mark}
use Rattle.rows.specs.declared.store.Span.{Span}
use Rattle.rows.specs.declared.store.Blank.TheInside.{Inside as InBlank}
use Rattle.rows.specs.declared.store.Rows.TheInside.{Inside as InRows}

-- the ranges of declared unknowns
abbrev pub ranges_of : List Span → List Range
ranges_of spans = map (λ (s : Span). s.range) spans

-- the marks, newest first
abbrev pub marks_of : List Mark → List ℕ
marks_of marks = reverse (map (λ (m : Mark). m.rows) marks)

-- the account that the stored ranges, rows and marks stand for
abbrev pub account_of : InRows → Account
account_of t = record { ranges = ranges_of t.spans.items; rows = t.rows.items; marks = marks_of t.marks.items }

-- A blank has no more ranges than a ticket may have, no row and no mark, and memory for all that may come.
pub record IsReserved (b : InBlank) : Type 0 where
  pub spans_few : vec_len b.spans ≤ most_unknowns
  pub spans_room : most_unknowns ≤ vec_capacity b.spans
  pub rows_none : b.rows.items ≡ []
  pub rows_room : most_rows ≤ vec_capacity b.rows
  pub marks_none : b.marks.items ≡ []
  pub marks_room : most_marks ≤ vec_capacity b.marks

-- A ticket holds no more ranges, rows and marks than it may have, a coefficient of each row for each range, and memory for all rows and
-- marks that may come.
pub record IsStored (t : InRows) : Type 0 where
  pub spans_few : vec_len t.spans ≤ most_unknowns
  pub rows_few : vec_len t.rows ≤ most_rows
  pub rows_room : most_rows ≤ vec_capacity t.rows
  pub rows_wide : All (λ (s : Standing). length s.row.coefs ≡ vec_len t.spans) t.rows.items
  pub marks_few : vec_len t.marks ≤ most_marks
  pub marks_room : most_marks ≤ vec_capacity t.marks
