-- A fact of every mark is one of the marks newest first.
use Rattle.std.proofs.Common.{◌≤◌, ◌-◌, List, ℕ, map, length, slice_index_or, sym, subst, arith}
use Rattle.std.specs.Prelude.{All}
use Rattle.std.proofs.lemmas.List.{get_or-reverse, length-reverse}
use Rattle.std.proofs.lemmas.List.Elements.{All-map}
use Rattle.calculus.specs.Limits.{most_rows}
use Rattle.rows.specs.Store.{marks_of}
use Rattle.rows.specs.declared.store.Mark.{Mark}

-- no mark notes more rows than may stand
pub marks_held : (marks : List Mark) → All (λ rows. rows ≤ most_rows) (marks_of marks)
marks_held marks =
    let P : ℕ → Type 0 = λ rows. rows ≤ most_rows in
    let noted = map (λ (m : Mark). m.rows) marks in
    let held = All-map P (λ (m : Mark). m.rows) marks (λ k d less. (slice_index_or marks k d).few) in
    λ k d less.
    let long = length-reverse noted in
    subst P (sym (get_or-reverse noted k d (omega arith))) (held (length noted - 1 - k) d (omega arith))
