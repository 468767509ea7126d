-- The log in numbers after one line more.
use Rattle.std.proofs.Common.{◌≡◌, ℕ, suc, ◌+◌, ◌*◌, ◌<◌, ◌≤◌, List, length, drop, ℤ, vec_len, sym, ap, ◌∙◌, suc-mul, add-one, arith}
use lib.Seq.{drop-paste}
use Rattle.calculus.specs.Promises.{FieldsFit}
use Rattle.calculus.specs.declared.kinds.Fields.{Fields}
use Rattle.cutlog.specs.Books.{book_of, book_with, memory_of, memory_with, past}
use Rattle.cutlog.specs.Cells.{ReadsBack, fitting, line_size, lines_in, spelled}
use Rattle.cutlog.specs.declared.numbers.Numbers.{Numbers}
use Rattle.cutlog.proofs.Held.{line_fits, lines_more}

module _ (s t : Numbers) (f : Fields) (row : List ℤ) (room : s.held < fitting s.unknowns (vec_len s.cells))
    (shape : length row ≡ suc s.unknowns) (held : t.held ≡ s.held + 1) (same : t.unknowns ≡ s.unknowns)
    (memory : memory_of t ≡ memory_with s f row) where
  fits : s.held * line_size s.unknowns + line_size s.unknowns ≤ length (memory_of s)
  fits = let l = line_fits s.unknowns s.held (vec_len s.cells) room in omega (arith, s.cells.ok.0)

  pub book_more : FieldsFit f → ReadsBack row → vec_len t.cells ≡ vec_len s.cells →
      book_of t ≡ book_with s f row
  book_more wide back long =
      let lines = ap (λ n. lines_in n t.held (memory_of t)) same
      ∙ ap (λ c. lines_in s.unknowns c (memory_of t)) held
      ∙ lines_more s.unknowns s.held (memory_of s) (memory_of t) f row wide back shape fits memory in
      λ x. record { unknowns = same x; capacity = fitting (same x) (long x); lines = lines x }

  pub past_same : past t (memory_of t) ≡ past t (memory_of s)
  past_same =
      let n : ℕ = s.unknowns in
      let end : t.held * line_size t.unknowns ≡ s.held * line_size n + line_size n =
      ap (λ m. t.held * line_size m) same ∙ ap (λ c. c * line_size n) (held ∙ add-one s.held) ∙ suc-mul s.held (line_size n) in
      ap (λ k. drop k (memory_of t)) end
      ∙ ap (drop (s.held * line_size n + line_size n)) memory
      ∙ drop-paste (memory_of s) (s.held * line_size n) (spelled f row) (line_size n) (omega (arith, fits)) (omega arith)
      ∙ ap (λ k. drop k (memory_of s)) (sym end)
