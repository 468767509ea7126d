-- What the log in numbers means: its book, and its memory.
use Rattle.std.specs.Prelude.{◌≡◌, ℕ, ◌*◌, ◌<◌, ◌≤◌, List, [], ◌∷◌, ◌++◌, length, drop, ℤ, vec_items, vec_len}
use Rattle.std.proofs.Math.Seq.{paste}
use Rattle.calculus.specs.Account.{left}
use Rattle.calculus.specs.Limits.{most_unknowns}
use Rattle.calculus.specs.Logs.{Logbook, append_answer, row_of, with_lines}
use Rattle.calculus.specs.declared.kinds.Fields.{Fields}
use Rattle.calculus.specs.declared.refusals.Refusal.TheVariants.{Shape}
use Rattle.cutlog.specs.Cells.{fitting, line_size, lines_in, spelled}
use Rattle.cutlog.specs.declared.numbers.Numbers.{Numbers}
use Rattle.cutlog.specs.declared.numbers.Unopened.{Unopened}

-- the numbers that a log was handed, as they are now
abbrev pub memory_of : Numbers → List ℤ
memory_of l = vec_items l.cells

-- its book
abbrev pub book_of : Numbers → Logbook
book_of l = record {
  unknowns = l.unknowns;
  capacity = fitting l.unknowns (vec_len l.cells);
  lines = lines_in l.unknowns l.held (memory_of l);
}

-- what a memory holds past the lines that the log holds
abbrev pub past : Numbers → List ℤ → List ℤ
past l memory = drop (l.held * line_size l.unknowns) memory

-- its book with one line more
abbrev pub book_with : Numbers → Fields → List ℤ → Logbook
book_with l f row = with_lines (book_of l) ((book_of l).lines ++ record { fields = f; row = row_of l.unknowns row } ∷ [])

-- its memory with the numbers of one line more, behind the held ones, and all else as it was
abbrev pub memory_with : Numbers → Fields → List ℤ → List ℤ
memory_with l f row = paste (memory_of l) (l.held * line_size l.unknowns) (spelled f row) (line_size l.unknowns)

-- its memory after an add: with the line where it is taken, and as it was where it is refused
abbrev pub memory_after : Numbers → Fields → List ℤ → List ℤ
memory_after l f row = left (append_answer (book_of l) row) (memory_with l f row) (memory_of l)

-- A log just opened on a memory: no line held, room for as many as fit, and nothing written.
pub record Opened (n : ℕ) (given : List ℤ) (l : Numbers) : Type 0 where
  pub few : n ≤ most_unknowns
  pub book : book_of l ≡ record { unknowns = n; capacity = fitting n (length given); lines = [] }
  pub memory : memory_of l ≡ given

-- A refusal to open: more unknowns than a log may be made for, and the memory as it was.
pub record Refused (n : ℕ) (given : List ℤ) (u : Unopened) : Type 0 where
  pub many : most_unknowns < n
  pub refusal : u.refusal ≡ Shape
  pub memory : vec_items u.cells ≡ given
