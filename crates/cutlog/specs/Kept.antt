-- Each log keeps to what every log keeps to: what the impls give for the law.
use Rattle.std.specs.Prelude.{◌≡◌, ℕ, ◌+◌, ◌*◌, List, length, ℤ}
use Rattle.std.specs.List.{AllByRecursion}
use Rattle.std.proofs.Common.{sym, subst, arith}
use Rattle.std.proofs.ByRecursion.{All-from_get_or}
use Rattle.calculus.specs.Logs.{Line, Logbook, KeepsBook, no_line}
use Rattle.calculus.specs.Rows.{coef}
use Rattle.calculus.proofs.Tabling.{table_long, table_at}
use Rattle.cutlog.specs.Books.{book_of, memory_of}
use Rattle.cutlog.specs.Cells.{line_size, entry_in, line_in, lines_in}
use Rattle.cutlog.specs.Quotas.{limited}
use Rattle.cutlog.specs.declared.numbers.Numbers.{Numbers}

-- as many lines as are held
pub lines_long : (n held : ℕ) (cs : List ℤ) → length (lines_in n held cs) ≡ held
lines_long n held cs = table_long (line_in n cs) held

-- each with n coefficients
lines_shaped : (n held : ℕ) (cs : List ℤ) → AllByRecursion (λ l. length l.row.coefs ≡ n) (lines_in n held cs)
lines_shaped n held cs =
    let long = lines_long n held cs in
    let P : Line → Type 0 = λ l. length l.row.coefs ≡ n in
    All-from_get_or P (lines_in n held cs) no_line
    (λ q l. subst P (sym (table_at (line_in n cs) held q no_line (omega arith)))
    (table_long (λ e. entry_in (coef cs (q * line_size n + 5 + e))) n))

-- the log in numbers
pub numbers_keep : (l : Numbers) → KeepsBook (book_of l)
numbers_keep l =
    let long = lines_long l.unknowns l.held (memory_of l) in
    record { room = omega arith; few = omega (arith, l.within); shaped = lines_shaped l.unknowns l.held (memory_of l) }

-- a quota over a log that keeps to it
pub limited_keeps : (limit : ℕ) (b : Logbook) → KeepsBook b → KeepsBook (limited limit b)
limited_keeps limit b h = record { room = omega arith; few = h.few; shaped = h.shaped }
