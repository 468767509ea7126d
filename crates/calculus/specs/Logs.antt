-- Logs: lines, the five kinds, what it is to begin a log and to append to it.
use Rattle.std.specs.Prelude.{◌≡◌, ℕ, suc, ◌≤◌, Bool, true, false, not, List, [], ◌∷◌, ◌++◌, length, take, ℤ, pos, Ok, Err, Result, ◌==◌, nat_le, slice_index_or}
use Rattle.std.specs.List.{AllByRecursion}
use Rattle.calculus.specs.Account.{Test, when, answered, left}
use Rattle.calculus.specs.Limits.{most_lines}
use Rattle.calculus.specs.Rows.{Row, coef}
use Rattle.calculus.specs.declared.kinds.Fields.{Fields}
use Rattle.calculus.specs.declared.kinds.Kind.{Kind}
use Rattle.calculus.specs.declared.kinds.Kind.TheVariants.{Low, High, Row as Placed, Sum, Cut}
use Rattle.calculus.specs.declared.refusals.Refusal.{Refusal}
use Rattle.calculus.specs.declared.refusals.Refusal.TheVariants.{Shape, Log}

-- the byte and the fields of a kind; a field that a kind does not use is 0
abbrev pub fields_of : Kind → Fields
fields_of (Low x) = record { kind = 1; i = x; j = 0; k = 0; m = 0 }
fields_of (High x) = record { kind = 2; i = x; j = 0; k = 0; m = 0 }
fields_of (Placed p) = record { kind = 3; i = p; j = 0; k = 0; m = 0 }
fields_of (Sum a b k m) = record { kind = 4; i = a; j = b; k = k; m = m }
fields_of (Cut a k) = record { kind = 5; i = a; j = 0; k = k; m = 0 }

-- A line: its fields as the log got them, and beside them its row.
pub record Line : Type 0 where
  pub fields : Fields
  pub row : Row

-- what is read where no line is held: every field and entry 0
abbrev pub no_line : Line
no_line = record {
  fields = record { kind = 0; i = 0; j = 0; k = 0; m = 0 };
  row = record { coefs = []; constant = pos 0 };
}

-- line q
abbrev pub line_at : List Line → ℕ → Line
line_at ls q = slice_index_or ls q no_line

-- the row of line q
abbrev pub line_row : List Line → ℕ → Row
line_row ls q = (line_at ls q).row

-- the entries of a row: its coefficients, and last its constant
abbrev pub entries : Row → List ℤ
entries r = r.coefs ++ r.constant ∷ []

-- the row with n coefficients that a list of entries spells
abbrev pub row_of : ℕ → List ℤ → Row
row_of n xs = record { coefs = take n xs; constant = coef xs n }

-- A log: for how many unknowns it is, how many lines it has room for, and the lines it holds.
pub record Logbook : Type 0 where
  pub unknowns : ℕ
  pub capacity : ℕ
  pub lines : List Line

-- the log with other lines
abbrev pub with_lines : Logbook → List Line → Logbook
with_lines l ls = record { unknowns = l.unknowns; capacity = l.capacity; lines = ls }

-- to begin a log empties it
abbrev pub begun : Logbook → Logbook
begun l = with_lines l []

-- appending: the tests in the order of their numbers
abbrev pub append_tests : Logbook → List ℤ → List Test
append_tests l xs = when (not (length xs == suc l.unknowns)) Shape ∷ when (nat_le l.capacity (length l.lines)) Log ∷ []

-- what appending is answered: the line's number, from 0
abbrev pub append_answer : Logbook → List ℤ → Result ℕ Refusal
append_answer l xs = answered (append_tests l xs) (length l.lines)

-- the log after it: one line more, or as found
abbrev pub appended : Logbook → Fields → List ℤ → Logbook
appended l f xs =
    left (append_answer l xs) (with_lines l (l.lines ++ record { fields = f; row = row_of l.unknowns xs } ∷ [])) l

-- What writing comes to: the number of the line or a refusal, and the lines afterwards.
abbrev pub Written : Type 0
Written = Result ℕ Refusal × List Line

-- a line at the end, unless the log is full
abbrev pub written_by : Bool → Line → List Line → Written
written_by true l ls = (Err Log, ls)
written_by false l ls = (Ok (length ls), ls ++ l ∷ [])

-- a run writes a line of kind k: refused where the lines have reached the capacity; the rows of a run on a ticket have n + 1 entries
abbrev pub written : ℕ → Kind → Row → List Line → Written
written capacity k r ls = written_by (nat_le capacity (length ls)) (record { fields = fields_of k; row = r }) ls

-- What every log keeps to: room for so many lines at most, no more held, and each row with one coefficient for each unknown. A log may
-- hold more lines than it has room for, and no number of unknowns is too large for one.
pub record KeepsBook (l : Logbook) : Type 0 where
  pub room : l.capacity ≤ most_lines
  pub few : length l.lines ≤ most_lines
  pub shaped : AllByRecursion (λ q. length q.row.coefs ≡ l.unknowns) l.lines
