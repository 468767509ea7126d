-- Lines in numbers: what a list of numbers holds, whatever it is.
use Rattle.std.specs.Prelude.{◌≡◌, ℕ, ◌+◌, ◌*◌, ◌/◌, ◌^◌, ◌<◌, min, cond, List, ◌∷◌, length, ℤ, pos, negsuc, nat_lt}
use Rattle.calculus.specs.Limits.{most_lines}
use Rattle.calculus.specs.Logs.{Line, entries}
use Rattle.calculus.specs.Rows.{Row, coef}
use Rattle.calculus.specs.Tables.{table}
use Rattle.calculus.specs.declared.kinds.Fields.{Fields}

-- how many numbers a line takes: five fields, the coefficients and the constant
abbrev pub line_size : ℕ → ℕ
line_size n = n + 6

-- how many whole lines fit so many numbers, and no more than a log may hold
abbrev pub fitting : ℕ → ℕ → ℕ
fitting n numbers = min (numbers / line_size n) most_lines

-- what a number is as an unsigned one of so many bits, and 0 where it is none
abbrev pub unsigned_in : ℕ → ℤ → ℕ
unsigned_in bits (pos x) = cond (nat_lt x (2 ^ bits)) x 0
unsigned_in bits (negsuc x) = 0

-- what a number is as a signed one of 32 bits, and 0 where it is none
abbrev pub entry_in : ℤ → ℤ
entry_in (pos x) = cond (nat_lt x (2 ^ 31)) (pos x) (pos 0)
entry_in (negsuc x) = cond (nat_lt x (2 ^ 31)) (negsuc x) (pos 0)

-- each entry of a row is read as it is
abbrev pub ReadsBack : List ℤ → Type 0
ReadsBack row = (e : ℕ) → e < length row → entry_in (coef row e) ≡ coef row e

-- the fields that begin at a place
abbrev pub fields_in : List ℤ → ℕ → Fields
fields_in cs at = record {
  kind = unsigned_in 8 (coef cs at);
  i = unsigned_in 16 (coef cs (at + 1));
  j = unsigned_in 16 (coef cs (at + 2));
  k = unsigned_in 32 (coef cs (at + 3));
  m = unsigned_in 32 (coef cs (at + 4));
}

-- the row of n coefficients that begins at a place
abbrev pub row_in : ℕ → List ℤ → ℕ → Row
row_in n cs at = record { coefs = table (λ e. entry_in (coef cs (at + e))) n; constant = entry_in (coef cs (at + n)) }

-- line q
abbrev pub line_in : ℕ → List ℤ → ℕ → Line
line_in n cs q = record { fields = fields_in cs (q * line_size n); row = row_in n cs (q * line_size n + 5) }

-- the first lines
abbrev pub lines_in : ℕ → ℕ → List ℤ → List Line
lines_in n held cs = table (line_in n cs) held

-- the numbers of a line, from the first
abbrev pub spelled : Fields → List ℤ → List ℤ
spelled f row = pos f.kind ∷ pos f.i ∷ pos f.j ∷ pos f.k ∷ pos f.m ∷ row

-- What the numbers of a line spell, those in front and the rest: its fields, and behind them its entries.
pub record Spells (l : Line) (front rest : List ℤ) : Type 0 where
  pub fields : fields_in front 0 ≡ l.fields
  pub row : (e : ℕ) → entry_in (coef rest e) ≡ coef (entries l.row) e
