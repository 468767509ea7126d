-- Lines by how they are made: what a right line is but for the limits on its numbers, and those limits apart.
-- It rests on the definitions and the library alone.
use Rattle.std.proofs.Common.{◌≡◌, ℕ, ◌<◌, ◌≤◌, true, List, length, take}
use Rattle.calculus.specs.Checking.{operands, all_below, subject_there, given, all_divide}
use Rattle.calculus.specs.Limits.{multiplier_limit}
use Rattle.calculus.specs.Logs.{Line, fields_of, line_at, line_row}
use Rattle.calculus.specs.Rows.{Row}
use Rattle.calculus.specs.Tightening.{fits}
use Rattle.calculus.specs.declared.kinds.Kind.{Kind}
use Rattle.calculus.specs.declared.kinds.Kind.TheVariants.{Low, High, Row as Placed, Sum, Cut}
use Rattle.calculus.specs.declared.ranges.Range.{Range}

-- a cut is by 1 or more, and the coefficients of its line divide
abbrev pub CutsWell : List Line → Kind → Type 0
CutsWell ls (Low x) = Unit {0}
CutsWell ls (High x) = Unit {0}
CutsWell ls (Placed p) = Unit {0}
CutsWell ls (Sum a b k m) = Unit {0}
CutsWell ls (Cut a k) = (0 < k) × (all_divide k (line_row ls a).coefs ≡ true)

-- A line is made from the ranges, the rows and the lines before it as its kind says.
pub record Made (rs : List Range) (rows : List Row) (ls : List Line) (l : Line) : Type 0 where
  pub kind : Kind
  pub fields : l.fields ≡ fields_of kind
  pub there : subject_there (length rs) (length rows) kind ≡ true
  pub earlier : all_below (length ls) (operands kind) ≡ true
  pub is : l.row ≡ given rs rows ls kind
  pub cuts : CutsWell ls kind

-- every line is made from those before it
abbrev pub Good : List Range → List Row → List Line → Type 0
Good rs rows ls = (q : ℕ) → q < length ls → Made rs rows (take q ls) (line_at ls q)

-- The numbers of a line keep to their limits: n coefficients, a row that fits, and multipliers within theirs.
pub record Slim (n : ℕ) (l : Line) : Type 0 where
  pub shaped : length l.row.coefs ≡ n
  pub fit : fits l.row ≡ true
  pub k_fits : l.fields.k ≤ multiplier_limit
  pub m_fits : l.fields.m ≤ multiplier_limit
