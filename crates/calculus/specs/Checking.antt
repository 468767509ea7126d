-- The checker: what makes a line right, and the first objection to a log.
use Rattle.std.specs.Prelude.{◌≡◌, ℕ, ◌-◌, ◌%◌, ◌≤◌, Bool, true, false, not, ◌&&◌, List, [], ◌∷◌, ◌++◌, length, ℤ, pos, Some, None, Ok, Err, Option, Result, ◌==◌, int_lt, nat_le, nat_lt, unsigned_abs}
use Rattle.calculus.specs.Account.{Test, when, answered}
use Rattle.calculus.specs.Arithmetic.{same_number}
use Rattle.calculus.specs.Bounds.{row_at}
use Rattle.calculus.specs.Limits.{multiplier_limit}
use Rattle.calculus.specs.Logs.{Line, Logbook, fields_of, line_row}
use Rattle.calculus.specs.Rows.{Row, Standing, cut, same_row}
use Rattle.calculus.specs.Runs.{low_row, high_row, rows_of}
use Rattle.calculus.specs.Tightening.{combined, fits}
use Rattle.calculus.specs.declared.endings.Objection.{Objection}
use Rattle.calculus.specs.declared.endings.Objection.TheVariants.{Misfit, Wrong, Open}
use Rattle.calculus.specs.declared.kinds.Fields.{Fields}
use Rattle.calculus.specs.declared.kinds.Kind.{Kind}
use Rattle.calculus.specs.declared.kinds.Kind.TheVariants.{Low, High, Row as Placed, Sum, Cut}
use Rattle.calculus.specs.declared.ranges.Range.{Range}
use Rattle.calculus.specs.declared.refusals.Refusal.{Refusal}
use Rattle.calculus.specs.declared.refusals.Refusal.TheVariants.{Misfit as NoFit, Kind as NoKind, Operand, Multiplier, Mismatch}
use Rattle.calculus.specs.declared.refusals.Refusal.TheVariants.{Open as StillOpen}

-- the same five fields
abbrev pub same_fields : Fields → Fields → Bool
same_fields f g =
    (f.kind == g.kind) && (f.i == g.i && (f.j == g.j && (f.k == g.k && f.m == g.m)))

-- this kind where the fields are its own, and else what comes of the later ones
abbrev pub kind_or : Bool → Kind → Option Kind → Option Kind
kind_or true k later = Some k
kind_or false k later = later

-- the first of some kinds whose fields are these
abbrev pub kind_among : Fields → List Kind → Option Kind
kind_among f [] = None
kind_among f (k ∷ ks) = kind_or (same_fields (fields_of k) f) k (kind_among f ks)

-- the kind of a line, if its byte is that of a kind and each field that the kind does not use is 0
abbrev pub kind_of : Fields → Option Kind
kind_of f = kind_among f (Low f.i ∷ High f.i ∷ Placed f.i ∷ Sum f.i f.j f.k f.m ∷ Cut f.i f.k ∷ [])

-- the lines that a kind is made from
abbrev pub operands : Kind → List ℕ
operands (Low x) = []
operands (High x) = []
operands (Placed p) = []
operands (Sum a b k m) = a ∷ b ∷ []
operands (Cut a k) = a ∷ []

-- every number of a list is below t
abbrev pub all_below : ℕ → List ℕ → Bool
all_below t [] = true
all_below t (q ∷ qs) = nat_lt q t && all_below t qs

-- the unknown or the row of a kind is there, of n unknowns and so many rows
abbrev pub subject_there : ℕ → ℕ → Kind → Bool
subject_there n rows (Low x) = nat_lt x n
subject_there n rows (High x) = nat_lt x n
subject_there n rows (Placed p) = nat_lt p rows
subject_there n rows (Sum a b k m) = true
subject_there n rows (Cut a k) = true

-- the multipliers keep to their limit, and a cut divides by 1 or more
abbrev pub multipliers_fit : Kind → Bool
multipliers_fit (Low x) = true
multipliers_fit (High x) = true
multipliers_fit (Placed p) = true
multipliers_fit (Sum a b k m) = nat_le k multiplier_limit && nat_le m multiplier_limit
multipliers_fit (Cut a k) = nat_lt 0 k && nat_le k multiplier_limit

-- the row that a kind gives, over the lines before it
abbrev pub given : List Range → List Row → List Line → Kind → Row
given rs rows ls (Low x) = low_row rs x
given rs rows ls (High x) = high_row rs x
given rs rows ls (Placed p) = row_at rows p
given rs rows ls (Sum a b k m) = combined k (line_row ls a) m (line_row ls b)
given rs rows ls (Cut a k) = cut k (line_row ls a)

-- every coefficient is a multiple of k
abbrev pub all_divide : ℕ → List ℤ → Bool
all_divide k [] = true
all_divide k (c ∷ cs) = unsigned_abs c % k == 0 && all_divide k cs

-- a kind may give its row: a sum's keeps to the limits of formed rows, and the coefficients of a cut line divide; a cut of a right line
-- keeps to the limits by itself
abbrev pub may_give : List Range → List Row → List Line → Kind → Bool
may_give rs rows ls (Low x) = true
may_give rs rows ls (High x) = true
may_give rs rows ls (Placed p) = true
may_give rs rows ls (Sum a b k m) = fits (given rs rows ls (Sum a b k m))
may_give rs rows ls (Cut a k) = all_divide k (line_row ls a).coefs

-- the tests on a line of a known kind over the lines before it, in the order of their numbers
abbrev pub line_tests : List Range → List Row → List Line → Kind → Row → List Test
line_tests rs rows ls k r =
    when (not (subject_there (length rs) (length rows) k && all_below (length ls) (operands k))) Operand
    ∷ when (not (multipliers_fit k)) Multiplier
    ∷ when (not (may_give rs rows ls k && same_row (given rs rows ls k) r)) Mismatch
    ∷ []

-- a line by its kind, over the lines before it: 15 where it has none, and else the other tests in the order of their numbers
abbrev pub judged_kind : Option Kind → List Range → List Row → List Line → Row → Result (Unit {0}) Refusal
judged_kind None rs rows ls r = Err NoKind
judged_kind (Some k) rs rows ls r = answered (line_tests rs rows ls k r) tt

-- what a check finds of a line over the lines before it: nothing, or the smallest refusal that applies
abbrev pub judged : List Range → List Row → List Line → Line → Result (Unit {0}) Refusal
judged rs rows ls l = judged_kind (kind_of l.fields) rs rows ls l.row

-- a line is justified by the ranges, the rows and the lines before it
abbrev pub Justified : List Range → List Row → List Line → Line → Type 0
Justified rs rows ls l = judged rs rows ls l ≡ Ok tt

-- an objection to line t where it is wrong, and else what comes of the later lines
abbrev pub wrong_or : Result (Unit {0}) Refusal → ℕ → Option Objection → Option Objection
wrong_or (Ok u) t later = later
wrong_or (Err r) t later = Some (Wrong r t)

-- the objection to the first wrong line, after some that are right
abbrev pub wrong_from : List Range → List Row → List Line → List Line → Option Objection
wrong_from rs rows before [] = None
wrong_from rs rows before (l ∷ ls) =
    wrong_or (judged rs rows before l) (length before) (wrong_from rs rows (before ++ l ∷ []) ls)

-- all coefficients are 0
abbrev pub all_zero : List ℤ → Bool
all_zero [] = true
all_zero (c ∷ cs) = same_number c (pos 0) && all_zero cs

-- a row that no assignment meets: all coefficients 0, and the constant above 0
abbrev pub contradicts : Row → Bool
contradicts r = all_zero r.coefs && int_lt (pos 0) r.constant

-- the last line, if there is one, contradicts
abbrev pub closes : List Line → Bool
closes ls = nat_lt 0 (length ls) && contradicts (line_row ls (length ls - 1))

-- a log whose lines are right is still open unless its last one contradicts
abbrev pub open_unless : Bool → ℕ → Option Objection
open_unless true held = None
open_unless false held = Some (Open held)

-- an objection to a line, and else what comes of the last one
abbrev pub line_or : Option Objection → Option Objection → Option Objection
line_or (Some o) last = Some o
line_or None last = last

-- an objection to the log as such, and else what comes of its lines
abbrev pub fit_or : Bool → Option Objection → Option Objection
fit_or true lines = lines
fit_or false lines = Some Misfit

-- the objection of a check, if there is one: misfit before any line, then the first wrong line, then open
abbrev pub check_end : List Range → List Standing → Logbook → Option Objection
check_end rs rows log =
    fit_or (log.unknowns == length rs)
    (line_or (wrong_from rs (rows_of rows) [] log.lines) (open_unless (closes log.lines) (length log.lines)))

-- what is true of the number that an acceptance carries; no more is fixed of it
abbrev pub CarriedBy : List Line → ℕ → Type 0
CarriedBy ls k = (1 ≤ k) × (k ≤ length ls)

-- the refusal that an objection is
abbrev pub objected : Objection → Refusal
objected Misfit = NoFit
objected (Wrong r t) = r
objected (Open held) = StillOpen
