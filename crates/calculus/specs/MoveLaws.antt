-- What a look finds and what a move is, in the subject's words. Functions of src/laws.rt name these laws, so that each is proved.
use Rattle.std.specs.Prelude.{◌≡◌, ℕ, zero, suc, ◌<◌, ◌≤◌, true, false, ◌⊎◌, List, ◌∷◌, length, ℤ, pos, negsuc, ◌+ℤ◌, ◌-ℤ◌, ◌≤ℤ◌, ◌<ℤ◌, Some, None, Ok, Option, ◌==◌, ◌≢◌, unsigned_abs}
use Rattle.std.specs.Int.{◌∣◌}
use Rattle.calculus.specs.Advice.{choice, told}
use Rattle.calculus.specs.Bounds.{Trail, here_or, low, high, lows, highs, least, better, row_at, fails_under, better_under, conflict}
use Rattle.calculus.specs.Bounds.{propagating}
use Rattle.calculus.specs.Limits.{most_entries}
use Rattle.calculus.specs.Machines.{Context, looking, repairing, Machine, moved, row_line, decided, act}
use Rattle.calculus.specs.Rows.{Row, coef}
use Rattle.calculus.specs.Tightening.{plus, combined, lacking, tightened}
use Rattle.calculus.specs.declared.ranges.Range.{Range}
use Rattle.calculus.specs.declared.sides.Side.{Side}
use Rattle.calculus.specs.declared.sides.Side.TheVariants.{Low, High}
use Rattle.calculus.specs.declared.trails.Bound.{Bound}
use Rattle.calculus.specs.declared.trails.Entry.{Entry}

-- ends by place, with v in the place of that of x
abbrev pub with_end : ℕ → ℤ → (ℕ → ℤ) → ℕ → ℤ
with_end x v ends y = here_or (y == x) v (ends y)

-- the least value of a row where x has the value v
abbrev pub least_at : ℕ → (ℕ → ℤ) → (ℕ → ℤ) → Row → ℕ → ℤ → ℤ
least_at n lo hi r x v = least n (with_end x v lo) (with_end x v hi) r

-- v is the last value of x that a row still allows, going up, and lies in the present range below its high
abbrev pub LastUp : ℕ → (ℕ → ℤ) → (ℕ → ℤ) → Row → ℕ → ℤ → Type 0
LastUp n lo hi r x v =
    (lo x ≤ℤ v) × (v <ℤ hi x) × (least_at n lo hi r x v ≤ℤ pos 0) × (pos 0 <ℤ least_at n lo hi r x (v +ℤ pos 1))

-- v is the last value of x that a row still allows, going down, and lies in the present range above its low
abbrev pub LastDown : ℕ → (ℕ → ℤ) → (ℕ → ℤ) → Row → ℕ → ℤ → Type 0
LastDown n lo hi r x v =
    (lo x <ℤ v) × (v ≤ℤ hi x) × (least_at n lo hi r x v ≤ℤ pos 0) × (pos 0 <ℤ least_at n lo hi r x (v -ℤ pos 1))

-- a row has the better bound v from above on x just where v is the last value that it allows going up, and from below likewise
abbrev pub BetterIsLast : Type 0
BetterIsLast = (n : ℕ) (lo hi : ℕ → ℤ) (r : Row) (x : ℕ) (v : ℤ) → x < n →
    (better n lo hi r x ≡ Some (record { side = High; value = v }) → LastUp n lo hi r x v)
    × (LastUp n lo hi r x v → better n lo hi r x ≡ Some (record { side = High; value = v }))
    × (better n lo hi r x ≡ Some (record { side = Low; value = v }) → LastDown n lo hi r x v)
    × (LastDown n lo hi r x v → better n lo hi r x ≡ Some (record { side = Low; value = v }))

-- the conflict fails and no earlier row does; where there is none, no row fails
abbrev pub FirstConflict : Type 0
FirstConflict = (rs : List Range) (rows : List Row) (t : Trail) →
    ((p : ℕ) → conflict rs rows t ≡ Some p →
    (p < length rows) × (fails_under rs t (row_at rows p) ≡ true) × ((q : ℕ) → q < p → fails_under rs t (row_at rows q) ≡ false))
    × (conflict rs rows t ≡ None → (q : ℕ) → q < length rows → fails_under rs t (row_at rows q) ≡ false)

-- the propagating row and unknown have a better bound; no unknown before it in that row has one, and none at all in an earlier row;
-- where there is no such pair, no row bounds any unknown better
abbrev pub FirstPair : Type 0
FirstPair = (rs : List Range) (rows : List Row) (t : Trail) →
    ((p x : ℕ) (b : Bound) → propagating rs rows t ≡ Some (p, (x, b)) →
    (p < length rows) × (x < length rs) × (better_under rs t (row_at rows p) x ≡ Some b)
    × ((y : ℕ) → y < x → better_under rs t (row_at rows p) y ≡ None)
    × ((q y : ℕ) → q < p → y < length rs → better_under rs t (row_at rows q) y ≡ None))
    × (propagating rs rows t ≡ None → (q y : ℕ) → q < length rows → y < length rs → better_under rs t (row_at rows q) y ≡ None)

-- a partner of a matching decided entry moves its coefficient away from 0: the reason of a high entry has 1 there, of a low entry -1
abbrev pub Partners : ℤ → ℤ → Type 0
Partners (pos zero) u = ⊥
Partners (pos (suc a)) u = u ≡ pos 1
Partners (negsuc a) u = u ≡ negsuc 0

-- the number of times that a partner is added makes the coefficient of y in the open part a multiple of d, and no smaller number does
abbrev pub LeastNumber : Type 0
LeastNumber = (d : ℕ) (part partner : Row) (y : ℕ) → 0 < d → Partners (coef part.coefs y) (coef partner.coefs y) →
    let m = lacking d (coef part.coefs y) in
    (d ∣ unsigned_abs (coef (plus part m partner).coefs y))
    × ((k : ℕ) → d ∣ unsigned_abs (coef (plus part k partner).coefs y) → m ≤ k)

-- a sum of a run, a row and m times another, is what the kind of its line gives with k = 1
abbrev pub PlusIsSum : Type 0
PlusIsSum = (p : Row) (m : ℕ) (q : Row) → plus p m q ≡ combined 1 p m q

-- a decision on side low fixes x at its present low, one on side high at its present high, and leaves the other unknowns alone
abbrev pub DecisionFixes : Type 0
DecisionFixes = (rs : List Range) (t : Trail) (x : ℕ) →
    ((low rs (decided rs t x Low ∷ t) x ≡ low rs t x) × (high rs (decided rs t x Low ∷ t) x ≡ low rs t x))
    × ((low rs (decided rs t x High ∷ t) x ≡ high rs t x) × (high rs (decided rs t x High ∷ t) x ≡ high rs t x))
    × ((s : Side) (y : ℕ) → (x ≢ y) →
    (low rs (decided rs t x s ∷ t) y ≡ low rs t y) × (high rs (decided rs t x s ∷ t) y ≡ high rs t y))

-- ---- the three moves

-- A propagation: no row fails, and the first propagating row and unknown give an implied entry, its reason the row tightened.
pub record Propagates (c : Context) (m m' : Machine) : Type 0 where
  pub place : ℕ
  pub unknown : ℕ
  pub bound : Bound
  pub reason : ℕ
  pub looks : m.phase ≡ looking
  pub calm : conflict c.ranges c.rows m.trail ≡ None
  pub found : propagating c.ranges c.rows m.trail ≡ Some (place, (unknown, bound))
  pub room : length m.trail < most_entries
  pub tight : tightened c.capacity m.trail (row_at c.rows place) (row_line c place) unknown m.lines ≡ (Ok reason, m'.lines)
  pub pushes : m'.trail ≡ record { unknown = unknown; side = bound.side; bound = bound.value; cause = Some reason } ∷ m.trail
  pub advice : m'.advice ≡ m.advice
  pub on : m'.phase ≡ looking

-- A decision: no row fails and none bounds better, and the adviser's choice gives a decided entry.
pub record Decides (c : Context) (m m' : Machine) : Type 0 where
  pub unknown : ℕ
  pub side : Side
  pub looks : m.phase ≡ looking
  pub calm : conflict c.ranges c.rows m.trail ≡ None
  pub still : propagating c.ranges c.rows m.trail ≡ None
  pub chosen : choice m.advice.mind.order (lows c.ranges m.trail) (highs c.ranges m.trail) ≡ Some (unknown, side)
  pub room : length m.trail < most_entries
  pub pushes : m'.trail ≡ decided c.ranges m.trail unknown side ∷ m.trail
  pub lines : m'.lines ≡ m.lines
  pub advice : m'.advice ≡ m.advice
  pub on : m'.phase ≡ looking

-- A backjump: J does not fail without the decided entry on top and bounds its unknown better there; that bound is pushed in its place,
-- its reason J tightened, and the adviser is told.
pub record Backjumps (c : Context) (m m' : Machine) : Type 0 where
  pub conflict : Row
  pub line : ℕ
  pub place : Option ℕ
  pub top : Entry
  pub below : Trail
  pub bound : Bound
  pub reason : ℕ
  pub repairs : m.phase ≡ repairing conflict line place
  pub tops : m.trail ≡ top ∷ below
  pub decision : top.cause ≡ None
  pub passes : fails_under c.ranges below conflict ≡ false
  pub found : better_under c.ranges below conflict top.unknown ≡ Some bound
  pub room : length below < most_entries
  pub tight : tightened c.capacity below conflict line top.unknown m.lines ≡ (Ok reason, m'.lines)
  pub pushes : m'.trail ≡ record { unknown = top.unknown; side = bound.side; bound = bound.value; cause = Some reason } ∷ below
  pub advice : m'.advice ≡ told m.advice top.unknown
  pub on : m'.phase ≡ looking

-- each move is one of the three
abbrev pub OneOfThree : Type 0
OneOfThree = (c : Context) (m m' : Machine) → act c m ≡ moved m' → Propagates c m m' ⊎ (Decides c m m' ⊎ Backjumps c m m')

-- and each of the three is a move
abbrev pub ThreeMove : Type 0
ThreeMove = (c : Context) (m m' : Machine) →
    (Propagates c m m' → act c m ≡ moved m') × (Decides c m m' → act c m ≡ moved m') × (Backjumps c m m' → act c m ≡ moved m')

-- and no more than one: no state allows two, whatever they lead to
abbrev pub NeverTwo : Type 0
NeverTwo = (c : Context) (m m' m'' : Machine) →
    (Propagates c m m' → Decides c m m'' → ⊥) × (Propagates c m m' → Backjumps c m m'' → ⊥) × (Decides c m m' → Backjumps c m m'' → ⊥)
