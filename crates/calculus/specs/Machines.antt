-- The run as a machine of small steps: looks, repair, and what one step does.
use Rattle.std.specs.Prelude.{ℕ, ◌+◌, Bool, true, false, List, [], ◌∷◌, length, ℤ, Some, None, Ok, Err, Option, nat_le, nat_lt, unsigned_abs}
use Rattle.calculus.specs.Advice.{Advice, choice, told, turned_side}
use Rattle.calculus.specs.Arithmetic.{common}
use Rattle.calculus.specs.Bounds.{Trail, low, high, lows, highs, row_at, fails_under, better_under, conflict, propagating}
use Rattle.calculus.specs.Limits.{most_entries}
use Rattle.calculus.specs.Logs.{Line, line_row, Written, written}
use Rattle.calculus.specs.Rows.{Row, coef, cut}
use Rattle.calculus.specs.Tightening.{plus, fits, matches, tightened}
use Rattle.calculus.specs.declared.endings.Ending.{Ending}
use Rattle.calculus.specs.declared.endings.Ending.TheVariants.{Plan, NoPlan, Refused}
use Rattle.calculus.specs.declared.kinds.Kind.TheVariants.{Row as Placed, Sum, Cut}
use Rattle.calculus.specs.declared.ranges.Range.{Range}
use Rattle.calculus.specs.declared.refusals.Refusal.TheVariants.{Long, Wide}
use Rattle.calculus.specs.declared.sides.Side.{Side}
use Rattle.calculus.specs.declared.sides.Side.TheVariants.{Low, High}
use Rattle.calculus.specs.declared.trails.Bound.{Bound}
use Rattle.calculus.specs.declared.trails.Entry.{Entry}

-- What stays the same during a run: the ranges, the standing rows without their labels, and the log's capacity.
pub record Context : Type 0 where
  pub ranges : List Range
  pub rows : List Row
  pub capacity : ℕ

-- Where a run is: looking for the next move; repairing a conflict (the row J, its line, and its place while J is still a standing row,
-- that is, while this repair made no sum); or ended.
pub data Phase : Type 0 where
  looking : Phase
  repairing : Row → ℕ → Option ℕ → Phase
  ended : Ending → Phase

-- The machine. It knows no budget and counts nothing.
pub record Machine : Type 0 where
  pub trail : Trail
  pub lines : List Line
  pub advice : Advice
  pub phase : Phase

-- What a step comes to: no move was due (a run may end here too: plan, none, or wide or log in repair); or a move was due, and long, wide
-- or log came in its place; or a move.
pub data Acted : Type 0 where
  free : Machine → Acted
  halted : Machine → Acted
  moved : Machine → Acted

-- the same machine in another phase
abbrev pub in_phase : Machine → Phase → Machine
in_phase m p = record { trail = m.trail; lines = m.lines; advice = m.advice; phase = p }

-- the line of the standing row at a place: those of the ranges come first, two for each unknown
abbrev pub row_line : Context → ℕ → ℕ
row_line c p = length c.ranges + length c.ranges + p

-- ---- a move by a row

-- the entry is pushed with its tightened reason, or the run ends in the refusal of its tightening: the lines added before it stay, and
-- the adviser is not told
abbrev pub pushed : Written → Machine → Advice → Trail → ℕ → Bound → Acted
pushed (Ok q, ls) m a t x b =
    moved (record {
      trail = record { unknown = x; side = b.side; bound = b.value; cause = Some q } ∷ t;
      lines = ls;
      advice = a;
      phase = looking;
    })
pushed (Err r, ls) m a t x b =
    halted (record { trail = t; lines = ls; advice = m.advice; phase = ended (Refused r) })

-- long is looked at ahead of the tightening
abbrev pub due_by : Bool → Context → Machine → Advice → Trail → Row → ℕ → ℕ → Bound → Acted
due_by true c m a t row line x b = pushed (tightened c.capacity t row line x m.lines) m a t x b
due_by false c m a t row line x b =
    halted (record { trail = t; lines = m.lines; advice = m.advice; phase = ended (Refused Long) })

-- a row, whose own line is given, bounds x better over the trail t: the bound is due as an implied entry, its reason the row tightened;
-- once the entry is pushed the adviser is a, and a refusal leaves it as it was
abbrev pub row_due : Context → Machine → Advice → Trail → Row → ℕ → ℕ → Bound → Acted
row_due c m a t row line x b = due_by (nat_lt (length t) most_entries) c m a t row line x b

-- ---- the look

-- the value that a decision fixes an unknown at: on side low its present low, on side high its present high
abbrev pub decided_value : Side → ℤ → ℤ → ℤ
decided_value Low lo hi = lo
decided_value High lo hi = hi

-- the decided entry: x <= low on side low, x >= high on side high
abbrev pub decided : List Range → Trail → ℕ → Side → Entry
decided rs t x s =
    record { unknown = x; side = turned_side s; bound = decided_value s (low rs t x) (high rs t x); cause = None }

-- a decision, unless the trail is full
abbrev pub decide_by : Bool → Context → Machine → ℕ → Side → Acted
decide_by true c m x s =
    moved (record {
      trail = decided c.ranges m.trail x s ∷ m.trail;
      lines = m.lines;
      advice = m.advice;
      phase = looking;
    })
decide_by false c m x s = halted (in_phase m (ended (Refused Long)))

-- no choice means that all are fixed: a plan; else a decision is due
abbrev pub look_choice : Option (ℕ × Side) → Context → Machine → Acted
look_choice None c m = free (in_phase m (ended Plan))
look_choice (Some (x, s)) c m = decide_by (nat_lt (length m.trail) most_entries) c m x s

-- the first row that bounds better, at its lowest such unknown, is due; else the adviser is asked
abbrev pub look_bound : Option (ℕ × (ℕ × Bound)) → Context → Machine → Acted
look_bound (Some (p, (x, b))) c m = row_due c m m.advice m.trail (row_at c.rows p) (row_line c p) x b
look_bound None c m =
    look_choice (choice m.advice.mind.order (lows c.ranges m.trail) (highs c.ranges m.trail)) c m

-- the first row that fails is the conflict; else bounds are looked for
abbrev pub look_fail : Option ℕ → Context → Machine → Acted
look_fail (Some p) c m = free (in_phase m (repairing (row_at c.rows p) (row_line c p) (Some p)))
look_fail None c m = look_bound (propagating c.ranges c.rows m.trail) c m

-- a whole look
abbrev pub look : Context → Machine → Acted
look c m = look_fail (conflict c.ranges c.rows m.trail) c m

-- ---- repair

-- the cut of J is held, or the log is full
abbrev pub mended : Written → Machine → Trail → Row → Acted
mended (Ok line, ls) m t j =
    free (record { trail = t; lines = ls; advice = m.advice; phase = repairing j line None })
mended (Err r, ls) m t j = free (record { trail = t; lines = ls; advice = m.advice; phase = ended (Refused r) })

-- J is reduced where the common divisor of its coefficients is 2 or more
abbrev pub reduced_by : Bool → Context → Machine → Trail → Row → ℕ → List Line → Acted
reduced_by true c m t j line ls =
    let g = common j.coefs in
    mended (written c.capacity (Cut line g) (cut g j) ls) m t (cut g j)
reduced_by false c m t j line ls =
    free (record { trail = t; lines = ls; advice = m.advice; phase = repairing j line None })

-- the sum of J is held, or the log is full
abbrev pub repaired : Written → Context → Machine → Trail → Row → Acted
repaired (Ok line, ls) c m t j = reduced_by (nat_le 2 (common j.coefs)) c m t j line ls
repaired (Err r, ls) c m t j = free (record { trail = t; lines = ls; advice = m.advice; phase = ended (Refused r) })

-- the sum is looked at before its line
abbrev pub resolved_by : Bool → Context → Machine → Trail → Row → ℕ → ℕ → ℕ → Acted
resolved_by true c m t j line q k = repaired (written c.capacity (Sum line q 1 k) j m.lines) c m t j
resolved_by false c m t j line q k =
    free (record { trail = t; lines = m.lines; advice = m.advice; phase = ended (Refused Wide) })

-- J and k times the reason of the entry taken off
abbrev pub resolved : Context → Machine → Trail → Row → ℕ → ℕ → ℕ → Acted
resolved c m t j line q k =
    let sum = plus j k (line_row m.lines q) in
    resolved_by (fits sum) c m t sum line q k

-- an entry is taken off and nothing follows
abbrev pub dropped : Machine → Trail → Row → ℕ → Option ℕ → Acted
dropped m t j line place =
    free (record { trail = t; lines = m.lines; advice = m.advice; phase = repairing j line place })

-- an implied entry is worked into J where it matches, and else only taken off
abbrev pub implied_off : Bool → Context → Machine → Trail → Row → ℕ → Option ℕ → ℕ → ℕ → Acted
implied_off true c m t j line place q k = resolved c m t j line q k
implied_off false c m t j line place q k = dropped m t j line place

-- J's better bound on x is due, and the adviser is told x. A run on a ticket never comes here without one; that case only completes the
-- definition.
abbrev pub jump : Option Bound → Context → Machine → Trail → Row → ℕ → Option ℕ → ℕ → Acted
jump (Some b) c m t j line place x = row_due c m (told m.advice x) t j line x b
jump None c m t j line place x = dropped m t j line place

-- a decided entry is dropped where J fails without it
abbrev pub decided_off : Bool → Context → Machine → Trail → Row → ℕ → Option ℕ → ℕ → Acted
decided_off true c m t j line place x = dropped m t j line place
decided_off false c m t j line place x = jump (better_under c.ranges t j x) c m t j line place x

-- the top entry is taken off, over the trail t below it
abbrev pub off : Option ℕ → Context → Machine → Entry → Trail → Row → ℕ → Option ℕ → Acted
off (Some q) c m e t j line place =
    let k = coef j.coefs e.unknown in
    implied_off (matches e.side k) c m t j line place q (unsigned_abs k)
off None c m e t j line place = decided_off (fails_under c.ranges t j) c m t j line place e.unknown

-- the answer none, J being the last line
abbrev pub closed : Written → Machine → Acted
closed (Ok q, ls) m = free (record { trail = m.trail; lines = ls; advice = m.advice; phase = ended NoPlan })
closed (Err r, ls) m = free (record { trail = m.trail; lines = ls; advice = m.advice; phase = ended (Refused r) })

-- no entry is left: where J is still a standing row, its row line is added once more
abbrev pub close : Option ℕ → Context → Machine → Row → ℕ → Acted
close (Some p) c m j line = closed (written c.capacity (Placed p) j m.lines) m
close None c m j line = closed (Ok line, m.lines) m

-- one step of repair, by what is on the trail
abbrev pub repair : Trail → Context → Machine → Row → ℕ → Option ℕ → Acted
repair [] c m j line place = close place c m j line
repair (e ∷ t) c m j line place = off e.cause c m e t j line place

-- ---- one step

-- by the phase; an ended machine stays as it is
abbrev pub act_in : Phase → Context → Machine → Acted
act_in looking c m = look c m
act_in (repairing j line place) c m = repair m.trail c m j line place
act_in (ended e) c m = free m

-- what a step does
abbrev pub act : Context → Machine → Acted
act c m = act_in m.phase c m
