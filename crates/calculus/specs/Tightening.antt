-- Sums and cuts of rows, matching, and the tightening of a row for one unknown.
use Rattle.std.specs.Prelude.{ℕ, zero, suc, ◌-◌, ◌%◌, Bool, true, false, ◌&&◌, List, [], ◌∷◌, map, ℤ, pos, negsuc, ◌+ℤ◌, ◌*ℤ◌, Ok, Err, ◌==◌, nat_le, unsigned_abs, None, Option, Some}
use Rattle.calculus.specs.Arithmetic.{near}
use Rattle.calculus.specs.Advice.{turned_side}
use Rattle.calculus.specs.Bounds.{Trail, on, here_or, without}
use Rattle.calculus.specs.Limits.{formed_coefficient_limit, formed_constant_limit}
use Rattle.calculus.specs.Logs.{Line, line_row, Written, written}
use Rattle.calculus.specs.Rows.{Row, coef, cut}
use Rattle.calculus.specs.declared.kinds.Kind.TheVariants.{Sum, Cut}
use Rattle.calculus.specs.declared.refusals.Refusal.{Refusal}
use Rattle.calculus.specs.declared.refusals.Refusal.TheVariants.{Wide}
use Rattle.calculus.specs.declared.sides.Side.{Side}
use Rattle.calculus.specs.declared.sides.Side.TheVariants.{Low, High}
use Rattle.calculus.specs.declared.trails.Entry.{Entry}

-- two lists of coefficients added place by place, a missing one counting as 0
abbrev pub added_coefs : List ℤ → List ℤ → List ℤ
added_coefs [] ds = ds
added_coefs (c ∷ cs) [] = c ∷ cs
added_coefs (c ∷ cs) (d ∷ ds) = (c +ℤ d) ∷ added_coefs cs ds

-- k times a row and m times another
abbrev pub combined : ℕ → Row → ℕ → Row → Row
combined k p m q = record {
  coefs = added_coefs (map (λ c. pos k *ℤ c) p.coefs) (map (λ c. pos m *ℤ c) q.coefs);
  constant = pos k *ℤ p.constant +ℤ pos m *ℤ q.constant;
}

-- a row and m times another
abbrev pub plus : Row → ℕ → Row → Row
plus p m q = record {
  coefs = added_coefs p.coefs (map (λ c. pos m *ℤ c) q.coefs);
  constant = p.constant +ℤ pos m *ℤ q.constant;
}

-- every coefficient lies within the limit of formed ones
abbrev pub light : List ℤ → Bool
light [] = true
light (c ∷ cs) = near formed_coefficient_limit c && light cs

-- a formed row keeps to its limits; one that does not is wide
abbrev pub fits : Row → Bool
fits r = light r.coefs && near formed_constant_limit r.constant

-- a low entry matches a positive coefficient, a high entry a negative one, and nothing matches 0
abbrev pub matches : Side → ℤ → Bool
matches Low (pos zero) = false
matches Low (pos (suc a)) = true
matches Low (negsuc a) = false
matches High (pos a) = false
matches High (negsuc a) = true

-- the line that implied an entry; 0 for a decided one
abbrev pub reason : Option ℕ → ℕ
reason None = 0
reason (Some q) = q

-- the reason of the newest entry on x of side s; 0 where there is none (in a run on a ticket a partner is always there, and implied)
abbrev pub reason_of : Side → ℕ → Trail → ℕ
reason_of s x [] = 0
reason_of s x (e ∷ t) = here_or (on s x e) (reason e.cause) (reason_of s x t)

-- the least number of times that moves a coefficient, away from 0 and by 1 each time, to a multiple of d
abbrev pub lacking : ℕ → ℤ → ℕ
lacking d c = (d - unsigned_abs c % d) % d

-- Tightening underway: the work row, the open part, the work row's line and the lines; or stopped by a refusal.
pub data Narrowing : Type 0 where
  going : Row → Row → ℕ → List Line → Narrowing
  stopped : Refusal → List Line → Narrowing

-- what a written sum leaves
abbrev pub outcome : Written → Row → Row → Narrowing
outcome (Ok line, ls) row part = going row part line ls
outcome (Err r, ls) row part = stopped r ls

-- the sum's line, where the sum and the open part keep to the limits of formed rows; both are looked at before it
abbrev pub summed_by : Bool → ℕ → ℕ → ℕ → Row → Row → ℕ → List Line → Narrowing
summed_by false capacity m q row part line ls = stopped Wide ls
summed_by true capacity m q row part line ls = outcome (written capacity (Sum line q 1 m) row ls) row part

-- line q added m times to the work row and to the open part; no line where m is 0
abbrev pub summed : ℕ → ℕ → ℕ → Row → Row → ℕ → List Line → Narrowing
summed capacity zero q row part line ls = going row part line ls
summed capacity (suc m) q row part line ls =
    let row' = plus row (suc m) (line_row ls q) in
    let part' = plus part (suc m) (line_row ls q) in
    summed_by (fits row' && fits part') capacity (suc m) q row' part' line ls

-- the term of y is set aside: it leaves the open part
abbrev pub aside : ℕ → Narrowing → Narrowing
aside y (going row part line ls) = going row (without y part) line ls
aside y (stopped r ls) = stopped r ls

-- a matching entry with open coefficient c, over the trail t below it. Implied: its reason is added |c| times. Decided: the reason of
-- its partner, the newest entry below of the other side, is added the least number of times, and then the term is set aside.
abbrev pub matched : Option ℕ → ℕ → ℕ → Entry → Trail → ℤ → Row → Row → ℕ → List Line → Narrowing
matched (Some q) capacity d e t c row part line ls = summed capacity (unsigned_abs c) q row part line ls
matched None capacity d e t c row part line ls =
    aside e.unknown (summed capacity (lacking d c) (reason_of (turned_side e.side) e.unknown t) row part line ls)

-- an entry that does not match is passed by
abbrev pub narrowed_by : Bool → ℕ → ℕ → Entry → Trail → ℤ → Row → Row → ℕ → List Line → Narrowing
narrowed_by true capacity d e t c row part line ls = matched e.cause capacity d e t c row part line ls
narrowed_by false capacity d e t c row part line ls = going row part line ls

-- one entry over the trail t below it
abbrev pub narrowed_one : ℕ → ℕ → Entry → Trail → Row → Row → ℕ → List Line → Narrowing
narrowed_one capacity d e t row part line ls =
    let c = coef part.coefs e.unknown in
    narrowed_by (matches e.side c) capacity d e t c row part line ls

-- the trail read downwards
abbrev pub narrowed : ℕ → ℕ → Trail → Narrowing → Narrowing
narrowed capacity d [] w = w
narrowed capacity d (e ∷ t) (going row part line ls) = narrowed capacity d t (narrowed_one capacity d e t row part line ls)
narrowed capacity d (e ∷ t) (stopped r ls) = stopped r ls

-- a coefficient stays open unless it is a multiple of d
abbrev pub left_open : ℕ → ℤ → ℤ
left_open d c = here_or (unsigned_abs c % d == 0) (pos 0) c

-- the open part at first: the row without the terms that are multiples of d. The term of x itself is one of them.
abbrev pub open_part : ℕ → Row → Row
open_part d r = record { coefs = map (left_open d) r.coefs; constant = r.constant }

-- the cut by d at the end, if d is 2 or more; else the line stays
abbrev pub finished_by : Bool → ℕ → ℕ → Row → ℕ → List Line → Written
finished_by true capacity d row line ls = written capacity (Cut line d) (cut d row) ls
finished_by false capacity d row line ls = (Ok line, ls)

-- what tightening comes to: the line of the tight row, new or the row's own; or a refusal
abbrev pub finished : ℕ → ℕ → Narrowing → Written
finished capacity d (going row part line ls) = finished_by (nat_le 2 d) capacity d row line ls
finished capacity d (stopped r ls) = (Err r, ls)

-- a row, whose own line is given, tightened for x under the trail t; the divisor is the absolute value of its coefficient there
abbrev pub tightened : ℕ → Trail → Row → ℕ → ℕ → List Line → Written
tightened capacity t row line x ls =
    let d = unsigned_abs (coef row.coefs x) in
    finished capacity d (narrowed capacity d t (going row (open_part d row) line ls))
