-- Worked cases, computed from the definitions.
use Rattle.std.specs.Prelude.{◌≡◌, List, [], ◌∷◌, map, pos, negsuc, Ok, Err, codes}
use Rattle.calculus.specs.Account.{Account, settled, added, add_answer}
use Rattle.calculus.specs.Arithmetic.{floor, ceiling}
use Rattle.calculus.specs.Laws.{Numbered, EachListed}
use Rattle.calculus.specs.Refusals.{listed, all_refusals}
use Rattle.calculus.specs.Rows.{Row, Meets, Within, reduced}
use Rattle.calculus.specs.declared.ranges.Range.{Range}
use Rattle.calculus.specs.declared.refusals.Refusal.TheVariants.{Double}

-- 22y + 8z - 15 reduces to 11y + 4z - 7
abbrev pub Reduces : Type 0
Reduces =
    reduced (record { coefs = pos 22 ∷ pos 8 ∷ []; constant = negsuc 14 })
    ≡ record { coefs = pos 11 ∷ pos 4 ∷ []; constant = negsuc 6 }

-- x from 0 to 9, with the row x - 1 standing under label 1
abbrev pub one_row : Account
one_row = added (settled (record { low = pos 0; high = pos 9 } ∷ [])) 1 (pos 1 ∷ []) (negsuc 0)

-- with x - 1 standing, 2x - 3 is a double, under its label or another, and 2x - 4 is taken
abbrev pub Doubles : Type 0
Doubles =
    (add_answer one_row 1 (pos 2 ∷ []) (negsuc 2) ≡ Err Double)
    × (add_answer one_row 2 (pos 2 ∷ []) (negsuc 2) ≡ Err Double)
    × (add_answer one_row 1 (pos 2 ∷ []) (negsuc 3) ≡ Ok tt)

-- division rounds down and up, not towards zero
abbrev pub Rounds : Type 0
Rounds =
    (floor (negsuc 6) 2 ≡ negsuc 3) × (ceiling (negsuc 6) 2 ≡ negsuc 2)
    × (floor (pos 7) 2 ≡ pos 3) × (ceiling (pos 7) 2 ≡ pos 4)

-- one unknown from 1 to 3
abbrev pub one_range : List Range
one_range = record { low = pos 1; high = pos 3 } ∷ []

-- x - 2: x is at most 2
abbrev pub at_most_two : Row
at_most_two = record { coefs = pos 1 ∷ []; constant = negsuc 1 }

-- both ends of 1..3 lie within it, one past either does not, and neither does a list of another length;
-- 1 and 2 meet x - 2, and 3 does not
abbrev pub EndsIncluded : Type 0
EndsIncluded =
    (Within one_range (pos 1 ∷ []) × Within one_range (pos 3 ∷ []))
    × ((Within one_range (pos 0 ∷ []) → ⊥) × (Within one_range (pos 4 ∷ []) → ⊥))
    × ((Within one_range [] → ⊥) × (Within one_range (pos 1 ∷ pos 1 ∷ []) → ⊥))
    × (Meets (pos 1 ∷ []) at_most_two × Meets (pos 2 ∷ []) at_most_two × (Meets (pos 3 ∷ []) at_most_two → ⊥))

-- x - 1: x is at most 1
abbrev pub at_most_one : Row
at_most_one = record { coefs = pos 1 ∷ []; constant = negsuc 0 }

-- x - 1 is met at 1 and not at 2
abbrev pub MetToTheEnd : Type 0
MetToTheEnd = Meets (pos 1 ∷ []) at_most_one × (Meets (pos 2 ∷ []) at_most_one → ⊥)

-- the words of the refusals, in the order of the table
abbrev pub WordsListed : Type 0
WordsListed =
    map (λ r. (listed r).word) all_refusals
    ≡ codes "shape" ∷ codes "range" ∷ codes "weight" ∷ codes "label" ∷ codes "double" ∷ codes "full" ∷ codes "marks" ∷ codes "unmarked"
    ∷ codes "list" ∷ codes "misfit" ∷ codes "spent" ∷ codes "long" ∷ codes "wide" ∷ codes "log" ∷ codes "kind" ∷ codes "operand"
    ∷ codes "multiplier" ∷ codes "mismatch" ∷ codes "open" ∷ codes "frame" ∷ []

-- the numbers 1 to 20 and the words of all refusals, and no number twice
abbrev pub RefusalsListed : Type 0
RefusalsListed = Numbered × WordsListed × EachListed
