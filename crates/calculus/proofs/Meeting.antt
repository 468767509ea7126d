-- Within the ranges and meeting rows, place by place and part by part.
-- It rests on `Reduction`.
use Rattle.std.proofs.Common.{◌≡◌, ℕ, zero, suc, ◌<◌, List, [], ◌∷◌, ◌++◌, length, get_or, ℤ, ◌≤ℤ◌, sym, refl, ap, subst, arith}
use Rattle.std.specs.List.{ContainsAt as Has, AllByRecursion}
use Rattle.std.proofs.ByRecursion.{All-append, All-take, all-has, All-get_or, All-from_get_or, All-weaker}
use Rattle.calculus.specs.Laws.{DoubleSame, WithinEach, MeetsEach, MeetsTogether, MeetsFirst, MeetsPart}
use Rattle.calculus.specs.Rows.{Row, Standing, coef, Meets, Within}
use Rattle.calculus.specs.declared.ranges.Range.{Range}
use Rattle.calculus.proofs.Reduction.{reduced_same, double_decides}

abbrev Inside : Range → ℤ → Type 0
Inside r x = (r.low ≤ℤ x) × (x ≤ℤ r.high)

within_to : (rs : List Range) (xs : List ℤ) (d : Range) → Within rs xs →
    (length xs ≡ length rs) × ((i : ℕ) → i < length rs → Inside (get_or rs i d) (coef xs i))
within_to [] [] d h = (refl, λ i l. absurd (omega arith))
within_to [] (x ∷ xs) d h = absurd h
within_to (r ∷ rs) [] d h = absurd h
within_to (r ∷ rs) (x ∷ xs) d h =
    let rest = within_to rs xs d h.2 in
    (ap suc rest.0, places rest)
  where
    places : (length xs ≡ length rs) × ((i : ℕ) → i < length rs → Inside (get_or rs i d) (coef xs i)) →
        (i : ℕ) → i < length (r ∷ rs) → Inside (get_or (r ∷ rs) i d) (coef (x ∷ xs) i)
    places rest zero l = (h.0, h.1)
    places rest (suc i) l = rest.1 i (omega arith)

within_from : (rs : List Range) (xs : List ℤ) (d : Range) → length xs ≡ length rs →
    ((i : ℕ) → i < length rs → Inside (get_or rs i d) (coef xs i)) → Within rs xs
within_from [] [] d e h = tt
within_from [] (x ∷ xs) d e h = absurd (omega arith)
within_from (r ∷ rs) [] d e h = absurd (omega arith)
within_from (r ∷ rs) (x ∷ xs) d e h =
    let first = h 0 (omega arith) in
    (first.0, first.1, within_from rs xs d (omega arith) (λ i l. h (suc i) (omega arith)))

pub within_each : WithinEach
within_each rs xs d = (within_to rs xs d, within_from rs xs d)

pub meets_each : MeetsEach
meets_each xs rows d =
    (λ h i l. All-get_or (λ s. Meets xs s.row) rows i d l h, λ h. All-from_get_or (λ s. Meets xs s.row) rows d h)

parts : (P : Standing → Type 0) (rows more : List Standing) → AllByRecursion P (rows ++ more) →
    AllByRecursion P rows × AllByRecursion P more
parts P [] more h = (tt, h)
parts P (s ∷ rows) more h = let rest = parts P rows more h.1 in ((h.0, rest.0), rest.1)

pub meets_together : MeetsTogether
meets_together xs rows more =
    (parts (λ s. Meets xs s.row) rows more, λ h k. All-append (λ s. Meets xs s.row) rows more h k)

pub meets_first : MeetsFirst
meets_first xs k rows h = All-take (λ s. Meets xs s.row) k rows h

pub meets_part : MeetsPart
meets_part xs rows part among h =
    All-weaker (λ s. Has rows s) (λ s. Meets xs s.row) (λ s k. all-has (λ s. Meets xs s.row) rows s h k) part among

pub double_same : DoubleSame
double_same xs s t e =
    let same = (double_decides s t).0 e in (
      λ h. (reduced_same xs t.row).1 (subst (λ (r : Row). Meets xs r) same ((reduced_same xs s.row).0 h)),
      λ h. (reduced_same xs s.row).1 (subst (λ (r : Row). Meets xs r) (sym same) ((reduced_same xs t.row).0 h)),
    )
