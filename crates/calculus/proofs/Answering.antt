-- The first refusal that applies has the smallest number, each refusal stands once in the table, and a return undoes its mark.
-- It rests on the definitions and the library alone.
use Rattle.std.proofs.Common.{◌≡◌, ℕ, ◌≤◌, Bool, true, false, List, [], ◌∷◌, length, Err, refl, ap, subst, le_trans, arith}
use Rattle.std.specs.List.{AllByRecursion}
use Rattle.std.proofs.ByRecursion.{All-weaker}
use Rattle.std.proofs.lemmas.List.{take_at}
use Rattle.std.proofs.lemmas.Bool.Decides.{nat_tests}
use Rattle.std.proofs.lemmas.Bool.{both_ways}
use Rattle.calculus.specs.Account.{Test, answered, refused_by}
use Rattle.calculus.specs.Laws.{rising, EachListed, SmallestFirst, ReturnUndoes}
use Rattle.calculus.specs.Refusals.{listed}
use Rattle.calculus.specs.Rows.{Standing}
use Rattle.calculus.specs.declared.refusals.Refusal.{Refusal}
use Rattle.calculus.specs.declared.refusals.Refusal.TheVariants.{Shape, Range, Weight, Label, Double, Full, Marks, Unmarked}
use Rattle.calculus.specs.declared.refusals.Refusal.TheVariants.{List as NoList, Misfit, Spent, Long, Wide, Log, Kind, Operand}
use Rattle.calculus.specs.declared.refusals.Refusal.TheVariants.{Multiplier, Mismatch, Open, Frame}

abbrev number : Refusal → ℕ
number r = (listed r).number

rising_head : (n : ℕ) (t : Test) (ts : List Test) → rising n (t ∷ ts) ≡ true →
    (n ≤ number t.refusal) × (rising (number t.refusal) ts ≡ true)
rising_head n t ts h = (grind (arith, nat_tests), grind (arith, nat_tests))

rising_all : (n : ℕ) (ts : List Test) → rising n ts ≡ true → AllByRecursion (λ t. n ≤ number t.refusal) ts
rising_all n [] h = tt
rising_all n (t ∷ ts) h =
    let p = rising_head n t ts h in
    (p.0, All-weaker _ _ (λ u k. le_trans p.0 k) ts (rising_all (number t.refusal) ts p.1))

abbrev LeastOf : Refusal → List Test → Type 0
LeastOf r ts = AllByRecursion (λ t. t.applies ≡ true → number r ≤ number t.refusal) ts

smallest_by : {A : Type 0} (given : A) (b : Bool) (n : ℕ) (t : Test) (ts : List Test) (r : Refusal) → t.applies ≡ b →
    rising n (t ∷ ts) ≡ true →
    (answered ts given ≡ Err r → LeastOf r ts) →
    refused_by b t.refusal (answered ts given) ≡ Err r → LeastOf r (t ∷ ts)
smallest_by given true n t ts r e h others k =
    let same : t.refusal ≡ r = cc in
    let p = rising_head n t ts h in
    let here : number r ≤ number t.refusal = subst (λ (s : Refusal). number s ≤ number t.refusal) same (omega arith) in (
      λ _. here,
      All-weaker _ _ (λ u l _. subst (λ (s : Refusal). number s ≤ number u.refusal) same l) ts
          (rising_all (number t.refusal) ts p.1),
    )
smallest_by given false n t ts r e h others k = (λ a. absurd (both_ways _ e a), others k)

smallest : {A : Type 0} (given : A) (n : ℕ) (ts : List Test) (r : Refusal) → rising n ts ≡ true → answered ts given ≡ Err r → LeastOf r ts
smallest given n [] r h k = tt
smallest given n (t ∷ ts) r h k =
    smallest_by given t.applies n t ts r refl h (smallest given (number t.refusal) ts r (rising_head n t ts h).1) k

pub smallest_first : SmallestFirst
smallest_first = (λ ts r h k. smallest tt 0 ts r h k, λ m ts r h k. smallest m 0 ts r h k)

pub return_undoes : ReturnUndoes
return_undoes a since =
    ap (λ (rs : List Standing). record { ranges = a.ranges; rows = rs; marks = a.marks })
    (take_at a.rows since (length a.rows) refl)

pub each_listed : EachListed
each_listed Shape = refl
each_listed Range = refl
each_listed Weight = refl
each_listed Label = refl
each_listed Double = refl
each_listed Full = refl
each_listed Marks = refl
each_listed Unmarked = refl
each_listed NoList = refl
each_listed Misfit = refl
each_listed Spent = refl
each_listed Long = refl
each_listed Wide = refl
each_listed Log = refl
each_listed Kind = refl
each_listed Operand = refl
each_listed Multiplier = refl
each_listed Mismatch = refl
each_listed Open = refl
each_listed Frame = refl
