-- Laws of the definitions, in the subject's words. Functions of src/laws.rt name them, so that each is proved.
use Rattle.std.specs.Prelude.{◌≡◌, ℕ, ◌-◌, ◌<◌, ◌≤◌, Bool, true, ◌&&◌, List, [], ◌∷◌, ◌++◌, map, length, get_or, take, replicate, ℤ, pos, ◌+ℤ◌, ◌*ℤ◌, ◌≤ℤ◌, ◌<ℤ◌, Err, nat_le, slice_index_or, unsigned_abs}
use Rattle.std.specs.Int.{◌∣◌}
use Rattle.std.specs.List.{range_with_len, ContainsAt as Has, AllByRecursion}
use Rattle.calculus.specs.Account.{Account, Test, answered, declare_tests, add_tests, with_mark, returned}
use Rattle.calculus.specs.Arithmetic.{floor, ceiling, divisor, common}
use Rattle.calculus.specs.Refusals.{nothing, moves, line, held, offset, listed, all_refusals}
use Rattle.calculus.specs.Rows.{Row, Standing, coef, Meets, MeetsAll, Within, row_divisor, reduced, double}
use Rattle.calculus.specs.declared.ranges.Range.{Range}
use Rattle.calculus.specs.declared.refusals.Refusal.{Refusal}
use Rattle.calculus.specs.declared.refusals.Refusal.TheVariants.{Shape}

-- the floor is the last whole number whose k-fold is at most z
abbrev pub FloorRoundsDown : Type 0
FloorRoundsDown = (z : ℤ) (k : ℕ) → 0 < k →
    ((pos k *ℤ floor z k) ≤ℤ z) × (z <ℤ (pos k *ℤ (floor z k +ℤ pos 1)))

-- the ceiling is the first whole number whose k-fold is at least z
abbrev pub CeilingRoundsUp : Type 0
CeilingRoundsUp = (z : ℤ) (k : ℕ) → 0 < k →
    (z ≤ℤ (pos k *ℤ ceiling z k)) × ((pos k *ℤ ceiling z k) <ℤ (z +ℤ pos k))

-- the divisor divides both numbers
abbrev pub DividesBoth : Type 0
DividesBoth = (a b : ℕ) → (divisor a b ∣ a) × (divisor a b ∣ b)

-- whatever divides both numbers divides the divisor
abbrev pub Greatest : Type 0
Greatest = (d a b : ℕ) → d ∣ a → d ∣ b → d ∣ divisor a b

-- the common divisor of a list divides each of its numbers
abbrev pub CommonDivides : Type 0
CommonDivides = (cs : List ℤ) → AllByRecursion (λ c. common cs ∣ unsigned_abs c) cs

-- whatever divides each number of a list divides their common divisor
abbrev pub CommonGreatest : Type 0
CommonGreatest = (d : ℕ) (cs : List ℤ) → AllByRecursion (λ c. d ∣ unsigned_abs c) cs → d ∣ common cs

-- the coefficients of a row are those of its reduced form, times the row's divisor
abbrev pub ReducedDivides : Type 0
ReducedDivides = (r : Row) (i : ℕ) → pos (row_divisor r.coefs) *ℤ coef (reduced r).coefs i ≡ coef r.coefs i

-- the same assignments meet a row and its reduced form
abbrev pub ReducedSame : Type 0
ReducedSame = (xs : List ℤ) (r : Row) → (Meets xs r → Meets xs (reduced r)) × (Meets xs (reduced r) → Meets xs r)

-- a row without a coefficient is its own reduced form
abbrev pub ReducedPlain : Type 0
ReducedPlain = (r : Row) → AllByRecursion (λ c. c ≡ pos 0) r.coefs → reduced r ≡ r

-- a row is a double of another just where their reduced forms are equal
abbrev pub DoubleDecides : Type 0
DoubleDecides = (s t : Standing) →
    (double s t ≡ true → reduced s.row ≡ reduced t.row) × (reduced s.row ≡ reduced t.row → double s t ≡ true)

-- whoever meets a row meets its doubles: to refuse one loses nothing
abbrev pub DoubleSame : Type 0
DoubleSame =
    (xs : List ℤ) (s t : Standing) → double s t ≡ true → (Meets xs s.row → Meets xs t.row) × (Meets xs t.row → Meets xs s.row)

-- an assignment lies within the ranges just where it has as many values and each lies in the range of its place
abbrev pub WithinEach : Type 0
WithinEach =
    (rs : List Range) (xs : List ℤ) (d : Range) →
    (Within rs xs → (length xs ≡ length rs) × ((i : ℕ) → i < length rs →
    ((get_or rs i d).low ≤ℤ coef xs i) × (coef xs i ≤ℤ (get_or rs i d).high)))
    × (length xs ≡ length rs → ((i : ℕ) → i < length rs → ((get_or rs i d).low ≤ℤ coef xs i) × (coef xs i ≤ℤ (get_or rs i d).high)) →
    Within rs xs)

-- an assignment meets all rows just where it meets the row at each place
abbrev pub MeetsEach : Type 0
MeetsEach =
    (xs : List ℤ) (rows : List Standing) (d : Standing) →
    (MeetsAll xs rows → (i : ℕ) → i < length rows → Meets xs (get_or rows i d).row)
    × (((i : ℕ) → i < length rows → Meets xs (get_or rows i d).row) → MeetsAll xs rows)

-- an assignment meets rows put together just where it meets both parts
abbrev pub MeetsTogether : Type 0
MeetsTogether =
    (xs : List ℤ) (rows more : List Standing) →
    (MeetsAll xs (rows ++ more) → MeetsAll xs rows × MeetsAll xs more)
    × (MeetsAll xs rows → MeetsAll xs more → MeetsAll xs (rows ++ more))

-- whoever meets the rows meets the first so many of them
abbrev pub MeetsFirst : Type 0
MeetsFirst = (xs : List ℤ) (k : ℕ) (rows : List Standing) → MeetsAll xs rows → MeetsAll xs (take k rows)

-- whoever meets the rows meets whichever rows are among them
abbrev pub MeetsPart : Type 0
MeetsPart = (xs : List ℤ) (rows part : List Standing) → AllByRecursion (λ s. Has rows s) part → MeetsAll xs rows → MeetsAll xs part

-- the refusals are numbered from 1 on, in the order of the table, without a gap
abbrev pub Numbered : Type 0
Numbered = map (λ r. (listed r).number) all_refusals ≡ range_with_len 1 (length all_refusals)

-- the first eight carry nothing, the next six moves, four the line, then one the lines held and one the byte offset
abbrev pub CarriedListed : Type 0
CarriedListed =
    map (λ r. (listed r).carried) all_refusals
    ≡ replicate 8 nothing ++ (replicate 6 moves ++ (replicate 4 line ++ (held ∷ offset ∷ [])))

-- every refusal stands in the table at the place of its number, so that no two have one number
abbrev pub EachListed : Type 0
EachListed = (r : Refusal) → slice_index_or all_refusals ((listed r).number - 1) Shape ≡ r

-- the numbers of a list of tests never fall, and none is below n
abbrev pub rising : ℕ → List Test → Bool
rising n [] = true
rising n (t ∷ ts) = nat_le n (listed t.refusal).number && rising (listed t.refusal).number ts

-- where several refusals apply, the answer has the smallest number; `given` is what the call gives where none does
abbrev pub Smallest : {A : Type 0} → A → Type 0
Smallest given = (ts : List Test) (r : Refusal) → rising 0 ts ≡ true → answered ts given ≡ Err r →
    AllByRecursion (λ t. t.applies ≡ true → (listed r).number ≤ (listed t.refusal).number) ts

-- so it is for calls that give nothing and for declaring, which gives a number
abbrev pub SmallestFirst : Type 0
SmallestFirst = Smallest {A = Unit {0}} tt × ((k : ℕ) → Smallest k)

-- the tests of declaring and adding rise
abbrev pub TestsRise : Type 0
TestsRise =
    ((ranges : List Range) (low high : ℤ) → rising 0 (declare_tests ranges low high) ≡ true)
    × ((a : Account) (label : ℕ) (cs : List ℤ) (k : ℤ) → rising 0 (add_tests a label cs k) ≡ true)

-- whatever rows were added since a mark, returning to it gives back the account as it was before the mark
abbrev pub ReturnUndoes : Type 0
ReturnUndoes = (a : Account) (since : List Standing) →
    returned (record {
      ranges = a.ranges;
      rows = a.rows ++ since;
      marks = (with_mark a).marks;
    }) ≡ a
