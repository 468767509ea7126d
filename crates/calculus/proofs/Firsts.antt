-- The first place that answers: what is there and what is before it; then the first conflict and the first propagating pair.
-- It rests on the definitions and the library alone.
use Rattle.std.proofs.Common.{◌≡◌, ℕ, zero, suc, ◌+◌, ◌<◌, ◌≤◌, Bool, true, false, List, length, Some, None, Option, refl, ap, ◌∙◌, subst, ⊎_elim, arith}
use Rattle.std.proofs.lemmas.Bool.{cases_eq}
use Rattle.calculus.specs.Bounds.{Trail, row_at, fails_under, better_under, lowest}
use Rattle.calculus.specs.MoveLaws.{FirstConflict, FirstPair}
use Rattle.calculus.specs.Rows.{Row}
use Rattle.calculus.specs.Tables.{place_or, first_place, answer_or, first_answer}
use Rattle.calculus.specs.declared.ranges.Range.{Range}
use Rattle.calculus.specs.declared.trails.Bound.{Bound}

-- p is one of the k places from i and has the value y, and each place from i before it has the value n
abbrev pub First : {A : Type 0} → (ℕ → A) → A → ℕ → ℕ → ℕ → A → Type 0
First f n i k p y = (i ≤ p) × (p < i + k) × (f p ≡ y) × ((q : ℕ) → i ≤ q → q < p → f q ≡ n)

-- all the k places from i have the value n
abbrev pub Passed : {A : Type 0} → (ℕ → A) → A → ℕ → ℕ → Type 0
Passed f n i k = (q : ℕ) → i ≤ q → q < i + k → f q ≡ n

module _ {A : Type 0} (f : ℕ → A) (n : A) (i k : ℕ) where
  first_here : {y : A} → f i ≡ y → First f n i (suc k) i y
  first_here e = (omega arith, omega arith, e, λ q a b. absurd (omega arith))

  -- what holds of each later place before some end, and of i, holds of each from i on
  from_here : {e : ℕ} → f i ≡ n → ((q : ℕ) → suc i ≤ q → q < e → f q ≡ n) → (q : ℕ) → i ≤ q → q < e → f q ≡ n
  from_here h later q a b = ⊎_elim (λ s. ap f s ∙ h) (λ s. later q (omega arith) b) (cases_eq q i)

  first_later : {p : ℕ} {y : A} → f i ≡ n → First f n (suc i) k p y → First f n i (suc k) p y
  first_later h r = (omega arith, omega arith, r.2, from_here h r.3)

  passed_later : f i ≡ n → Passed f n (suc i) k → Passed f n i (suc k)
  passed_later h r q a b = from_here h r q a (omega arith)

-- what a look for a place says
abbrev PlaceFound : (ℕ → Bool) → ℕ → ℕ → Option ℕ → Type 0
PlaceFound f i k (Some p) = First f false i k p true
PlaceFound f i k None = Passed f false i k

place_found : (f : ℕ → Bool) (i k : ℕ) → PlaceFound f i k (first_place f i k)
place_found f i zero = λ q a b. absurd (omega arith)
place_found f i (suc k) = by (f i) refl (first_place f (suc i) k) (place_found f (suc i) k)
  where
    by : (b : Bool) → f i ≡ b → (o : Option ℕ) → PlaceFound f (suc i) k o → PlaceFound f i (suc k) (place_or b i o)
    by true h o r = first_here f false i k h
    by false h (Some p) r = first_later f false i k h r
    by false h None r = passed_later f false i k h r

pub place_some : (f : ℕ → Bool) (i k p : ℕ) → first_place f i k ≡ Some p → First f false i k p true
place_some f i k p e = subst (PlaceFound f i k) e (place_found f i k)

pub place_none : (f : ℕ → Bool) (i k : ℕ) → first_place f i k ≡ None → Passed f false i k
place_none f i k e = subst (PlaceFound f i k) e (place_found f i k)

-- what a look for an answer says
abbrev AnswerFound : {Y : Type 0} → (ℕ → Option Y) → ℕ → ℕ → Option (ℕ × Y) → Type 0
AnswerFound f i k (Some (p, y)) = First f None i k p (Some y)
AnswerFound f i k None = Passed f None i k

answer_found : {Y : Type 0} (f : ℕ → Option Y) (i k : ℕ) → AnswerFound f i k (first_answer f i k)
answer_found f i zero = λ q a b. absurd (omega arith)
answer_found {Y} f i (suc k) = by (f i) refl (first_answer f (suc i) k) (answer_found f (suc i) k)
  where
    by : (b : Option Y) → f i ≡ b → (o : Option (ℕ × Y)) → AnswerFound f (suc i) k o → AnswerFound f i (suc k) (answer_or i b o)
    by (Some y) h o r = first_here f None i k h
    by None h (Some (p, y)) r = first_later f None i k h r
    by None h None r = passed_later f None i k h r

pub answer_some : {Y : Type 0} (f : ℕ → Option Y) (i k p : ℕ) (y : Y) → first_answer f i k ≡ Some (p, y) → First f None i k p (Some y)
answer_some f i k p y e = subst (AnswerFound f i k) e (answer_found f i k)

pub answer_none : {Y : Type 0} (f : ℕ → Option Y) (i k : ℕ) → first_answer f i k ≡ None → Passed f None i k
answer_none f i k e = subst (AnswerFound f i k) e (answer_found f i k)

pub first_conflict : FirstConflict
first_conflict rs rows t =
    let f : ℕ → Bool = λ p. fails_under rs t (row_at rows p) in (
      λ p e. let r = place_some f 0 (length rows) p e in (omega arith, r.2, λ q l. r.3 q (omega arith) l),
      λ e q l. place_none f 0 (length rows) e q (omega arith) (omega arith),
    )

pub none_better : (rs : List Range) (t : Trail) (r : Row) → lowest rs t r ≡ None → (y : ℕ) → y < length rs → better_under rs t r y ≡ None
none_better rs t r e y l = answer_none (better_under rs t r) 0 (length rs) e y (omega arith) (omega arith)

pub first_pair : FirstPair
first_pair rs rows t =
    let f : ℕ → Option (ℕ × Bound) = λ p. lowest rs t (row_at rows p) in (
      λ p x b e. let r = answer_some f 0 (length rows) p (x, b) e in
          let s = answer_some (better_under rs t (row_at rows p)) 0 (length rs) x b r.2 in (
            omega arith,
            omega arith,
            s.2,
            λ y l. s.3 y (omega arith) l,
            λ q y l h. none_better rs t (row_at rows q) (r.3 q (omega arith) l) y h,
          ),
      λ e q y l h. none_better rs t (row_at rows q) (answer_none f 0 (length rows) e q (omega arith) (omega arith)) y h,
    )
