-- Lists by place, and the first place that answers.
use Rattle.std.specs.Prelude.{ℕ, zero, suc, Bool, true, false, List, [], ◌∷◌, ◌++◌, Some, None, Option}

-- f 0, f 1, .. f (n - 1)
abbrev pub table : {X : Type 0} → (ℕ → X) → ℕ → List X
table f zero = []
table f (suc n) = table f n ++ f n ∷ []

-- y where a test holds, and else nothing
abbrev pub picked : {Y : Type 0} → Bool → Y → Option Y
picked true y = Some y
picked false y = None

-- this place where its test holds, and else what comes of the later ones
abbrev pub place_or : Bool → ℕ → Option ℕ → Option ℕ
place_or true i later = Some i
place_or false i later = later

-- the first of the k places i, i + 1, .. at which a test holds
abbrev pub first_place : (ℕ → Bool) → ℕ → ℕ → Option ℕ
first_place test i zero = None
first_place test i (suc k) = place_or (test i) i (first_place test (suc i) k)

-- this place with its answer where it has one, and else what comes of the later ones
abbrev pub answer_or : {Y : Type 0} → ℕ → Option Y → Option (ℕ × Y) → Option (ℕ × Y)
answer_or i (Some y) later = Some (i, y)
answer_or i None later = later

-- the first of the k places i, i + 1, .. that has an answer, with it
abbrev pub first_answer : {Y : Type 0} → (ℕ → Option Y) → ℕ → ℕ → Option (ℕ × Y)
first_answer f i zero = None
first_answer f i (suc k) = answer_or i (f i) (first_answer f (suc i) k)
