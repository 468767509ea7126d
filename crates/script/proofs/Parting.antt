-- The words of a line: whole, and all that is there.
use Rattle.std.proofs.Common.{◌≡◌, ℕ, ◌<◌, Bool, true, false, List, [], ◌∷◌, ◌++◌, length, refl, ap, arith}
use Rattle.std.specs.List.{flat_map, AllByRecursion}
use Rattle.script.specs.Laws.{WordsWhole, WordsKeep, unblanked}
use Rattle.script.specs.Words.{blank, front, words_past}

-- without a blank
abbrev pub Clear : List ℕ → Type 0
Clear w = AllByRecursion (λ b. blank b ≡ false) w

-- words that are whole
abbrev Whole : List (List ℕ) → Type 0
Whole ws = AllByRecursion (λ w. (0 < length w) × Clear w) ws

front_by : (t : Bool) (b : ℕ) (bs : List ℕ) → blank b ≡ t → Clear (front bs) → Clear (front (b ∷ bs))
front_by true b bs e on = simp e tt
front_by false b bs e on = simp e (refl, on)

front_clear : (bs : List ℕ) → Clear (front bs)
front_clear [] = tt
front_clear (b ∷ bs) = front_by (blank b) b bs refl (front_clear bs)

whole_by : (t inside : Bool) (b : ℕ) (bs : List ℕ) → blank b ≡ t → ((i : Bool) → Whole (words_past i bs)) → Whole (words_past inside (b ∷ bs))
whole_by true inside b bs e on = simp e (on false)
whole_by false true b bs e on = simp e (on true)
whole_by false false b bs e on = let f = front_clear bs in simp e ((omega arith, (refl, f)), on true)

whole : (bs : List ℕ) (inside : Bool) → Whole (words_past inside bs)
whole [] inside = tt
whole (b ∷ bs) inside = whole_by (blank b) inside b bs refl (whole bs)

pub words_whole : WordsWhole
words_whole line = whole line false

-- from outside a word, and from inside one
abbrev Keeps : List ℕ → Type 0
Keeps bs = (flat_map (λ w. w) (words_past false bs) ≡ unblanked bs) × (front bs ++ flat_map (λ w. w) (words_past true bs) ≡ unblanked bs)

keeps_by : (t : Bool) (b : ℕ) (bs : List ℕ) → blank b ≡ t → Keeps bs → Keeps (b ∷ bs)
keeps_by true b bs e on = (simp e on.0, simp e on.0)
keeps_by false b bs e on =
    let more = ap (λ (l : List ℕ). b ∷ l) on.1 in
    (simp e more, simp e more)

keeps : (bs : List ℕ) → Keeps bs
keeps [] = (refl, refl)
keeps (b ∷ bs) = keeps_by (blank b) b bs refl (keeps bs)

pub words_keep : WordsKeep
words_keep line = (keeps line).0
