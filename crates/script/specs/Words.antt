-- The words of a line.
use Rattle.std.specs.Prelude.{ℕ, Bool, true, false, cond, ◌||◌, List, [], ◌∷◌, ◌==◌}

-- a space (32), a tab (9) or a carriage return (13)
abbrev pub blank : ℕ → Bool
blank b = b == 32 || (b == 9 || b == 13)

-- the bytes before the first blank
abbrev pub front : List ℕ → List ℕ
front [] = []
front (b ∷ bs) = cond (blank b) [] (b ∷ front bs)

-- The words of what is left of a line; `inside` says that the byte before belongs to a word.
-- A word begins at a byte that is no blank and that stands first or after a blank, and it ends before the next blank.
abbrev pub words_past : Bool → List ℕ → List (List ℕ)
words_past inside [] = []
words_past inside (b ∷ bs) =
    cond (blank b) (words_past false bs) (cond inside (words_past true bs) (front (b ∷ bs) ∷ words_past true bs))

-- the words of a line
abbrev pub words : List ℕ → List (List ℕ)
words line = words_past false line
