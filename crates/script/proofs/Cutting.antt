-- A line is its first word and what follows.
use Rattle.std.proofs.Common.{◌≡◌, ℕ, zero, suc, ◌-◌, ◌<◌, ◌≤◌, true, false, List, [], ◌∷◌, length, get_or, take, drop, add-zero, refl, ap, ◌∙◌, arith, length-drop}
use Rattle.std.proofs.lemmas.List.{drop_all, take_rest, get_or-drop}
use Rattle.script.specs.Words.{blank, front, words, words_past}

-- blanks in front change no word
blanks_past : (line : List ℕ) (start : ℕ) → start ≤ length line → ((k : ℕ) → k < start → blank (get_or line k 0) ≡ true) →
    words line ≡ words (drop start line)
blanks_past line zero within all = refl
blanks_past [] (suc start) within all = refl
blanks_past (b ∷ bs) (suc start) within all =
    let e = all 0 (omega arith) in
    simp e (blanks_past bs start (omega arith) (λ k less. all (suc k) (omega arith)))

pub no_word : (line : List ℕ) → ((k : ℕ) → k < length line → blank (get_or line k 0) ≡ true) → words line ≡ []
no_word line all = blanks_past line (length line) (omega arith) all ∙ ap words (drop_all (length line) line (omega arith))

-- a word goes on before the next blank
abbrev pub EndsAt : List ℕ → ℕ → Type 0
EndsAt text end = ((k : ℕ) → k < end → blank (get_or text k 0) ≡ false) × (end < length text → blank (get_or text end 0) ≡ true)

-- inside a word, the words to come are those after it
inside : (text : List ℕ) (end : ℕ) → EndsAt text end → (front text ≡ take end text) × (words_past true text ≡ words (drop end text))
inside [] zero h = (refl, refl)
inside [] (suc end) h = (refl, refl)
inside (b ∷ bs) zero h = let e = h.1 (omega arith) in simp e (refl, refl)
inside (b ∷ bs) (suc end) h =
    let e = h.0 0 (omega arith) in
    let i = inside bs end (λ k less. h.0 (suc k) (omega arith), λ less. h.1 (omega arith)) in
    simp e (ap (λ (w : List ℕ). b ∷ w) i.0, i.1)

first : (text : List ℕ) (end : ℕ) → 0 < length text → blank (get_or text 0 0) ≡ false → EndsAt text end →
    words text ≡ take end text ∷ words (drop end text)
first [] end some e h = absurd (omega arith)
first (b ∷ bs) end some e h =
    let i = inside (b ∷ bs) end h in
    let j = (simp e at i) in
    simp e (λ x. j.0 x ∷ j.1 x)

-- the first word, as the code cuts it
pub first_word : (line : List ℕ) (start end : ℕ) → start < length line → ((k : ℕ) → k < start → blank (get_or line k 0) ≡ true) →
    blank (get_or line start 0) ≡ false → EndsAt (take (length line - start) (drop start line)) end →
    words line ≡ take end (take (length line - start) (drop start line)) ∷ words (drop end (take (length line - start) (drop start line)))
first_word line start end within all e h =
    let t = take_rest line start in
    let some = length-drop start line in
    let b : get_or (drop start line) 0 0 ≡ get_or line start 0 = get_or-drop start line 0 0 ∙ ap (λ (k : ℕ). get_or line k 0) (add-zero start) in
    let j = (simp t at h) in
    simp t (blanks_past line start (omega arith) all ∙ first (drop start line) end (omega arith) (ap blank b ∙ e) j)
