-- A text cut at its first newline.
use Rattle.std.proofs.Common.{◌≡◌, ℕ, zero, suc, ◌+◌, ◌-◌, ◌<◌, ◌≤◌, Bool, true, false, cond, eqb, List, [], ◌∷◌, length, get_or, take, drop, sym, ap, ◌∙◌, arith, add-one, eq-eqb, ne_eqb}
use Rattle.std.proofs.lemmas.List.{take_rest}
use Rattle.day.specs.Lines.{lines, before_first}

-- no newline stands before a place
abbrev pub IsFree : List ℕ → ℕ → Type 0
IsFree bs end = (k : ℕ) → k < end → get_or bs k 0 ≡ 10 → ⊥

-- the lines of a text with a newline: its first line, and those of what follows the newline
cut_line : (bs : List ℕ) (end : ℕ) → end < length bs → IsFree bs end → get_or bs end 0 ≡ 10 → lines bs ≡ take end bs ∷ lines (drop (suc end) bs)
cut_line [] end less free here = absurd (omega arith)
cut_line (b ∷ bs) zero less free here = let e = eq-eqb b 10 here in simp e
cut_line (b ∷ bs) (suc end) less free here =
    let e = ne_eqb b 10 (free 0 (omega arith)) in
    simp e (ap (before_first b) (cut_line bs end (omega arith) (λ k l. free (suc k) (omega arith)) here))

-- the same, as the code takes what follows
pub cut_at : (bs : List ℕ) (end : ℕ) → end < length bs → IsFree bs end → get_or bs end 0 ≡ 10 →
    lines bs ≡ take end bs ∷ lines (take (length bs - (end + 1)) (drop (end + 1) bs))
cut_at bs end less free here =
    cut_line bs end less free here
    ∙ ap (λ (rest : List ℕ). take end bs ∷ lines rest) (ap (λ (n : ℕ). drop n bs) (sym (add-one end)) ∙ sym (take_rest bs (end + 1)))

-- a text with no newline is one line
pub last_line : (bs : List ℕ) → 0 < length bs → IsFree bs (length bs) → lines bs ≡ bs ∷ []
last_line [] some free = absurd (omega arith)
last_line (b ∷ []) some free = let e = ne_eqb b 10 (free 0 (omega arith)) in simp e
last_line (b ∷ c ∷ bs) some free =
    let e = ne_eqb b 10 (free 0 (omega arith)) in
    simp e (ap (before_first b) (last_line (c ∷ bs) (omega arith) (λ k l. free (suc k) (omega arith))))

few_by : (t : Bool) (b : ℕ) (bs : List ℕ) → length (lines bs) ≤ length bs → length (cond t ([] ∷ lines bs) (before_first b (lines bs))) ≤ suc (length bs)
few_by true b bs h = omega arith
few_by false b bs h = grown (lines bs) h
  where
    grown : (ls : List (List ℕ)) → length ls ≤ length bs → length (before_first b ls) ≤ suc (length bs)
    grown [] k = omega arith
    grown (l ∷ ls) k = omega arith

-- no more lines than bytes
pub few_lines : (bs : List ℕ) → length (lines bs) ≤ length bs
few_lines [] = omega arith
few_lines (b ∷ bs) = few_by (eqb b 10) b bs (few_lines bs)
