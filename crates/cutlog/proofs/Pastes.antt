-- What stands where in a list that another was written into.
use Rattle.std.specs.Prelude.{◌≡◌, ℕ, ◌+◌, ◌<◌, ◌≤◌, List, ◌++◌, length, slice_index_or, slice_set}
use Rattle.std.proofs.Common.{add-one, arith, rules}
use Rattle.std.proofs.Math.Seq.{paste, paste-suc}
use Rattle.std.proofs.lemmas.List.{same_lists, places}

-- before the place
pub paste_before : {X : Type 0} (d s : List X) (at n x : ℕ) (z : X) → x < at → at ≤ length d → slice_index_or (paste d at s n) x z ≡ slice_index_or d x z
paste_before d s at n x z l h = search (rules, places)

-- within
pub paste_within : {X : Type 0} (d s : List X) (at n x j : ℕ) (z : X) → x ≡ at + j → j < n → at ≤ length d → n ≤ length s →
    slice_index_or (paste d at s n) x z ≡ slice_index_or s j z
paste_within d s at n x j z e l h k = search (rules, places)

-- one more
pub paste_more : {X : Type 0} (d s : List X) (at n x : ℕ) (z : X) → x ≡ at + n → at + n < length d → n < length s →
    slice_set (paste d at s n) x (slice_index_or s n z) ≡ paste d at s (n + 1)
paste_more d s at n x z e l h = rw (e, add-one) (paste-suc d at s n z l h)

-- one list written behind another
pub paste_paste : {X : Type 0} (d s t : List X) (at n m next : ℕ) → next ≡ at + n → length s ≡ n → at + n + m ≤ length d → m ≤ length t →
    paste (paste d at s n) next t m ≡ paste d at (s ++ t) (n + m)
paste_paste d s t at n m next e k l h = same_lists _ _ (search (rules, places)) (λ x z q. grind (arith, places))
