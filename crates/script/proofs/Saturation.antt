-- Numbers that are cut off at the end of a type.
use Rattle.std.proofs.Common.{◌≡◌, ℕ, ◌+◌, ◌-◌, ◌*◌, ◌^◌, ◌<◌, ◌≤◌, min, Bool, true, false, cond, List, [], ◌∷◌, length, get_or, drop, Some, None, refl, ap, ◌∙◌, arith}
use Rattle.std.proofs.lemmas.List.{drop_more, drop_all}
use Rattle.std.specs.Option.{option_map}
use Rattle.script.specs.Numbers.{digit, digits_after}

abbrev pub cut : ℕ → ℕ
cut n = min n (2 ^ 64 - 1)

-- what comes after the digits so far depends on them only as far as the type holds them
pub cut_after : (m n : ℕ) (bs : List ℕ) → cut m ≡ cut n → option_map cut (digits_after m bs) ≡ option_map cut (digits_after n bs)
cut_after m n [] e = ap Some e
cut_after m n (b ∷ bs) e =
    let on = cut_after (10 * m + (b - 48)) (10 * n + (b - 48)) bs (omega arith) in
    elim (digit b) as (λ (t : Bool). option_map cut (cond t (digits_after (10 * m + (b - 48)) bs) None) ≡ option_map cut (cond t (digits_after (10 * n + (b - 48)) bs) None))
    [ true ↦ on | false ↦ refl ]

-- a byte that is no digit
pub cut_none : (n : ℕ) (text : List ℕ) (i : ℕ) → i < length text → digit (get_or text i 0) ≡ false → None ≡ option_map cut (digits_after n (drop i text))
cut_none n text i h e = let d = drop_more text i 0 h in simp (d, e)

-- one digit more
pub cut_more : (n r : ℕ) (text : List ℕ) (i : ℕ) → i < length text → digit (get_or text i 0) ≡ true → r ≡ cut (cut (n * 10) + (get_or text i 0 - 48)) →
    option_map cut (digits_after r (drop (i + 1) text)) ≡ option_map cut (digits_after n (drop i text))
cut_more n r text i h e is =
    let d = drop_more text i 0 h in
    let on = cut_after r (10 * n + (get_or text i 0 - 48)) (drop (i + 1) text) (omega arith) in
    on ∙ simp (d, e)

-- no digit more
pub cut_end : (n : ℕ) (text : List ℕ) (i : ℕ) → length text ≤ i → n < 2 ^ 64 → Some n ≡ option_map cut (digits_after n (drop i text))
cut_end n text i h f = let d = drop_all i text h in let e : n ≡ cut n = omega arith in ap Some e ∙ simp d
