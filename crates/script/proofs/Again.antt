-- A printed row is parsed as the row that was printed.
use Rattle.std.proofs.Common.{◌≡◌, ℕ, suc, ◌^◌, ◌<◌, ◌≤◌, true, false, List, [], ◌∷◌, ◌++◌, map, length, ℤ, pos, negsuc, Some, Ok, decimal, sym, refl, ap, ◌∙◌, append_assoc, append-nil, arith, length-append, le-leb}
use lib.Signed.{mag}
use Rattle.std.specs.List.{flat_map, AllByRecursion}
use Rattle.std.specs.Int.{saturate_to_bits}
use Rattle.std.specs.Option.{option_map}
use Rattle.std.specs.Fmt.{signed_decimal}
use Rattle.std.specs.Str.Parse.{AllDigits}
use Rattle.std.proofs.lemmas.Fmt.{decimal_is_IsNumeral, decimal_nonempty}
use Rattle.std.proofs.lemmas.Bool.Decides.{nat_tests}
use Rattle.calculus.specs.Wording.{spaced}
use Rattle.script.specs.Commands.{add, parsed_row, parsed_add, some}
use Rattle.script.specs.Laws.{RowReadsBack}
use Rattle.script.specs.Numbers.{digit, nearest_i32, nearest_i64, as_label, label_of}
use Rattle.script.specs.Words.{blank, front, words, words_past}
use Rattle.script.proofs.Back.{digit_byte, reads_back, held}
use Rattle.script.proofs.Parting.{Clear}

digit_clear : (b : ℕ) → digit b ≡ true → blank b ≡ false
digit_clear b h = grind (arith, nat_tests)

clear_digits : (ds : List ℕ) → AllDigits 10 ds → Clear ds
clear_digits [] h = tt
clear_digits (d ∷ ds) h = (digit_clear d (digit_byte d h.0).0, clear_digits ds h.1)

clear_decimal : (n : ℕ) → n < 2 ^ 64 → Clear (decimal n)
clear_decimal n h = clear_digits (decimal n) (decimal_is_IsNumeral n h).0.1

clear_signed : (z : ℤ) → mag z < 2 ^ 63 → Clear (signed_decimal z) × (0 < length (signed_decimal z))
clear_signed (pos n) h = (clear_decimal n (omega arith), decimal_nonempty n (omega arith))
clear_signed (negsuc n) h = ((refl, clear_decimal (suc n) (omega arith)), omega arith)

inside_clear : (w rest : List ℕ) → Clear w → words_past true (w ++ rest) ≡ words_past true rest
inside_clear [] rest h = refl
inside_clear (b ∷ w) rest h = let e = h.0 in simp e (inside_clear w rest h.1)

front_clear : (w rest : List ℕ) → Clear w → front rest ≡ [] → front (w ++ rest) ≡ w
front_clear [] rest h e = e
front_clear (b ∷ w) rest h e = let c = h.0 in simp c (ap (λ (l : List ℕ). b ∷ l) (front_clear w rest h.1 e))

-- a word, and a blank or the end after it
word_then : (w rest : List ℕ) → 0 < length w → Clear w → front rest ≡ [] → words (w ++ rest) ≡ w ∷ words_past true rest
word_then [] rest some h e = absurd (omega arith)
word_then (b ∷ w) rest some h e =
    let c = h.0 in
    let f = front_clear w rest h.1 e in
    let i = inside_clear w rest h.1 in
    simp (c, f, i)

-- the text after a row's label
abbrev text : List ℤ → ℤ → List ℕ
text cs k = flat_map spaced cs ++ spaced k

text_front : (cs : List ℤ) (k : ℤ) → (front (text cs k) ≡ []) × (words_past true (text cs k) ≡ words (text cs k))
text_front [] k = (refl, refl)
text_front (c ∷ cs) k = (refl, refl)

words_text : (cs : List ℤ) (k : ℤ) → AllByRecursion (λ c. mag c < 2 ^ 31) cs → mag k < 2 ^ 63 → words (text cs k) ≡ map signed_decimal cs ++ signed_decimal k ∷ []
words_text [] k h l =
    let s = clear_signed k l in
    ap words (sym (append-nil (signed_decimal k))) ∙ word_then (signed_decimal k) [] s.1 s.0 refl
words_text (c ∷ cs) k h l =
    let s = clear_signed c (omega (arith, h.0)) in
    let f = text_front cs k in
    ap words (append_assoc (signed_decimal c) (flat_map spaced cs) (spaced k))
    ∙ word_then (signed_decimal c) (text cs k) s.1 s.0 f.0
    ∙ ap (λ (ws : List (List ℕ)). signed_decimal c ∷ ws) (f.1 ∙ words_text cs k h.1 l)

row_step : (l : ℕ) (cs : List ℤ) (c : ℤ) (w : List ℕ) (ws : List (List ℕ)) → 0 < length ws → nearest_i32 w ≡ Some c →
    parsed_row l cs (w ∷ ws) ≡ parsed_row l (cs ++ c ∷ []) ws
row_step l cs c w [] h e = absurd (omega arith)
row_step l cs c w (v ∷ ws) h e = simp e

row_back : (l : ℕ) (before cs : List ℤ) (k : ℤ) → AllByRecursion (λ c. mag c < 2 ^ 31) cs → mag k < 2 ^ 63 →
    parsed_row l before (map signed_decimal cs ++ signed_decimal k ∷ []) ≡ Ok (add l (before ++ cs) k)
row_back l before [] k h b =
    let e : nearest_i64 (signed_decimal k) ≡ Some k = ap (option_map (saturate_to_bits 63)) (reads_back k b) ∙ ap Some (held 63 k b) in
    let a = append-nil before in
    simp (e, a)
row_back l before (c ∷ cs) k h b =
    let e : nearest_i32 (signed_decimal c) ≡ Some c = ap (option_map (saturate_to_bits 31)) (reads_back c (omega (arith, h.0))) ∙ ap Some (held 31 c h.0) in
    let more : 0 < length (map signed_decimal cs ++ signed_decimal k ∷ []) = simp length-append (omega arith) in
    row_step l before c (signed_decimal c) (map signed_decimal cs ++ signed_decimal k ∷ []) more e
    ∙ row_back l (before ++ c ∷ []) cs k h.1 b
    ∙ ap (λ (zs : List ℤ). Ok (add l zs k)) (append_assoc before (c ∷ []) cs)

label_back : (l : ℕ) → l ≤ 255 → label_of (decimal l) ≡ Some l
label_back l h =
    let t = le-leb l 255 h in
    ap as_label (reads_back (pos l) (omega arith)) ∙ simp t

pub row_reads_back : RowReadsBack
row_reads_back l cs k small h b =
    let f = text_front cs k in
    let w = word_then (decimal l) (text cs k) (decimal_nonempty l (omega arith)) (clear_decimal l (omega arith)) f.0 in
    let e = label_back l small in
    let r = row_back l [] cs k h b in
    ap (λ (ws : List (List ℕ)). some (parsed_add ws)) (w ∙ ap (λ (ws : List (List ℕ)). decimal l ∷ ws) (f.1 ∙ words_text cs k h b))
    ∙ simp (e, r)
