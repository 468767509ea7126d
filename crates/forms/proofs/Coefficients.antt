-- Coefficients compared pair by pair.
use Rattle.std.proofs.Common.{◌≡◌, suc, ◌&&◌, false, Bool, List, [], ◌∷◌, map, length, ℤ, refl, ap, ◌∙◌, arith, rules}
use Rattle.std.proofs.Math.Bool.{and-false}
use Rattle.std.specs.List.{list_all, zip}
use Rattle.calculus.specs.Arithmetic.{same_number}
use Rattle.calculus.specs.Rows.{same_numbers}

-- two lists of one length are equal where each pair is
pub same_pairs : (f g : ℤ → ℤ) (cs ds : List ℤ) → length cs ≡ length ds →
    list_all (λ p. same_number (f p.0) (g p.1)) (zip cs ds) ≡ same_numbers (map f cs) (map g ds)
same_pairs f g [] [] e = refl
same_pairs f g [] (d ∷ ds) e = search (rules, e)
same_pairs f g (c ∷ cs) [] e = search (rules, e)
same_pairs f g (c ∷ cs) (d ∷ ds) e = ap (λ (b : Bool). same_number (f c) (g d) && b) (same_pairs f g cs ds (omega (arith, e)))

-- two lists of different lengths are not equal
pub same_apart : (f g : ℤ → ℤ) (cs ds : List ℤ) → (length cs ≡ length ds → ⊥) → same_numbers (map f cs) (map g ds) ≡ false
same_apart f g [] [] h = search (rules, h)
same_apart f g [] (d ∷ ds) h = refl
same_apart f g (c ∷ cs) [] h = refl
same_apart f g (c ∷ cs) (d ∷ ds) h =
    ap (λ (b : Bool). same_number (f c) (g d) && b) (same_apart f g cs ds (λ e. h (ap suc e))) ∙ and-false (same_number (f c) (g d))
