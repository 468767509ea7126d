-- Numbers read as ones of a smaller type, and 0 where they are none.
use Rattle.std.proofs.Common.{◌≡◌, ℕ, ℤ, pos, negsuc, Ok, Err, Result, refl, arith, nat_abs, w64, SFits, to_z, of_z, subst, sym}
use Rattle.std.proofs.lemmas.Int.{to_z-of_z}
use Rattle.std.specs.Result.{OkIff, result_unwrap_or}
use Rattle.std.specs.Int.{FitsUnsignedBits}
use Rattle.std.proofs.lemmas.Bool.Decides.{nat_tests}
use Rattle.cutlog.specs.Cells.{unsigned_in}

narrowed : {E : Type 0} (bits : ℕ) (x : ℤ) (r : Result ℕ E) → OkIff r (FitsUnsignedBits bits x) (nat_abs x) →
    unsigned_in bits x ≡ result_unwrap_or r 0
narrowed bits (pos x) (Ok y) h = let l = h.0 in let e = h.1 in grind (arith, nat_tests)
narrowed bits (negsuc x) (Ok y) h = absurd h.0
narrowed bits (pos x) (Err e) h = grind (arith, nat_tests)
narrowed bits (negsuc x) (Err e) h = refl

pub unsigned_narrowed : {E : Type 0} (bits : ℕ) (x : ℤ) (r : Result ℕ E) → SFits w64 x →
    OkIff r (FitsUnsignedBits bits (to_z w64 (of_z w64 x))) (nat_abs (to_z w64 (of_z w64 x))) →
    result_unwrap_or r 0 ≡ unsigned_in bits x
unsigned_narrowed bits x r f h =
    sym (narrowed bits x r (subst (λ (y : ℤ). OkIff r (FitsUnsignedBits bits y) (nat_abs y)) (to_z-of_z w64 x f) h))
