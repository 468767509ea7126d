-- Lists by place: their length, and what stands at each place.
-- It rests on the definitions and the library alone.
use Rattle.std.proofs.Common.{◌≡◌, ℕ, zero, suc, ◌<◌, [], ◌∷◌, length, get_or, sym, refl, ap, ◌∙◌, ⊎_elim, arith}
use Rattle.std.proofs.lemmas.List.{length-append, get_or_at, get_or_append_left}
use Rattle.std.proofs.lemmas.Bool.{cases_eq}
use Rattle.calculus.specs.Tables.{table}

pub table_long : {X : Type 0} (f : ℕ → X) (n : ℕ) → length (table f n) ≡ n
table_long f zero = refl
table_long f (suc n) = let e = table_long f n in let l = length-append (table f n) (f n ∷ []) in omega arith

pub table_at : {X : Type 0} (f : ℕ → X) (n x : ℕ) (d : X) → x < n → get_or (table f n) x d ≡ f x
table_at f zero x d l = absurd (omega arith)
table_at f (suc n) x d l =
    let long = table_long f n in
    ⊎_elim
    (λ (e : x ≡ n). get_or_at (table f n) (f n) [] d x (omega arith) ∙ ap f (sym e))
    (λ (h : x ≡ n → ⊥). get_or_append_left (table f n) (f n ∷ []) d x (omega arith) ∙ table_at f n x d (omega arith))
    (cases_eq x n)
