-- The first of a sequence of unknowns that is not fixed, and the choice that it makes.
use Rattle.std.proofs.Common.{◌≡◌, ℕ, zero, suc, Bool, true, false, not, cond, ◌&&◌, eqb, List, [], ◌∷◌, ◌++◌, map, length, ℤ, Some, None, Option, sym, refl, ap, ◌∙◌, add-one, arith}
use Rattle.std.specs.List.{find, range_with_len}
use Rattle.std.specs.Option.{option_map}
use Rattle.std.proofs.lemmas.List.{length-map}
use Rattle.std.proofs.lemmas.List.FromFn.{map-range_with_len_more}
use Rattle.calculus.specs.Advice.{Order, advised, steady, open_or, first_open, only_if, choice}
use Rattle.calculus.proofs.Advising.{three_advised}
use Rattle.calculus.specs.Arithmetic.{same_number}
use Rattle.calculus.specs.Rows.{coef}
use Rattle.calculus.specs.Tables.{table}
use Rattle.advice.specs.Names.{on_low, lows_of}

-- low and high of x are equal
abbrev pub fixed : List ℤ → List ℤ → ℕ → Bool
fixed lows highs x = same_number (coef lows x) (coef highs x)

-- the first of a sequence that is not fixed
abbrev pub first : List ℤ → List ℤ → List ℕ → Option ℕ
first lows highs xs = find (λ x. not (fixed lows highs x)) xs

first_is_open : (xs : List ℕ) (lows highs : List ℤ) → option_map on_low (first lows highs xs) ≡ first_open (lows_of xs) lows highs
first_is_open [] lows highs = refl
first_is_open (x ∷ xs) lows highs = by (fixed lows highs x) (first_is_open xs lows highs)
  where
    by : (b : Bool) → option_map on_low (first lows highs xs) ≡ first_open (lows_of xs) lows highs →
        option_map on_low (cond (not b) (Some x) (first lows highs xs))
        ≡ open_or b (on_low x) (first_open (lows_of xs) lows highs)
    by true later = later
    by false later = refl

low_once : {A : Type 0} (v : A → ℕ) (r : Option A) → option_map (λ a. on_low (v a)) r ≡ option_map on_low (option_map v r)
low_once v None = refl
low_once v (Some a) = refl

-- asked with lists of the length of its order, an adviser chooses that on side low; v reads what an iterator found
pub choice_first : {A : Type 0} (v : A → ℕ) (r : Option A) (xs : List ℕ) (lows highs : List ℤ) (m : ℕ) →
    option_map v r ≡ first lows highs xs → m ≡ length xs → true ≡ (eqb (length lows) m && eqb (length highs) m) →
    option_map (λ a. on_low (v a)) r ≡ choice (lows_of xs) lows highs
choice_first v r xs lows highs m f e h =
    let long = e ∙ sym (length-map xs on_low) in
    low_once v r ∙ ap (option_map on_low) f ∙ first_is_open xs lows highs
    ∙ ap (λ (b : Bool). only_if b (first_open (lows_of xs) lows highs))
    (h ∙ ap (λ (n : ℕ). eqb (length lows) n && eqb (length highs) n) long)

-- asked with a list of another length, it makes no choice
pub choice_none : (o : Order) (lows highs : List ℤ) (m : ℕ) → m ≡ length o →
    false ≡ (eqb (length lows) m && eqb (length highs) m) → None ≡ choice o lows highs
choice_none o lows highs m e h =
    ap (λ (b : Bool). only_if b (first_open o lows highs)) (h ∙ ap (λ (n : ℕ). eqb (length lows) n && eqb (length highs) n) e)

-- ---- by number

-- the numbers below m, through f
pub by_number : {X : Type 0} (f : ℕ → X) (m : ℕ) → map f (range_with_len 0 m) ≡ table f m
by_number f zero = refl
by_number f (suc m) = ap (λ n. map f (range_with_len 0 n)) (sym (add-one m)) ∙ map-range_with_len_more f 0 m m (omega arith)
    ∙ ap (λ xs. xs ++ f m ∷ []) (by_number f m)

-- how many the steady one is for
pub steady_long : (m : ℕ) → advised (steady m) ≡ m
steady_long m = three_advised.0 m
