-- Unknowns in a sequence: what stands where, and moving to the front.
use Rattle.std.proofs.Common.{◌≡◌, ℕ, zero, suc, ◌+◌, ◌<◌, Bool, true, false, cond, eqb, ltb, List, [], ◌∷◌, ◌++◌, length, get_or, sym, refl, ap, ◌∙◌, subst, arith}
use Rattle.std.specs.List.{range_with_len, remove}
use Rattle.std.proofs.lemmas.Bool.Decides.{nat_tests}
use Rattle.calculus.specs.Advice.{Order, Advice, named, Orderly, Advises, told_by, told}
use Rattle.calculus.specs.Advice.{naming, others, to_front, blaming}
use Rattle.calculus.proofs.Advising.{three_advise, told_like}
use Rattle.advice.specs.Names.{on_low, lows_of, blaming_by}
use Rattle.advice.proofs.Opens.{by_number}

-- the blaming adviser with an order
abbrev by_order : Order → Advice
by_order o = record { mind = record { order = o; memory = [] }; rule = to_front }

-- told one of its own, and told another
own_told : (o : Order) (x : ℕ) → ltb x (length o) ≡ true → by_order (naming x o ++ others x o) ≡ told (by_order o) x
own_told o x e =
    ap (λ (b : Bool). record { mind = told_by b to_front (record { order = o; memory = [] }) x; rule = to_front }) (sym e)

other_told : (o : Order) (x : ℕ) → ltb x (length o) ≡ false → by_order o ≡ told (by_order o) x
other_told o x e =
    ap (λ (b : Bool). record { mind = told_by b to_front (record { order = o; memory = [] }) x; rule = to_front }) (sym e)

-- ---- by number

-- all of them by number is the order at first
pub at_first : (m : ℕ) (xs : List ℕ) → xs ≡ range_with_len 0 m → blaming_by xs ≡ blaming m
at_first m xs e = ap (λ (o : Order). by_order o) (ap (λ (ys : List ℕ). lows_of ys) e ∙ by_number on_low m)

pub first_orderly : (m : ℕ) (xs : List ℕ) → xs ≡ range_with_len 0 m → Orderly (lows_of xs)
first_orderly m xs e = subst (λ (a : Advice). Orderly a.mind.order) (sym (at_first m xs e)) (three_advise.1 m).orderly

-- ---- places

-- what stands at a place is named
named_at : (xs : List ℕ) (i x : ℕ) → i < length xs → get_or xs i 0 ≡ x → 0 < named x (lows_of xs)
named_at [] i x l e = absurd (omega arith)
named_at (y ∷ ys) zero x l e = grind (arith, nat_tests)
named_at (y ∷ ys) (suc i) x l e = let n = named_at ys i x (omega arith) e in omega arith

-- what stands nowhere is not named
named_nowhere : (xs : List ℕ) (x : ℕ) → ((i : ℕ) → i < length xs → get_or xs i 0 ≡ x → ⊥) → named x (lows_of xs) ≡ 0
named_nowhere [] x h = refl
named_nowhere (y ∷ ys) x h =
    let rest = named_nowhere ys x (λ i l e. h (suc i) (omega arith) e) in
    let here : y ≡ x → ⊥ = h 0 (omega arith) in
    grind (arith, nat_tests)

-- ---- to the front

unnamed : (x : ℕ) (o : Order) → named x o ≡ 0 → (naming x o ≡ []) × (others x o ≡ o)
unnamed x [] h = (refl, refl)
unnamed x (p ∷ o) h = by (eqb x p.0) h (unnamed x o)
  where
    by : (b : Bool) → cond b 1 0 + named x o ≡ 0 → (named x o ≡ 0 → (naming x o ≡ []) × (others x o ≡ o)) →
        (cond b (p ∷ naming x o) (naming x o) ≡ []) × (cond b (others x o) (p ∷ others x o) ≡ p ∷ o)
    by true h later = absurd (omega arith)
    by false h later = let r = later (omega arith) in (r.0, ap (λ (q : Order). p ∷ q) r.1)

-- what is named once is taken out of its place
taken : (xs : List ℕ) (i x : ℕ) → named x (lows_of xs) ≡ 1 → i < length xs → get_or xs i 0 ≡ x →
    (naming x (lows_of xs) ≡ on_low x ∷ []) × (others x (lows_of xs) ≡ lows_of (remove xs i))
taken [] i x h l e = absurd (omega arith)
taken (y ∷ ys) zero x h l e = by (eqb x y) refl h
  where
    by : (b : Bool) → eqb x y ≡ b → cond b 1 0 + named x (lows_of ys) ≡ 1 →
        (cond b (on_low y ∷ naming x (lows_of ys)) (naming x (lows_of ys)) ≡ on_low x ∷ [])
        × (cond b (others x (lows_of ys)) (on_low y ∷ others x (lows_of ys)) ≡ lows_of ys)
    by true q h =
        let r = unnamed x (lows_of ys) (omega arith) in
        (λ j. on_low (e j) ∷ r.0 j, r.1)
    by false q h = absurd (grind (arith, nat_tests))
taken (y ∷ ys) (suc i) x h l e = by (eqb x y) h (λ n. taken ys i x n (omega arith) e)
  where
    by : (b : Bool) → cond b 1 0 + named x (lows_of ys) ≡ 1 →
        (named x (lows_of ys) ≡ 1 →
        (naming x (lows_of ys) ≡ on_low x ∷ []) × (others x (lows_of ys) ≡ lows_of (remove ys i))) →
        (cond b (on_low y ∷ naming x (lows_of ys)) (naming x (lows_of ys)) ≡ on_low x ∷ [])
        × (cond b (others x (lows_of ys)) (on_low y ∷ others x (lows_of ys)) ≡ on_low y ∷ lows_of (remove ys i))
    by true h later = let n = named_at ys i x (omega arith) e in absurd (omega arith)
    by false h later = let r = later (omega arith) in (r.0, ap (λ (q : Order). on_low y ∷ q) r.1)

-- moved from its place to the front: the adviser after being told
pub told_front : (xs ys : List ℕ) (i x : ℕ) → Orderly (lows_of xs) → (i < length xs) × (get_or xs i 0 ≡ x) →
    ys ≡ get_or xs i 0 ∷ remove xs i → blaming_by ys ≡ told (blaming_by xs) x
told_front xs ys i x h p e =
    let n = named_at xs i x p.0 p.1 in
    let once = h x in
    let own : ltb x (length (lows_of xs)) ≡ true = grind (arith, nat_tests) in
    let r = taken xs i x (grind (arith, nat_tests)) p.0 p.1 in
    let order : lows_of ys ≡ naming x (lows_of xs) ++ others x (lows_of xs) =
    ap (λ (zs : List ℕ). lows_of zs) e ∙ (λ j. on_low (p.1 j) ∷ sym r.1 j)
    ∙ ap (λ (q : Order). q ++ others x (lows_of xs)) (sym r.0) in
    ap (λ (o : Order). by_order o) order ∙ own_told (lows_of xs) x own

pub front_orderly : (xs ys : List ℕ) (i x : ℕ) → Orderly (lows_of xs) → (i < length xs) × (get_or xs i 0 ≡ x) →
    ys ≡ get_or xs i 0 ∷ remove xs i → Orderly (lows_of ys)
front_orderly xs ys i x h p e =
    let a : Advises (blaming_by xs) = record { orderly = h; keeps = (three_advise.1 0).keeps } in
    subst (λ (b : Advice). Orderly b.mind.order) (sym (told_front xs ys i x h p e)) (told_like (blaming_by xs) x a).advises.orderly

-- told what it does not hold, it stays
pub told_nowhere : (xs : List ℕ) (x : ℕ) → Orderly (lows_of xs) → ((i : ℕ) → i < length xs → get_or xs i 0 ≡ x → ⊥) →
    blaming_by xs ≡ told (blaming_by xs) x
told_nowhere xs x h away =
    let n = named_nowhere xs x away in
    let once = h x in
    let own : ltb x (length (lows_of xs)) ≡ false = grind (arith, nat_tests) in
    other_told (lows_of xs) x own
