-- What follows of a choice of any adviser that keeps to what an adviser is.
use Rattle.std.proofs.Common.{◌≡◌, ℕ, ◌<◌, Bool, true, false, ◌&&◌, eqb, List, length, ℤ, Some, None, Option, sym, refl, subst, arith}
use Rattle.std.proofs.lemmas.Bool.Decides.{nat_tests}
use Rattle.calculus.specs.Advice.{Order, Orderly, first_open, only_if, choice}
use Rattle.calculus.specs.declared.sides.Side.{Side}
use Rattle.calculus.proofs.Advising.{choice_open}
use Rattle.advice.specs.Telling.{Open}

-- where there is a choice, the lists are as long as the order
chosen_long : (o : Order) (lows highs : List ℤ) (p : ℕ × Side) → choice o lows highs ≡ Some p →
    (length lows ≡ length o) × (length highs ≡ length o)
chosen_long o lows highs p e = by (eqb (length lows) (length o) && eqb (length highs) (length o)) refl e
  where
    by : (b : Bool) → (eqb (length lows) (length o) && eqb (length highs) (length o)) ≡ b →
        only_if b (first_open o lows highs) ≡ Some p → (length lows ≡ length o) × (length highs ≡ length o)
    by true q e = (grind (arith, nat_tests), grind (arith, nat_tests))
    by false q e = let z : ◌≡◌ {A = ℕ} 0 1 = cc in absurd (omega arith)

-- a choice is one of the lists' unknowns, and not a fixed one
pub chosen_open : (o : Order) (lows highs : List ℤ) (r : Option (ℕ × Side)) → Orderly o → r ≡ choice o lows highs →
    Open (length lows) lows highs r
chosen_open o lows highs None h e = tt
chosen_open o lows highs (Some (x, s)) h e =
    let long = chosen_long o lows highs (x, s) (sym e) in
    let r = (choice_open o lows highs h long.0 long.1).0 x s (sym e) in
    (subst (λ (m : ℕ). x < m) (sym long.0) r.0, r.1)
