-- Turning: a turned adviser's choice, and what being told makes of it.
use Rattle.std.proofs.Common.{◌≡◌, ℕ, Bool, true, false, ◌&&◌, eqb, ltb, List, [], ◌∷◌, map, length, ℤ, sym, refl, ap, ◌∙◌}
use Rattle.std.specs.Option.{option_map}
use Rattle.std.proofs.lemmas.List.{length-map}
use Rattle.calculus.specs.Advice.{Order, Mind, Advice, open_or, first_open, only_if, choice, told_by, told}
use Rattle.calculus.specs.Advice.{turned_pair, turned_mind, turned}
use Rattle.calculus.proofs.Advising.{turned_twice}
use Rattle.advice.proofs.Opens.{fixed}

first_turned : (o : Order) (lows highs : List ℤ) →
    option_map turned_pair (first_open o lows highs) ≡ first_open (map turned_pair o) lows highs
first_turned [] lows highs = refl
first_turned (p ∷ o) lows highs = by (fixed lows highs p.0) (first_turned o lows highs)
  where
    by : (b : Bool) → option_map turned_pair (first_open o lows highs) ≡ first_open (map turned_pair o) lows highs →
        option_map turned_pair (open_or b p (first_open o lows highs))
        ≡ open_or b (turned_pair p) (first_open (map turned_pair o) lows highs)
    by true later = later
    by false later = refl

-- the choice of the turned order is the choice with its side turned
pub choice_turned : (o : Order) (lows highs : List ℤ) → option_map turned_pair (choice o lows highs) ≡ choice (map turned_pair o) lows highs
choice_turned o lows highs =
    by (eqb (length lows) (length o) && eqb (length highs) (length o))
    ∙ ap (λ (m : ℕ). only_if (eqb (length lows) m && eqb (length highs) m) (first_open (map turned_pair o) lows highs))
    (sym (length-map o turned_pair))
  where
    by : (b : Bool) → option_map turned_pair (only_if b (first_open o lows highs)) ≡ only_if b (first_open (map turned_pair o) lows highs)
    by true = first_turned o lows highs
    by false = refl

-- telling the adviser inside is telling the turned one
pub told_turned : (a : Advice) (x : ℕ) → told (turned a) x ≡ turned (told a x)
told_turned a x =
    sym (ap (λ (s : Mind). record { mind = s; rule = (turned a).rule }) (by (ltb x (length a.mind.order))
    ∙ ap (λ (m : ℕ). told_by (ltb x m) (turned a).rule (turned_mind a.mind) x) (sym (length-map a.mind.order turned_pair))))
  where
    by : (b : Bool) → turned_mind (told_by b a.rule a.mind x) ≡ told_by b (turned a).rule (turned_mind a.mind) x
    by true = ap (λ (s : Mind). turned_mind (a.rule s x)) (sym (ap (λ (d : Advice). d.mind) (turned_twice a)))
    by false = refl
