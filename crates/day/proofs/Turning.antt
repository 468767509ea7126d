-- A script line by line.
use Rattle.std.proofs.Common.{◌≡◌, ℕ, suc, ◌+◌, List, ◌∷◌, ◌++◌, Option, sym, ap, ◌∙◌, append_assoc, add-one}
use Rattle.script.specs.declared.faults.Expected.{Expected}
use Rattle.day.specs.Day.{State, Turn, speaks, Outcome, outcome, then, turn}

module _ (n : ℕ) (p : State) (all ls : List (List ℕ)) (l : List ℕ) (cut : all ≡ l ∷ ls) where
  opened : outcome n p all ≡ then (turn p l) n (λ q. outcome (suc n) q ls)
  opened = ap (outcome n p) cut

  went : (own : List ℕ) (q : State) → turn p l ≡ speaks own q →
      outcome n p all ≡ record { text = own ++ (outcome (n + 1) q ls).text; stop = (outcome (n + 1) q ls).stop }
  went own q t =
      opened ∙ ap (λ (u : Turn). then u n (λ q. outcome (suc n) q ls)) t
      ∙ ap (λ (k : ℕ). record { text = own ++ (outcome k q ls).text; stop = (outcome k q ls).stop }) (sym (add-one n))

  -- a line that was done
  pub text_on : (own : List ℕ) (q : State) (before now whole : List ℕ) → turn p l ≡ speaks own q → now ≡ before ++ own →
      before ++ (outcome n p all).text ≡ whole → now ++ (outcome (n + 1) q ls).text ≡ whole
  text_on own q before now whole t e inv =
      ap (λ (bs : List ℕ). bs ++ (outcome (n + 1) q ls).text) e
      ∙ append_assoc before own (outcome (n + 1) q ls).text
      ∙ ap (λ (o : Outcome). before ++ o.text) (sym (went own q t))
      ∙ inv

  pub stop_on : (own : List ℕ) (q : State) (whole : Option (ℕ × Expected)) → turn p l ≡ speaks own q →
      (outcome n p all).stop ≡ whole → (outcome (n + 1) q ls).stop ≡ whole
  stop_on own q whole t inv = ap (λ (o : Outcome). o.stop) (sym (went own q t)) ∙ inv
