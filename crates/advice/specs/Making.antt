-- Making an adviser.
use Rattle.std.specs.Prelude.{ℕ, [], ◌∷◌, Result, nat_lt}
use Rattle.calculus.specs.Account.{when, answered}
use Rattle.calculus.specs.Limits.{most_unknowns}
use Rattle.calculus.specs.declared.refusals.Refusal.{Refusal}
use Rattle.calculus.specs.declared.refusals.Refusal.TheVariants.{Shape}

-- what making one for m unknowns is answered: refused where a ticket has not so many
abbrev pub made_for : {A : Type 0} → ℕ → A → Result A Refusal
made_for m a = answered (when (nat_lt most_unknowns m) Shape ∷ []) a
