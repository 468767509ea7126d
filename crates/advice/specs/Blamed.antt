-- What a blaming adviser means, and making one.
use Rattle.std.specs.Prelude.{◌≡◌, ℕ, true, false, Ok, Err, vec_items, Result, nat_lt}
use Rattle.calculus.specs.Advice.{Advice, blaming}
use Rattle.calculus.specs.Limits.{most_unknowns}
use Rattle.calculus.specs.declared.refusals.Refusal.TheVariants.{Shape}
use Rattle.advice.specs.Names.{blaming_by}
use Rattle.advice.specs.declared.blamers.Blaming.{Blaming}
use Rattle.advice.specs.declared.unmade.Unmade.{Unmade}
use Rattle.advice.specs.declared.unmade.Unmade.TheVariants.{Refused, NoMemory}

-- its order has the unknowns in the sequence that it holds
abbrev pub blaming_of : Blaming → Advice
blaming_of b = blaming_by (vec_items b.names)

-- making one for m unknowns: refused where a ticket has not so many; else a new one, unless memory is wanting
abbrev pub Made : ℕ → Result Blaming Unmade → Type 0
Made m (Ok b) = (nat_lt most_unknowns m ≡ false) × (blaming_of b ≡ blaming m)
Made m (Err (Refused r)) = (nat_lt most_unknowns m ≡ true) × (r ≡ Shape)
Made m (Err NoMemory) = nat_lt most_unknowns m ≡ false
