-- Any of the advisers that the program uses keeps what an adviser is: what its impl gives for the law.
use Rattle.calculus.specs.Advice.{Advises}
use Rattle.calculus.proofs.Advising.{three_advise}
use Rattle.advice.specs.Blamed.{blaming_of}
use Rattle.advice.specs.Chosen.{any_of}
use Rattle.advice.specs.declared.blamers.Blaming.{Blaming as Blamer}
use Rattle.advice.specs.declared.choosers.AnyAdviser.{AnyAdviser}
use Rattle.advice.specs.declared.choosers.AnyAdviser.TheVariants.{Steady, Blaming, TurnedSteady, TurnedBlaming}

pub blaming_advises : (b : Blamer) → Advises (blaming_of b)
blaming_advises b = record { orderly = b.orderly; keeps = (three_advise.1 0).keeps }

pub any_advises : (a : AnyAdviser) → Advises (any_of a)
any_advises (Steady a) = three_advise.0 a.unknowns
any_advises (Blaming b) = blaming_advises b
any_advises (TurnedSteady t) = three_advise.2 _ (three_advise.0 t.inner.unknowns)
any_advises (TurnedBlaming t) = three_advise.2 _ (blaming_advises t.inner)
