-- What any of the advisers that the program uses means.
use Rattle.calculus.specs.Advice.{Advice, steady, turned}
use Rattle.advice.specs.Blamed.{blaming_of}
use Rattle.advice.specs.declared.choosers.AnyAdviser.{AnyAdviser}
use Rattle.advice.specs.declared.choosers.AnyAdviser.TheVariants.{Steady, Blaming, TurnedSteady, TurnedBlaming}

-- the meaning of the one that it is
abbrev pub any_of : AnyAdviser → Advice
any_of (Steady a) = steady a.unknowns
any_of (Blaming a) = blaming_of a
any_of (TurnedSteady t) = turned (steady t.inner.unknowns)
any_of (TurnedBlaming t) = turned (blaming_of t.inner)
