-- What a stage of the program means.
use Rattle.day.specs.Day.{State, nothing, drafting, ticketed}
use Rattle.day.specs.declared.stages.Stage.{Stage}
use Rattle.day.specs.declared.stages.Stage.TheVariants.{Nothing, Drafting, Settled}

-- the state of a script
abbrev pub state_of : Stage → State
state_of Nothing = nothing
state_of (Drafting d) = drafting d
state_of (Settled t) = ticketed t
