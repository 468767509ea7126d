-- The table of refusals: number, word, and what the answer carries beside them.
use Rattle.std.specs.Prelude.{ℕ, List, [], ◌∷◌, codes}
use Rattle.calculus.specs.declared.refusals.Refusal.{Refusal}
use Rattle.calculus.specs.declared.refusals.Refusal.TheVariants.{Shape, Range, Weight, Label, Double, Full, Marks, Unmarked}
use Rattle.calculus.specs.declared.refusals.Refusal.TheVariants.{List as NoList, Misfit, Spent, Long, Wide, Log, Kind, Operand}
use Rattle.calculus.specs.declared.refusals.Refusal.TheVariants.{Multiplier, Mismatch, Open, Frame}

-- What an answer holds beside the refusal.
pub data Carried : Type 0 where
  nothing : Carried
  -- the moves made; a check that answers misfit and a log that answers log have none to carry
  moves : Carried
  -- the number of the first wrong line
  line : Carried
  -- how many lines the log holds
  held : Carried
  -- the byte offset at which the text breaks
  offset : Carried

-- A line of the table.
pub record Listed : Type 0 where
  pub number : ℕ
  pub word : List ℕ
  pub carried : Carried

-- the table
abbrev pub listed : Refusal → Listed
listed Shape = record { number = 1; word = codes "shape"; carried = nothing }
listed Range = record { number = 2; word = codes "range"; carried = nothing }
listed Weight = record { number = 3; word = codes "weight"; carried = nothing }
listed Label = record { number = 4; word = codes "label"; carried = nothing }
listed Double = record { number = 5; word = codes "double"; carried = nothing }
listed Full = record { number = 6; word = codes "full"; carried = nothing }
listed Marks = record { number = 7; word = codes "marks"; carried = nothing }
listed Unmarked = record { number = 8; word = codes "unmarked"; carried = nothing }
listed NoList = record { number = 9; word = codes "list"; carried = moves }
listed Misfit = record { number = 10; word = codes "misfit"; carried = moves }
listed Spent = record { number = 11; word = codes "spent"; carried = moves }
listed Long = record { number = 12; word = codes "long"; carried = moves }
listed Wide = record { number = 13; word = codes "wide"; carried = moves }
listed Log = record { number = 14; word = codes "log"; carried = moves }
listed Kind = record { number = 15; word = codes "kind"; carried = line }
listed Operand = record { number = 16; word = codes "operand"; carried = line }
listed Multiplier = record { number = 17; word = codes "multiplier"; carried = line }
listed Mismatch = record { number = 18; word = codes "mismatch"; carried = line }
listed Open = record { number = 19; word = codes "open"; carried = held }
listed Frame = record { number = 20; word = codes "frame"; carried = offset }

-- the refusals in the order of the table
abbrev pub all_refusals : List Refusal
all_refusals = Shape ∷ Range ∷ Weight ∷ Label ∷ Double ∷ Full ∷ Marks ∷ Unmarked ∷ NoList ∷ Misfit ∷ Spent ∷ Long ∷ Wide ∷ Log ∷ Kind ∷
    Operand ∷ Multiplier ∷ Mismatch ∷ Open ∷ Frame ∷ []
