use Rattle.std.proofs.Common.{◌≡◌, [], ◌∷◌, vec_items}
use Rattle.script.specs.Commands.{parsed_row}
use Rattle.script.proofs.commands.read_row.Given as goal

-- the coefficients so far and the words left say the whole row
abbrev pub invariant-loop-word : goal.invariant-loop-word
invariant-loop-word l = parsed_row l.label (vec_items l.coefficients) (l.last ∷ l.word-iterator) ≡ parsed_row l.label [] l.fn.words
