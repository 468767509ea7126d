-- What a message says of a line that is no command.
use Rattle.std.specs.Prelude.{ℕ, List, codes}
use Rattle.script.specs.declared.faults.Expected.{Expected}
use Rattle.script.specs.declared.faults.Expected.TheVariants.{Command, Number, Label, End, Draft, Ticket}

-- the words for what was expected
abbrev pub expected_words : Expected → List ℕ
expected_words Command = codes "a command"
expected_words Number = codes "a number"
expected_words Label = codes "a label from 0 to 255"
expected_words End = codes "the end of the line"
expected_words Draft = codes "`draft` before this command"
expected_words Ticket = codes "`settle` before this command"
