-- What a line of the day script says.
use Rattle.std.specs.Prelude.{◌≡◌, ℕ, Bool, false, cond, List, [], ◌∷◌, ◌++◌, ℤ, Some, None, Ok, Err, vec_items, Option, Result, ◌==◌}
use Rattle.std.specs.Option.{option_map}
use Rattle.keywords.specs.Keywords.{named}
use Rattle.script.specs.Numbers.{nearest_i32, nearest_i64, label_of}
use Rattle.script.specs.Words.{words}
use Rattle.script.specs.declared.commands.Command.{Command}
use Rattle.script.specs.declared.commands.Command.TheVariants.{Draft, Unknown, Settle, Add, Mark, Return, Rows, Later as NotYet}
use Rattle.script.specs.declared.faults.Expected.{Expected}
use Rattle.script.specs.declared.faults.Expected.TheVariants.{Command as ACommand, Number as ANumber, Label as ALabel, End as TheEnd}
use Rattle.script.specs.declared.faults.Fault.{Fault}
use Rattle.script.specs.declared.faults.Fault.TheVariants.{Memory, Expected as Awaited}
use Rattle.keywords.specs.declared.Keyword.{Keyword}
use Rattle.keywords.specs.declared.Keyword.TheVariants.{Draft as DraftWord, Unknown as UnknownWord, Settle as SettleWord, Add as AddWord, Mark as MarkWord, Return as ReturnWord, Rows as RowsWord, Later as LaterWord}
use Rattle.keywords.specs.declared.Later.{Later}

-- A command, with lists in place of vectors.
pub data Said : Type 0 where
  draft : Said
  unknown : ℤ → ℤ → Said
  settle : Said
  -- label, coefficients, constant
  add : ℕ → List ℤ → ℤ → Said
  mark : Said
  return : Said
  rows : Said
  later : Later → Said

-- what a command says
abbrev pub said : Command → Said
said Draft = draft
said (Unknown low high) = unknown low high
said Settle = settle
said (Add label coefficients constant) = add label (vec_items coefficients) constant
said Mark = mark
said Return = return
said Rows = rows
said (NotYet l) = later l

-- go on with a value; without one, something else was expected
abbrev pub given : {A B : Type 0} → Option A → Expected → (A → Result B Expected) → Result B Expected
given None expected go = Err expected
given (Some a) expected go = go a

-- the first word as `read` reads it, with the words after it
abbrev pub first : {A : Type 0} → (List ℕ → Option A) → List (List ℕ) → Option (A × List (List ℕ))
first read [] = None
first read (w ∷ ws) = option_map (λ a. (a, ws)) (read w)

-- a command that no word may follow
abbrev pub alone : Said → List (List ℕ) → Result Said Expected
alone command [] = Ok command
alone command (w ∷ ws) = Err TheEnd

-- the two ends of a range, and nothing after them
abbrev pub parsed_unknown : List (List ℕ) → Result Said Expected
parsed_unknown ws =
    given (first nearest_i32 ws) ANumber (λ low.
    given (first nearest_i32 low.1) ANumber (λ high.
    alone (unknown low.0 high.0) high.1))

-- the words after the coefficients cs of a row: numbers, of which the last is the constant
abbrev pub parsed_row : ℕ → List ℤ → List (List ℕ) → Result Said Expected
parsed_row label cs [] = Err ANumber
parsed_row label cs (w ∷ []) = given (nearest_i64 w) ANumber (λ constant. Ok (add label cs constant))
parsed_row label cs (w ∷ v ∷ ws) = given (nearest_i32 w) ANumber (λ c. parsed_row label (cs ++ c ∷ []) (v ∷ ws))

-- a label, and a row's numbers
abbrev pub parsed_add : List (List ℕ) → Result Said Expected
parsed_add ws = given (first label_of ws) ALabel (λ l. parsed_row l.0 [] l.1)

-- the words after a command's first; what follows a command that is not offered yet is passed over
abbrev pub parsed_as : Keyword → List (List ℕ) → Result Said Expected
parsed_as DraftWord ws = alone draft ws
parsed_as UnknownWord ws = parsed_unknown ws
parsed_as SettleWord ws = alone settle ws
parsed_as AddWord ws = parsed_add ws
parsed_as MarkWord ws = alone mark ws
parsed_as ReturnWord ws = alone return ws
parsed_as RowsWord ws = alone rows ws
parsed_as (LaterWord l) ws = Ok (later l)

-- a word that begins with `#` (35)
abbrev pub comment : List ℕ → Bool
comment [] = false
comment (b ∷ bs) = b == 35

-- a command, where there may be none
abbrev pub some : Result Said Expected → Result (Option Said) Expected
some (Ok s) = Ok (Some s)
some (Err e) = Err e

-- a line without a word and a comment say nothing; any other line is to be a command
abbrev pub parsed_words : List (List ℕ) → Result (Option Said) Expected
parsed_words [] = Ok None
parsed_words (w ∷ ws) = cond (comment w) (Ok None) (some (given (named w) ACommand (λ k. parsed_as k ws)))

-- what a line says
abbrev pub parsed : List ℕ → Result (Option Said) Expected
parsed line = parsed_words (words line)

-- a line that adds a row: no other command asks for memory
abbrev pub Adds : List (List ℕ) → Type 0
Adds [] = ⊥
Adds (w ∷ ws) = named w ≡ Some AddWord

-- What a reader answers is what is parsed, and `means` is what its value says; want of memory comes only under `may`.
abbrev pub Reads : {A B : Type 0} → Type 0 → (A → B) → Result A Fault → Result B Expected → Type 0
Reads may means (Ok a) t = t ≡ Ok (means a)
Reads may means (Err Memory) t = may
Reads may means (Err (Awaited e)) t = t ≡ Err e
