-- The words that a command begins with.
use Rattle.std.specs.Prelude.{ℕ, cond, List, [], ◌∷◌, Some, None, codes, Option}
use Rattle.std.specs.Option.{option_map}
use Rattle.std.specs.Str.{bytes_eq}
use Rattle.keywords.specs.declared.Keyword.{Keyword}
use Rattle.keywords.specs.declared.Keyword.TheVariants.{Draft, Unknown, Settle, Add, Mark, Return, Rows, Later as NotYet}
use Rattle.keywords.specs.declared.Later.{Later}
use Rattle.keywords.specs.declared.Later.TheVariants.{Search, Check, Log, Frames, Lines}

-- the word of a command that is not offered yet
abbrev pub later_word : Later → List ℕ
later_word Search = codes "search"
later_word Check = codes "check"
later_word Log = codes "log"
later_word Frames = codes "frames"
later_word Lines = codes "lines"

-- what a table has for a word: the first entry of that name, and else `other`
abbrev pub found_in : {A : Type 0} → List (List ℕ × A) → Option A → List ℕ → Option A
found_in [] other word = other
found_in (e ∷ es) other word = cond (bytes_eq word e.0) (Some e.1) (found_in es other word)

-- the words of the commands that are not offered yet
abbrev pub later_words : List (List ℕ × Later)
later_words =
    (later_word Search, Search)
    ∷ (later_word Check, Check)
    ∷ (later_word Log, Log)
    ∷ (later_word Frames, Frames)
    ∷ (later_word Lines, Lines)
    ∷ []

-- the command not offered yet that a word begins
abbrev pub named_later : List ℕ → Option Later
named_later word = found_in later_words None word

-- the words of the commands that are offered
abbrev pub keywords : List (List ℕ × Keyword)
keywords =
    (codes "draft", Draft)
    ∷ (codes "unknown", Unknown)
    ∷ (codes "settle", Settle)
    ∷ (codes "add", Add)
    ∷ (codes "mark", Mark)
    ∷ (codes "return", Return)
    ∷ (codes "rows", Rows)
    ∷ []

-- the command that a word begins, if it begins one
abbrev pub named : List ℕ → Option Keyword
named word = found_in keywords (option_map NotYet (named_later word)) word
