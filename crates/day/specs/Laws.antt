-- Laws of a day script, in the subject's words. A function of src/laws.rt names them, so that each is proved.
use Rattle.std.specs.Prelude.{◌≡◌, ℕ, false, ◌⊎◌, List, ◌++◌, Some, Ok, Err, ◌==◌}
use Rattle.std.specs.List.{flat_map, AllByRecursion}
use Rattle.calculus.specs.declared.refusals.Refusal.{Refusal}
use Rattle.script.specs.Commands.{Said}
use Rattle.script.specs.declared.answers.Answer.TheVariants.{Refused}
use Rattle.script.specs.declared.faults.Expected.{Expected}
use Rattle.day.specs.Day.{State, due, after, line, outcome}
use Rattle.day.specs.Lines.{lines}

-- a refused command leaves the state as it was
abbrev pub RefusedStays : Type 0
RefusedStays = (p : State) (s : Said) (r : Refusal) → due p s ≡ Ok (Refused r) → after p s ≡ p

-- so does a command out of place
abbrev pub MisplacedStays : Type 0
MisplacedStays = (p : State) (s : Said) (e : Expected) → due p s ≡ Err e → after p s ≡ p

-- no line has a newline in it
abbrev pub LinesWhole : Type 0
LinesWhole = (script : List ℕ) → AllByRecursion (λ l. AllByRecursion (λ b. (b == 10) ≡ false) l) (lines script)

-- the lines, each with its newline, are the script; a last newline that was missing is put there
abbrev pub LinesKeep : Type 0
LinesKeep = (script : List ℕ) →
    (flat_map line (lines script) ≡ script) ⊎ (flat_map line (lines script) ≡ line script)

-- what a script prints, a longer one that begins with the same lines prints first
abbrev pub BeginsAlike : Type 0
BeginsAlike = (n : ℕ) (p : State) (ls more : List (List ℕ)) →
    (rest : List ℕ) × ((outcome n p (ls ++ more)).text ≡ (outcome n p ls).text ++ rest)

-- a script that stops early does so whatever lines follow
abbrev pub StopsAlike : Type 0
StopsAlike = (n : ℕ) (p : State) (ls more : List (List ℕ)) (where_why : ℕ × Expected) →
    (outcome n p ls).stop ≡ Some where_why → outcome n p (ls ++ more) ≡ outcome n p ls
