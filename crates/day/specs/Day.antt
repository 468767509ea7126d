-- What a day script does: the state it has come to, what each command gives there, and what the whole prints.
use Rattle.std.specs.Prelude.{◌≡◌, ℕ, suc, List, [], ◌∷◌, ◌++◌, length, Some, None, Ok, Err, Option, Result}
use Rattle.std.specs.List.{flat_map}
use Rattle.calculus.specs.Account.{Account, declare_answer, declared, settled, add_answer, added, mark_answer, marked, return_answer, returned}
use Rattle.calculus.specs.Rows.{Standing}
use Rattle.calculus.specs.declared.ranges.Range.{Range}
use Rattle.calculus.specs.declared.refusals.Refusal.{Refusal}
use Rattle.calculus.specs.Wording.{row_worded}
use Rattle.script.specs.Answers.{worded}
use Rattle.script.specs.Commands.{Said, draft, unknown, settle, add, mark, return, rows, later, parsed}
use Rattle.script.specs.declared.answers.Answer.{Answer}
use Rattle.script.specs.declared.answers.Answer.TheVariants.{Draft, Unknown, Settled, Added, Marked, Returned, Refused, Rows, NotOffered}
use Rattle.script.specs.declared.faults.Expected.{Expected}
use Rattle.script.specs.declared.faults.Expected.TheVariants.{Draft as ADraft, Ticket as ATicket}
use Rattle.script.specs.declared.faults.Fault.{Fault}
use Rattle.script.specs.declared.faults.Fault.TheVariants.{Memory, Expected as Awaited}

-- The state of a script: no draft yet, a draft with its ranges, or a settled ticket with its account.
pub data State : Type 0 where
  nothing : State
  drafting : List Range → State
  ticketed : Account → State

-- ---- what a command is answered, and the state after it

-- what is done in a draft, and what else where there is none
abbrev pub in_draft : {B : Type 0} → State → (List Range → B) → B → B
in_draft nothing f other = other
in_draft (drafting rs) f other = f rs
in_draft (ticketed a) f other = other

-- likewise for a ticket
abbrev pub on_ticket : {B : Type 0} → State → (Account → B) → B → B
on_ticket nothing f other = other
on_ticket (drafting rs) f other = other
on_ticket (ticketed a) f other = f a

-- an unknown's number, or the refusal, as an answer
abbrev pub numbered : Result ℕ Refusal → Answer
numbered (Ok k) = Unknown k
numbered (Err r) = Refused r

-- what is answered where a call was taken, or the refusal
abbrev pub said_so : Answer → Result (Unit {0}) Refusal → Answer
said_so done (Ok u) = done
said_so done (Err r) = Refused r

-- the answer that is due
abbrev pub due : State → Said → Result Answer Expected
due p draft = Ok Draft
due p (unknown low high) = in_draft p (λ rs. Ok (numbered (declare_answer rs low high))) (Err ADraft)
due p settle = in_draft p (λ rs. Ok (Settled (length rs))) (Err ADraft)
due p (add label cs k) = on_ticket p (λ a. Ok (said_so Added (add_answer a label cs k))) (Err ATicket)
due p mark = on_ticket p (λ a. Ok (said_so Marked (mark_answer a))) (Err ATicket)
due p return = on_ticket p (λ a. Ok (said_so Returned (return_answer a))) (Err ATicket)
due p rows = on_ticket p (λ a. Ok (Rows (length a.rows))) (Err ATicket)
due p (later l) = Ok (NotOffered l)

-- the state after a command; one that is out of place, refused or not offered changes nothing
abbrev pub after : State → Said → State
after p draft = drafting []
after p (unknown low high) = in_draft p (λ rs. drafting (declared rs low high)) p
after p settle = in_draft p (λ rs. ticketed (settled rs)) p
after p (add label cs k) = on_ticket p (λ a. ticketed (added a label cs k)) p
after p mark = on_ticket p (λ a. ticketed (marked a)) p
after p return = on_ticket p (λ a. ticketed (returned a)) p
after p rows = p
after p (later l) = p

-- A command was done in state p: its answer was due and the state after is q. Only a draft can want memory, and then
-- the state is as it was.
abbrev pub Done : State → Said → Result Answer Fault → State → Type 0
Done p s (Ok a) q = (due p s ≡ Ok a) × (q ≡ after p s)
Done p s (Err Memory) q = (s ≡ draft) × (q ≡ p)
Done p s (Err (Awaited e)) q = (due p s ≡ Err e) × (q ≡ p)

-- ---- what is printed

-- a line of text, with its newline (10)
abbrev pub line : List ℕ → List ℕ
line bs = bs ++ 10 ∷ []

-- a standing row on a line of its own
abbrev pub row_line : Standing → List ℕ
row_line s = line (row_worded s.label s.row.coefs s.row.constant)

-- what a command prints after its answer: the standing rows, where it asks for them
abbrev pub listing : State → Said → List ℕ
listing p draft = []
listing p (unknown low high) = []
listing p settle = []
listing p (add label cs k) = []
listing p mark = []
listing p return = []
listing p rows = on_ticket p (λ a. flat_map row_line a.rows) []
listing p (later l) = []

-- What a line of the script comes to: text and the state after it, or something that was expected instead.
pub data Turn : Type 0 where
  speaks : List ℕ → State → Turn
  wants : Expected → Turn

-- a command's answer on a line, what it lists, and the state after it; or what it wants
abbrev pub spoken : Result Answer Expected → State → Said → Turn
spoken (Ok a) p s = speaks (line (worded a) ++ listing p s) (after p s)
spoken (Err e) p s = wants e

-- a line that says nothing prints nothing and leaves the state
abbrev pub turn_of : State → Result (Option Said) Expected → Turn
turn_of p (Ok None) = speaks [] p
turn_of p (Ok (Some s)) = spoken (due p s) p s
turn_of p (Err e) = wants e

-- a line of the script, read and done
abbrev pub turn : State → List ℕ → Turn
turn p bs = turn_of p (parsed bs)

-- What a script comes to: the text that it prints, and where it stops early the line, from 1, and what was expected there.
pub record Outcome : Type 0 where
  pub text : List ℕ
  pub stop : Option (ℕ × Expected)

-- a turn, and after it the rest of the script from the state it left; nothing follows a turn that wants something
abbrev pub then : Turn → ℕ → (State → Outcome) → Outcome
then (speaks t q) n go = record { text = t ++ (go q).text; stop = (go q).stop }
then (wants e) n go = record { text = []; stop = Some (n, e) }

-- the lines of a script from line n on, each in the state that the lines before it left
abbrev pub outcome : ℕ → State → List (List ℕ) → Outcome
outcome n p [] = record { text = []; stop = None }
outcome n p (l ∷ ls) = then (turn p l) n (λ q. outcome (suc n) q ls)

-- A turn was taken in state p, and the state after is q: before is the text printed so far, after the text with the turn's own.
-- Where memory is wanting nothing is known.
abbrev pub Taken : Turn → List ℕ → Result (Unit {0}) Fault → State → State → List ℕ → Type 0
Taken t before (Ok u) p q after = (own : List ℕ) × (t ≡ speaks own q) × (after ≡ before ++ own)
Taken t before (Err Memory) p q after = Unit {0}
Taken t before (Err (Awaited e)) p q after = (t ≡ wants e) × (q ≡ p) × (after ≡ before)
