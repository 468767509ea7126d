-- A whole day at the level of the account: any calls in any order, their answers, and what is promised of them.
use Rattle.std.specs.Prelude.{◌≡◌, ℕ, zero, suc, ◌<◌, ◌≤◌, List, [], ◌∷◌, map, length, ℤ, None, Option, Result, ◌≢◌, slice_index_or}
use Rattle.std.specs.List.{AllByRecursion}
use Rattle.calculus.specs.Account.{Account, declared, settled, add_answer, added, mark_answer, marked, return_answer, returned}
use Rattle.calculus.specs.Advice.{Advice, Advises}
use Rattle.calculus.specs.Checking.{check_end}
use Rattle.calculus.specs.Limits.{most_lines}
use Rattle.calculus.specs.Logs.{Logbook}
use Rattle.calculus.specs.Promises.{FitRanges, FitRows, Excluded}
use Rattle.calculus.specs.RunLaws.{OneOf}
use Rattle.calculus.specs.Rows.{Standing, MeetsAll, Within}
use Rattle.calculus.specs.Runs.{Left, run_end, figure}
use Rattle.calculus.specs.declared.endings.Ending.TheVariants.{Plan, NoPlan, Refused}
use Rattle.calculus.specs.declared.endings.Objection.{Objection}
use Rattle.calculus.specs.declared.ranges.Range.{Range}
use Rattle.calculus.specs.declared.refusals.Refusal.{Refusal}
use Rattle.calculus.specs.declared.refusals.Refusal.TheVariants.{List as NoList, Misfit, Spent, Long, Wide, Log}

-- A call on a settled ticket with its arguments: a row with its label; a mark; a return; a run with its plan list, adviser, log and budget;
-- a check of a log.
pub data Call : Type 0 where
  to_add : ℕ → List ℤ → ℤ → Call
  to_mark : Call
  to_return : Call
  to_run : List ℤ → Advice → Logbook → ℕ → Call
  to_check : Logbook → Call

-- What a call is answered, with the plan list, adviser and log that a run leaves.
pub data Answer : Type 0 where
  taken : Result (Unit {0}) Refusal → Answer
  ran : Left → Answer
  checked : Option Objection → Answer

-- A call with its answer.
pub record Event : Type 0 where
  pub call : Call
  pub answer : Answer

-- the answer due to a call, by the account alone
abbrev pub answer_due : Account → Call → Answer
answer_due a (to_add label cs k) = taken (add_answer a label cs k)
answer_due a to_mark = taken (mark_answer a)
answer_due a to_return = taken (return_answer a)
answer_due a (to_run plan adviser log budget) = ran (run_end a.ranges a.rows adviser log plan budget)
answer_due a (to_check log) = checked (check_end a.ranges a.rows log)

-- the account after a call; runs and checks leave it
abbrev pub account_after : Account → Call → Account
account_after a (to_add label cs k) = added a label cs k
account_after a to_mark = marked a
account_after a to_return = returned a
account_after a (to_run plan adviser log budget) = a
account_after a (to_check log) = a

-- events lead from an account to another: each is answered as is due, and the account follows
abbrev pub Leads : Account → List Event → Account → Type 0
Leads a [] b = b ≡ a
Leads a (e ∷ es) b = (e.answer ≡ answer_due a e.call) × Leads (account_after a e.call) es b

-- the events that calls on an account make, each answered as is due, and the account after them
abbrev pub day : Account → List Call → List Event
day a [] = []
day a (c ∷ cs) = record { call = c; answer = answer_due a c } ∷ day (account_after a c) cs

abbrev pub day_end : Account → List Call → Account
day_end a [] = a
day_end a (c ∷ cs) = day_end (account_after a c) cs

-- every list of calls makes events that lead on
abbrev pub CallsLead : Type 0
CallsLead = (a : Account) (cs : List Call) → Leads a (day a cs) (day_end a cs)

-- and events that lead on are those that their calls make: the arguments of the calls fix every answer and the account
abbrev pub LeadsOnly : Type 0
LeadsOnly = (a : Account) (es : List Event) (b : Account) → Leads a es b →
    (es ≡ day a (map (λ e. e.call) es)) × (b ≡ day_end a (map (λ e. e.call) es))

-- what a draft declares and what a ticket takes fits: no range at first, one more after each declaring, and rows through every call
abbrev pub AccountFits : Type 0
AccountFits =
    FitRanges []
    × ((rs : List Range) (low high : ℤ) → FitRanges rs → FitRanges (declared rs low high))
    × ((rs : List Range) → FitRows rs (settled rs).rows)
    × ((a : Account) (c : Call) → FitRows a.ranges a.rows → FitRows (account_after a c).ranges (account_after a c).rows)

-- a run brings any adviser that keeps to what an adviser is, and any log whose capacity is within its limit; the other calls bring anything
abbrev pub Fair : Call → Type 0
Fair (to_add label cs k) = Unit {0}
Fair to_mark = Unit {0}
Fair to_return = Unit {0}
Fair (to_run plan adviser log budget) = Advises adviser × (log.capacity ≤ most_lines)
Fair (to_check log) = Unit {0}

-- What is promised of a run on these ranges and rows.
pub record RunKept (rs : List Range) (rows : List Standing) (plan : List ℤ) (adviser : Advice) (log : Logbook) (budget : ℕ) (end : Left)
    : Type 0 where
  -- a plan lies within the ranges and meets every row
  pub plan_right : end.ending ≡ Plan → Within rs end.plan × MeetsAll end.plan rows
  -- anything else leaves the plan list as found
  pub list_kept : (end.ending ≢ Plan) → end.plan ≡ plan
  -- after none no assignment is left, and a check on the same rows accepts whatever log holds the lines that it left
  pub none_right : end.ending ≡ NoPlan → Excluded rs rows
  pub none_shown : end.ending ≡ NoPlan →
      (again : Logbook) → again.unknowns ≡ length rs → again.lines ≡ end.log.lines → check_end rs rows again ≡ None
  -- spent carries moves equal to the budget, which was below the figure; from the figure on it does not come
  pub spent_right : end.ending ≡ Refused Spent → (end.moves ≡ budget) × (budget < figure rs)
  pub enough : figure rs ≤ budget →
      OneOf (Plan ∷ NoPlan ∷ Refused NoList ∷ Refused Misfit ∷ Refused Long ∷ Refused Wide ∷ Refused Log ∷ []) end.ending
  -- list and misfit carry no move and leave everything as found
  pub list_first : end.ending ≡ Refused NoList → (end.moves ≡ 0) × (end.plan ≡ plan) × (end.advice ≡ adviser) × (end.log ≡ log)
  pub misfit_first : end.ending ≡ Refused Misfit → (end.moves ≡ 0) × (end.plan ≡ plan) × (end.advice ≡ adviser) × (end.log ≡ log)

-- what is promised of a call on an account and its answer
abbrev pub Promised : Account → Call → Answer → Type 0
Promised a (to_add label cs k) r = Unit {0}
Promised a to_mark r = Unit {0}
Promised a to_return r = Unit {0}
Promised a (to_run plan adviser log budget) r = (end : Left) → r ≡ ran end → RunKept a.ranges a.rows plan adviser log budget end
Promised a (to_check log) r = r ≡ checked None → Excluded a.ranges a.rows

-- the account before event i
abbrev pub before : Account → List Event → ℕ → Account
before a [] i = a
before a (e ∷ es) zero = a
before a (e ∷ es) (suc i) = before (account_after a e.call) es i

-- event i
abbrev pub event_at : List Event → ℕ → Event
event_at es i = slice_index_or es i (record { call = to_mark; answer = checked None })

-- Of any events that lead from a settled ticket on: every answer keeps its promise on the account at its call; and a log that a run left
-- with none is accepted by every check at which the same rows stand, whatever came between.
pub record DayKept (rs : List Range) (es : List Event) (b : Account) : Type 0 where
  pub promised : (i : ℕ) → i < length es → Promised (before (settled rs) es i) (event_at es i).call (event_at es i).answer
  pub accepted : (i j : ℕ) (plan : List ℤ) (adviser : Advice) (log : Logbook) (budget : ℕ) (end : Left) (again : Logbook) →
      i < length es → j < length es →
      event_at es i ≡ record { call = to_run plan adviser log budget; answer = ran end } → end.ending ≡ NoPlan →
      (event_at es j).call ≡ to_check again → again.unknowns ≡ length rs → again.lines ≡ end.log.lines →
      (before (settled rs) es i).rows ≡ (before (settled rs) es j).rows →
      (event_at es j).answer ≡ checked None
  pub ranges_stay : b.ranges ≡ rs

-- the whole day
abbrev pub DayRight : Type 0
DayRight = (rs : List Range) (es : List Event) (b : Account) → FitRanges rs → Leads (settled rs) es b →
    AllByRecursion (λ e. Fair e.call) es →
    DayKept rs es b
