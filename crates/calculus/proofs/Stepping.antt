-- What every step keeps: lines are only appended, and within the capacity, the adviser is at most told, the trail stays short, and free
-- steps lead to an end.
-- It rests on the definitions and the library alone.
use Rattle.std.proofs.Common.{◌≡◌, ℕ, zero, suc, ◌+◌, ◌<◌, ◌≤◌, Bool, true, false, ltb, leb, ◌⊎◌, List, [], ◌∷◌, ◌++◌, length, ℤ, nat_abs, Some, None, Ok, Err, Option, sym, refl, ap, ◌∙◌, inl, inr, arith}
use Rattle.std.proofs.lemmas.List.{append-nil, append_assoc, length-append}
use Rattle.std.proofs.lemmas.Bool.Decides.{nat_tests}
use Rattle.std.proofs.lemmas.Bool.{both_ways}
use Rattle.calculus.specs.Advice.{Advice, told}
use Rattle.calculus.specs.Bounds.{Trail}
use Rattle.calculus.specs.Limits.{most_entries}
use Rattle.calculus.specs.Logs.{Line, Written, written, written_by}
use Rattle.calculus.specs.Machines.{Context, Phase, looking, repairing, ended, Machine, Acted, free, halted, moved, in_phase}
use Rattle.calculus.specs.Machines.{pushed, due_by, row_due, decide_by, look_choice, look_bound, look_fail}
use Rattle.calculus.specs.Machines.{mended, reduced_by, repaired, resolved_by, dropped, implied_off, jump, decided_off, off}
use Rattle.calculus.specs.Machines.{closed, close, repair, act_in, act}
use Rattle.calculus.specs.RunLaws.{is_over, Grown, OneOf}
use Rattle.calculus.specs.Rows.{Row, coef, cut}
use Rattle.calculus.specs.Tightening.{Narrowing, going, stopped, outcome, summed_by, summed, aside, matched, narrowed_by, narrowed}
use Rattle.calculus.specs.Tightening.{finished_by, finished, tightened}
use Rattle.calculus.specs.declared.endings.Ending.{Ending}
use Rattle.calculus.specs.declared.endings.Ending.TheVariants.{Plan, NoPlan, Refused}
use Rattle.calculus.specs.declared.kinds.Kind.{Kind}
use Rattle.calculus.specs.declared.kinds.Kind.TheVariants.{Row as Placed, Sum, Cut}
use Rattle.calculus.specs.declared.refusals.Refusal.{Refusal}
use Rattle.calculus.specs.declared.refusals.Refusal.TheVariants.{Long, Wide, Log}
use Rattle.calculus.specs.declared.sides.Side.{Side}
use Rattle.calculus.specs.declared.trails.Bound.{Bound}
use Rattle.calculus.specs.declared.trails.Entry.{Entry}

-- ---- lines grow

pub grown_same : (ls : List Line) → Grown ls ls
grown_same ls = record { rest = []; is = sym (append-nil ls) }

pub grown_on : {ls ms ns : List Line} → Grown ls ms → Grown ms ns → Grown ls ns
grown_on {ls = ls} p q = record {
  rest = p.rest ++ q.rest;
  is = q.is ∙ ap (λ (z : List Line). z ++ q.rest) p.is ∙ append_assoc ls p.rest q.rest;
}

-- Lines that grow within a capacity: more lines, and no more than fit where no more were there.
pub record Grows (capacity : ℕ) (ls ms : List Line) : Type 0 where
  pub grown : Grown ls ms
  pub room : length ls ≤ capacity → length ms ≤ capacity

grows_same : (capacity : ℕ) (ls : List Line) → Grows capacity ls ls
grows_same capacity ls = record { grown = grown_same ls; room = λ h. h }

grows_on : {capacity : ℕ} {ls ms ns : List Line} → Grows capacity ls ms → Grows capacity ms ns → Grows capacity ls ns
grows_on p q = record { grown = grown_on p.grown q.grown; room = λ h. q.room (p.room h) }

-- the refusals that a line can meet
abbrev pub Stops : Refusal → Type 0
Stops r = (r ≡ Wide) ⊎ (r ≡ Log)

-- a write leaves the lines or more of them, and is refused wide or log
abbrev pub Writes : ℕ → List Line → Written → Type 0
Writes capacity ls w = Grows capacity ls w.1 × ((r : Refusal) → w.0 ≡ Err r → Stops r)

written_by_ok : (full : Bool) (capacity : ℕ) (l : Line) (ls : List Line) → leb capacity (length ls) ≡ full →
    Writes capacity ls (written_by full l ls)
written_by_ok true capacity l ls h = (grows_same capacity ls, λ r e. inr (let z : Log ≡ r = cc in sym z))
written_by_ok false capacity l ls h = (
  record {
    grown = record { rest = l ∷ []; is = refl };
    room = λ k. let e = length-append ls (l ∷ []) in let less : length ls < capacity = grind (arith, nat_tests) in omega arith;
  },
  λ r e. absurd cc,
)

pub written_ok : (capacity : ℕ) (k : Kind) (r : Row) (ls : List Line) → Writes capacity ls (written capacity k r ls)
written_ok capacity k r ls = written_by_ok (leb capacity (length ls)) capacity _ ls refl

writes_on : (capacity : ℕ) (ls : List Line) {ms : List Line} (w : Written) → Grows capacity ls ms → Writes capacity ms w →
    Writes capacity ls w
writes_on capacity ls w g h = (grows_on g h.0, h.1)

-- tightening underway keeps the lines
abbrev Narrows : ℕ → List Line → Narrowing → Type 0
Narrows capacity ls (going row part line more) = Grows capacity ls more
Narrows capacity ls (stopped r more) = Grows capacity ls more × Stops r

outcome_ok : (capacity : ℕ) (ls : List Line) (w : Written) (row part : Row) → Writes capacity ls w →
    Narrows capacity ls (outcome w row part)
outcome_ok capacity ls (Ok line, more) row part h = h.0
outcome_ok capacity ls (Err r, more) row part h = (h.0, h.1 r refl)

summed_by_ok : (b : Bool) (capacity m q : ℕ) (row part : Row) (line : ℕ) (ls : List Line) →
    Narrows capacity ls (summed_by b capacity m q row part line ls)
summed_by_ok false capacity m q row part line ls = (grows_same capacity ls, inl refl)
summed_by_ok true capacity m q row part line ls = outcome_ok capacity ls _ row part (written_ok capacity (Sum line q 1 m) row ls)

summed_ok : (capacity m q : ℕ) (row part : Row) (line : ℕ) (ls : List Line) → Narrows capacity ls (summed capacity m q row part line ls)
summed_ok capacity zero q row part line ls = grows_same capacity ls
summed_ok capacity (suc m) q row part line ls = summed_by_ok _ capacity (suc m) q _ _ line ls

aside_ok : (capacity : ℕ) (ls : List Line) (y : ℕ) (w : Narrowing) → Narrows capacity ls w → Narrows capacity ls (aside y w)
aside_ok capacity ls y (going row part line more) h = h
aside_ok capacity ls y (stopped r more) h = h

matched_ok : (why : Option ℕ) (capacity d : ℕ) (e : Entry) (t : Trail) (c : ℤ) (row part : Row) (line : ℕ) (ls : List Line) →
    Narrows capacity ls (matched why capacity d e t c row part line ls)
matched_ok (Some q) capacity d e t c row part line ls = summed_ok capacity (nat_abs c) q row part line ls
matched_ok None capacity d e t c row part line ls = aside_ok capacity ls e.unknown _ (summed_ok capacity _ _ row part line ls)

narrowed_by_ok : (b : Bool) (capacity d : ℕ) (e : Entry) (t : Trail) (c : ℤ) (row part : Row) (line : ℕ) (ls : List Line) →
    Narrows capacity ls (narrowed_by b capacity d e t c row part line ls)
narrowed_by_ok true capacity d e t c row part line ls = matched_ok e.cause capacity d e t c row part line ls
narrowed_by_ok false capacity d e t c row part line ls = grows_same capacity ls

narrows_on : (capacity : ℕ) (ls ms : List Line) (w : Narrowing) → Grows capacity ls ms → Narrows capacity ms w → Narrows capacity ls w
narrows_on capacity ls ms (going row part line more) g h = grows_on g h
narrows_on capacity ls ms (stopped r more) g h = (grows_on g h.0, h.1)

narrowed_ok : (ls : List Line) (capacity d : ℕ) (t : Trail) (w : Narrowing) → Narrows capacity ls w →
    Narrows capacity ls (narrowed capacity d t w)
narrowed_ok ls capacity d [] w h = h
narrowed_ok ls capacity d (e ∷ t) (going row part line more) h =
    narrowed_ok ls capacity d t _ (narrows_on capacity ls more _ h (narrowed_by_ok _ capacity d e t _ row part line more))
narrowed_ok ls capacity d (e ∷ t) (stopped r more) h = h

finished_by_ok : (b : Bool) (capacity d : ℕ) (row : Row) (line : ℕ) (ls : List Line) →
    Writes capacity ls (finished_by b capacity d row line ls)
finished_by_ok true capacity d row line ls = written_ok capacity (Cut line d) (cut d row) ls
finished_by_ok false capacity d row line ls = (grows_same capacity ls, λ r e. absurd cc)

finished_ok : (ls : List Line) (capacity d : ℕ) (w : Narrowing) → Narrows capacity ls w → Writes capacity ls (finished capacity d w)
finished_ok ls capacity d (going row part line more) h = writes_on capacity ls _ h (finished_by_ok (leb 2 d) capacity d row line more)
finished_ok ls capacity d (stopped r more) h = (h.0, λ s e. let same : r ≡ s = cc in let k = h.1 in stops_same same k)
  where
    stops_same : {r s : Refusal} → r ≡ s → Stops r → Stops s
    stops_same e (inl p) = inl (sym e ∙ p)
    stops_same e (inr p) = inr (sym e ∙ p)

pub tightened_ok : (capacity : ℕ) (t : Trail) (row : Row) (line x : ℕ) (ls : List Line) →
    Writes capacity ls (tightened capacity t row line x ls)
tightened_ok capacity t row line x ls =
    finished_ok ls capacity _ _ (narrowed_ok ls capacity (nat_abs (coef row.coefs x)) t (going row _ line ls) (grows_same capacity ls))

-- ---- what one step keeps

-- the steps that a machine has at most before it ends or a move is due
abbrev pub togo : Phase → ℕ → ℕ
togo looking entries = entries + 2
togo (repairing j line place) entries = entries + 1
togo (ended e) entries = 0

abbrev pub togo_of : Machine → ℕ
togo_of m = togo m.phase (length m.trail)

-- the endings of a machine
abbrev pub lasting : List Ending
lasting = Plan ∷ NoPlan ∷ Refused Long ∷ Refused Wide ∷ Refused Log ∷ []

abbrev pub Lasts : Phase → Type 0
Lasts looking = Unit {0}
Lasts (repairing j line place) = Unit {0}
Lasts (ended e) = OneOf lasting e

-- an adviser as it was, or told
abbrev pub Hears : Advice → Advice → Type 0
Hears a b = (b ≡ a) ⊎ ((x : ℕ) × (b ≡ told a x))

-- From one machine to the next: more lines, the adviser at most told, a trail within its limit, and one of the endings.
pub record Step (c : Context) (m n : Machine) : Type 0 where
  pub lines : Grows c.capacity m.lines n.lines
  pub advice : Hears m.advice n.advice
  pub short : length m.trail ≤ most_entries → length n.trail ≤ most_entries
  pub ends : Lasts m.phase → Lasts n.phase

abbrev pub Busy : Machine → Type 0
Busy m = is_over m.phase ≡ false

-- a free step leads on towards an end; a move or what comes in its place is only due before the end
abbrev pub Fine : Context → Machine → Acted → Type 0
Fine c m (free n) = Step c m n × (Busy m → togo_of n < togo_of m)
Fine c m (halted n) = Step c m n × Busy m × (is_over n.phase ≡ true)
Fine c m (moved n) = Step c m n × Busy m × Busy n

stops_last : (r : Refusal) → Stops r → OneOf lasting (Refused r)
stops_last r (inl e) = inr (inr (inr (inl (ap Refused e))))
stops_last r (inr e) = inr (inr (inr (inr (inl (ap Refused e)))))

pushed_ok : (w : Written) (c : Context) (m : Machine) (a : Advice) (t : Trail) (x : ℕ) (b : Bound) → Writes c.capacity m.lines w →
    Busy m →
    Hears m.advice a → length t < most_entries → Fine c m (pushed w m a t x b)
pushed_ok (Ok q, ls) c m a t x b h busy hears less =
    (record { lines = h.0; advice = hears; short = λ _. less; ends = λ _. tt }, busy, refl)
pushed_ok (Err r, ls) c m a t x b h busy hears less =
    (record { lines = h.0; advice = inl refl; short = λ _. omega arith; ends = λ _. stops_last r (h.1 r refl) }, busy, refl)

long_last : OneOf lasting (Refused Long)
long_last = inr (inr (inl refl))

due_by_ok : (less : Bool) (c : Context) (m : Machine) (a : Advice) (t : Trail) (row : Row) (line x : ℕ) (b : Bound) →
    ltb (length t) most_entries ≡ less → Busy m → Hears m.advice a → length t ≤ length m.trail →
    Fine c m (due_by less c m a t row line x b)
due_by_ok true c m a t row line x b e busy hears len =
    pushed_ok _ c m a t x b (tightened_ok c.capacity t row line x m.lines) busy hears (grind (arith, nat_tests))
due_by_ok false c m a t row line x b e busy hears len =
    (record { lines = grows_same c.capacity m.lines; advice = inl refl; short = λ h. omega arith; ends = λ _. long_last }, busy, refl)

row_due_ok : (c : Context) (m : Machine) (a : Advice) (t : Trail) (row : Row) (line x : ℕ) (b : Bound) → Busy m →
    Hears m.advice a → length t ≤ length m.trail → Fine c m (row_due c m a t row line x b)
row_due_ok c m a t row line x b busy hears len = due_by_ok _ c m a t row line x b refl busy hears len

-- ---- the look

-- the same machine in another phase
phased : (c : Context) (m : Machine) (p : Phase) → Lasts p → Step c m (in_phase m p)
phased c m p h = record { lines = grows_same c.capacity m.lines; advice = inl refl; short = λ s. s; ends = λ _. h }

decide_by_ok : (less : Bool) (c : Context) (m : Machine) (x : ℕ) (s : Side) → ltb (length m.trail) most_entries ≡ less → Busy m →
    Fine c m (decide_by less c m x s)
decide_by_ok true c m x s e busy = (
  record { lines = grows_same c.capacity m.lines; advice = inl refl; short = λ _. grind (arith, nat_tests); ends = λ _. tt },
  busy,
  refl,
)
decide_by_ok false c m x s e busy = (phased c m _ long_last, busy, refl)

look_choice_ok : (o : Option (ℕ × Side)) (c : Context) (m : Machine) → Busy m → togo_of m ≡ length m.trail + 2 →
    Fine c m (look_choice o c m)
look_choice_ok None c m busy e = (phased c m (ended Plan) (inl refl), λ _. omega arith)
look_choice_ok (Some (x, s)) c m busy e = decide_by_ok _ c m x s refl busy

look_bound_ok : (o : Option (ℕ × (ℕ × Bound))) (c : Context) (m : Machine) → Busy m → togo_of m ≡ length m.trail + 2 →
    Fine c m (look_bound o c m)
look_bound_ok None c m busy e = look_choice_ok _ c m busy e
look_bound_ok (Some (p, (x, b))) c m busy e = row_due_ok c m m.advice m.trail _ _ x b busy (inl refl) (omega arith)

look_fail_ok : (o : Option ℕ) (c : Context) (m : Machine) → Busy m → togo_of m ≡ length m.trail + 2 → Fine c m (look_fail o c m)
look_fail_ok None c m busy e = look_bound_ok _ c m busy e
look_fail_ok (Some p) c m busy e = (phased c m (repairing _ _ _) tt, λ _. omega arith)

-- ---- repair

-- an entry taken off, in whatever phase
taken : (c : Context) (m : Machine) (t : Trail) (ls : List Line) (p : Phase) → Grows c.capacity m.lines ls →
    length t ≤ length m.trail → Lasts p →
    Step c m (record { trail = t; lines = ls; advice = m.advice; phase = p })
taken c m t ls p g len h = record { lines = g; advice = inl refl; short = λ s. omega arith; ends = λ _. h }

mended_ok : (w : Written) (c : Context) (m : Machine) (t : Trail) (j : Row) → Writes c.capacity m.lines w →
    length t ≤ length m.trail →
    length t + 1 < togo_of m → Fine c m (mended w m t j)
mended_ok (Ok line, ls) c m t j h len less = (taken c m t ls _ h.0 len tt, λ _. less)
mended_ok (Err r, ls) c m t j h len less = (taken c m t ls _ h.0 len (stops_last r (h.1 r refl)), λ _. omega arith)

reduced_by_ok : (b : Bool) (c : Context) (m : Machine) (t : Trail) (j : Row) (line : ℕ) (ls : List Line) →
    Grows c.capacity m.lines ls →
    length t ≤ length m.trail → length t + 1 < togo_of m → Fine c m (reduced_by b c m t j line ls)
reduced_by_ok true c m t j line ls g len less =
    mended_ok _ c m t _ (writes_on c.capacity m.lines _ g (written_ok c.capacity (Cut line _) _ ls)) len less
reduced_by_ok false c m t j line ls g len less = (taken c m t ls _ g len tt, λ _. less)

repaired_ok : (w : Written) (c : Context) (m : Machine) (t : Trail) (j : Row) → Writes c.capacity m.lines w →
    length t ≤ length m.trail →
    length t + 1 < togo_of m → Fine c m (repaired w c m t j)
repaired_ok (Ok line, ls) c m t j h len less = reduced_by_ok _ c m t j line ls h.0 len less
repaired_ok (Err r, ls) c m t j h len less = (taken c m t ls _ h.0 len (stops_last r (h.1 r refl)), λ _. omega arith)

resolved_by_ok : (b : Bool) (c : Context) (m : Machine) (t : Trail) (j : Row) (line q k : ℕ) → length t ≤ length m.trail →
    length t + 1 < togo_of m → Fine c m (resolved_by b c m t j line q k)
resolved_by_ok true c m t j line q k len less =
    repaired_ok _ c m t j (written_ok c.capacity (Sum line q 1 k) j m.lines) len less
resolved_by_ok false c m t j line q k len less =
    (taken c m t m.lines _ (grows_same c.capacity m.lines) len (stops_last Wide (inl refl)), λ _. omega arith)

dropped_ok : (c : Context) (m : Machine) (t : Trail) (j : Row) (line : ℕ) (place : Option ℕ) → length t ≤ length m.trail →
    length t + 1 < togo_of m → Fine c m (dropped m t j line place)
dropped_ok c m t j line place len less = (taken c m t m.lines _ (grows_same c.capacity m.lines) len tt, λ _. less)

implied_off_ok : (b : Bool) (c : Context) (m : Machine) (t : Trail) (j : Row) (line : ℕ) (place : Option ℕ) (q k : ℕ) →
    length t ≤ length m.trail → length t + 1 < togo_of m → Fine c m (implied_off b c m t j line place q k)
implied_off_ok true c m t j line place q k len less = resolved_by_ok _ c m t _ line q k len less
implied_off_ok false c m t j line place q k len less = dropped_ok c m t j line place len less

jump_ok : (o : Option Bound) (c : Context) (m : Machine) (t : Trail) (j : Row) (line : ℕ) (place : Option ℕ) (x : ℕ) → Busy m →
    length t ≤ length m.trail → length t + 1 < togo_of m → Fine c m (jump o c m t j line place x)
jump_ok None c m t j line place x busy len less = dropped_ok c m t j line place len less
jump_ok (Some b) c m t j line place x busy len less = row_due_ok c m (told m.advice x) t j line x b busy (inr (x, refl)) len

decided_off_ok : (b : Bool) (c : Context) (m : Machine) (t : Trail) (j : Row) (line : ℕ) (place : Option ℕ) (x : ℕ) → Busy m →
    length t ≤ length m.trail → length t + 1 < togo_of m → Fine c m (decided_off b c m t j line place x)
decided_off_ok true c m t j line place x busy len less = dropped_ok c m t j line place len less
decided_off_ok false c m t j line place x busy len less = jump_ok _ c m t j line place x busy len less

off_ok : (why : Option ℕ) (c : Context) (m : Machine) (e : Entry) (t : Trail) (j : Row) (line : ℕ) (place : Option ℕ) → Busy m →
    length t ≤ length m.trail → length t + 1 < togo_of m → Fine c m (off why c m e t j line place)
off_ok (Some q) c m e t j line place busy len less = implied_off_ok _ c m t j line place q _ len less
off_ok None c m e t j line place busy len less = decided_off_ok _ c m t j line place e.unknown busy len less

closed_ok : (w : Written) (c : Context) (m : Machine) → Writes c.capacity m.lines w → 0 < togo_of m → Fine c m (closed w m)
closed_ok (Ok q, ls) c m h less = (taken c m m.trail ls _ h.0 (omega arith) (inr (inl refl)), λ _. less)
closed_ok (Err r, ls) c m h less = (taken c m m.trail ls _ h.0 (omega arith) (stops_last r (h.1 r refl)), λ _. less)

close_ok : (place : Option ℕ) (c : Context) (m : Machine) (j : Row) (line : ℕ) → 0 < togo_of m → Fine c m (close place c m j line)
close_ok (Some p) c m j line less = closed_ok _ c m (written_ok c.capacity (Placed p) j m.lines) less
close_ok None c m j line less =
    closed_ok (Ok line, m.lines) c m (grows_same c.capacity m.lines, λ r e. absurd cc)
    less

repair_ok : (t : Trail) (c : Context) (m : Machine) (j : Row) (line : ℕ) (place : Option ℕ) → m.trail ≡ t → Busy m →
    togo_of m ≡ length m.trail + 1 → Fine c m (repair t c m j line place)
repair_ok [] c m j line place e busy w = close_ok place c m j line (omega arith)
repair_ok (e ∷ t) c m j line place tops busy w =
    let len = ap (λ (s : Trail). length s) tops in
    off_ok e.cause c m e t j line place busy (omega arith) (omega arith)

act_in_ok : (p : Phase) (c : Context) (m : Machine) → m.phase ≡ p → Fine c m (act_in p c m)
act_in_ok looking c m e = look_fail_ok _ c m (ap is_over e) (ap (λ (p : Phase). togo p (length m.trail)) e)
act_in_ok (repairing j line place) c m e =
    repair_ok m.trail c m j line place refl (ap is_over e) (ap (λ (p : Phase). togo p (length m.trail)) e)
act_in_ok (ended x) c m e = (
  record { lines = grows_same c.capacity m.lines; advice = inl refl; short = λ s. s; ends = λ h. h },
  λ busy. absurd (both_ways _ busy (ap is_over e)),
)

-- every step is fine
pub act_ok : (c : Context) (m : Machine) → Fine c m (act c m)
act_ok c m = act_in_ok m.phase c m refl
