-- What changes nothing, what lines keep, and scripts that begin alike.
use Rattle.std.proofs.Common.{◌≡◌, ℕ, suc, Bool, true, false, cond, eqb, ◌⊎◌, List, [], ◌∷◌, ◌++◌, Some, Ok, Err, Result, sym, refl, ap, ◌∙◌, inl, inr, append_assoc, eqb-true}
use Rattle.std.specs.List.{flat_map, AllByRecursion}
use Rattle.calculus.specs.Account.{left, declare_answer, add_answer, mark_answer, return_answer}
use Rattle.calculus.specs.declared.refusals.Refusal.{Refusal}
use Rattle.script.specs.Commands.{draft, unknown, settle, add, mark, return, rows, later}
use Rattle.script.specs.declared.answers.Answer.{Answer}
use Rattle.script.specs.declared.answers.Answer.TheVariants.{Added, Marked, Returned, Refused}
use Rattle.script.specs.declared.faults.Expected.{Expected}
use Rattle.day.specs.Day.{State, nothing, drafting, ticketed, line, numbered, said_so, Turn, speaks, wants, Outcome, outcome, then, turn}
use Rattle.day.specs.Laws.{RefusedStays, MisplacedStays, LinesWhole, LinesKeep, BeginsAlike, StopsAlike}
use Rattle.day.specs.Lines.{lines, before_first}

-- an answer that is no refusal comes only where the call was taken
kept : {B : Type 0} (done : Answer) (x : Result (Unit {0}) Refusal) (new old : B) (r : Refusal) →
    (done ≡ Refused r → ⊥) → ◌≡◌ {A = Result Answer Expected} (Ok (said_so done x)) (Ok (Refused r)) → left x new old ≡ old
kept done (Ok u) new old r apart e = absurd (apart (cc))
kept done (Err s) new old r apart e = refl

kept_number : {B : Type 0} (x : Result ℕ Refusal) (new old : B) (r : Refusal) →
    ◌≡◌ {A = Result Answer Expected} (Ok (numbered x)) (Ok (Refused r)) → left x new old ≡ old
kept_number (Ok k) new old r e = absurd cc
kept_number (Err s) new old r e = refl

pub refused_stays : RefusedStays
refused_stays p draft r e = absurd cc
refused_stays nothing (unknown low high) r e = refl
refused_stays (drafting rs) (unknown low high) r e = ap drafting (kept_number (declare_answer rs low high) _ rs r e)
refused_stays (ticketed a) (unknown low high) r e = refl
refused_stays nothing settle r e = refl
refused_stays (drafting rs) settle r e = absurd cc
refused_stays (ticketed a) settle r e = refl
refused_stays nothing (add label cs k) r e = refl
refused_stays (drafting rs) (add label cs k) r e = refl
refused_stays (ticketed a) (add label cs k) r e =
    ap ticketed (kept Added (add_answer a label cs k) _ a r (λ f. cc) e)
refused_stays nothing mark r e = refl
refused_stays (drafting rs) mark r e = refl
refused_stays (ticketed a) mark r e = ap ticketed (kept Marked (mark_answer a) _ a r (λ f. cc) e)
refused_stays nothing return r e = refl
refused_stays (drafting rs) return r e = refl
refused_stays (ticketed a) return r e =
    ap ticketed (kept Returned (return_answer a) _ a r (λ f. cc) e)
refused_stays p rows r e = refl
refused_stays p (later l) r e = refl

pub misplaced_stays : MisplacedStays
misplaced_stays p draft w e = absurd cc
misplaced_stays nothing (unknown low high) w e = refl
misplaced_stays (drafting rs) (unknown low high) w e = absurd cc
misplaced_stays (ticketed a) (unknown low high) w e = refl
misplaced_stays nothing settle w e = refl
misplaced_stays (drafting rs) settle w e = absurd cc
misplaced_stays (ticketed a) settle w e = refl
misplaced_stays nothing (add label cs k) w e = refl
misplaced_stays (drafting rs) (add label cs k) w e = refl
misplaced_stays (ticketed a) (add label cs k) w e = absurd cc
misplaced_stays nothing mark w e = refl
misplaced_stays (drafting rs) mark w e = refl
misplaced_stays (ticketed a) mark w e = absurd cc
misplaced_stays nothing return w e = refl
misplaced_stays (drafting rs) return w e = refl
misplaced_stays (ticketed a) return w e = absurd cc
misplaced_stays p rows w e = refl
misplaced_stays p (later l) w e = refl

abbrev NewlineFree : List ℕ → Type 0
NewlineFree l = AllByRecursion (λ b. eqb b 10 ≡ false) l

whole_by : (t : Bool) (b : ℕ) (ls : List (List ℕ)) → eqb b 10 ≡ t → AllByRecursion NewlineFree ls → AllByRecursion NewlineFree (cond t ([] ∷ ls) (before_first b ls))
whole_by true b ls e h = (tt, h)
whole_by false b [] e h = ((e, tt), tt)
whole_by false b (l ∷ ls) e h = ((e, h.0), h.1)

pub lines_whole : LinesWhole
lines_whole [] = tt
lines_whole (b ∷ bs) = whole_by (eqb b 10) b (lines bs) refl (lines_whole bs)

-- lines that are kept: they are the text, or the text with one newline more
abbrev Keeps : List (List ℕ) → List ℕ → Type 0
Keeps ls bs = (flat_map line ls ≡ bs) ⊎ (flat_map line ls ≡ line bs)

-- only an empty text has no line
lines_some : (b : ℕ) (bs : List ℕ) → lines (b ∷ bs) ≡ [] → ⊥
lines_some b bs e = some_by (eqb b 10) (lines bs) e
  where
    some_by : (t : Bool) (ls : List (List ℕ)) → cond t ([] ∷ ls) (before_first b ls) ≡ [] → ⊥
    some_by true ls e = cc
    some_by false [] e = cc
    some_by false (l ∷ ls) e = cc

keeps_by : (t : Bool) (b : ℕ) (bs : List ℕ) (ls : List (List ℕ)) → eqb b 10 ≡ t → (ls ≡ [] → bs ≡ []) → Keeps ls bs →
    Keeps (cond t ([] ∷ ls) (before_first b ls)) (b ∷ bs)
keeps_by true b bs ls e none (inl h) = let n = eqb-true b 10 e in inl (ap (λ (zs : List ℕ). 10 ∷ zs) h ∙ ap (λ (c : ℕ). c ∷ bs) (sym n))
keeps_by true b bs ls e none (inr h) = let n = eqb-true b 10 e in inr (ap (λ (zs : List ℕ). 10 ∷ zs) h ∙ ap (λ (c : ℕ). c ∷ line bs) (sym n))
keeps_by false b bs [] e none h = inr (ap (λ (zs : List ℕ). b ∷ line zs) (sym (none refl)))
keeps_by false b bs (l ∷ ls) e none (inl h) = inl (ap (λ (zs : List ℕ). b ∷ zs) h)
keeps_by false b bs (l ∷ ls) e none (inr h) = inr (ap (λ (zs : List ℕ). b ∷ zs) h)

none_empty : (bs : List ℕ) → lines bs ≡ [] → bs ≡ []
none_empty [] e = refl
none_empty (b ∷ bs) e = absurd (lines_some b bs e)

pub lines_keep : LinesKeep
lines_keep [] = inl refl
lines_keep (b ∷ bs) = keeps_by (eqb b 10) b bs (lines bs) refl (none_empty bs) (lines_keep bs)

-- what one turn adds in front
begins_by : (u : Turn) (n : ℕ) (go on : State → Outcome) → ((q : State) → (rest : List ℕ) × ((on q).text ≡ (go q).text ++ rest)) →
    (rest : List ℕ) × ((then u n on).text ≡ (then u n go).text ++ rest)
begins_by (speaks t q) n go on h =
    let more = h q in
    (more.0, ap (λ (bs : List ℕ). t ++ bs) more.1 ∙ sym (append_assoc t (go q).text more.0))
begins_by (wants e) n go on h = ([], refl)

pub begins_alike : BeginsAlike
begins_alike n p [] more = ((outcome n p more).text, refl)
begins_alike n p (l ∷ ls) more =
    begins_by (turn p l) n (λ q. outcome (suc n) q ls) (λ q. outcome (suc n) q (ls ++ more)) (λ q. begins_alike (suc n) q ls more)

stops_by : (u : Turn) (n : ℕ) (go on : State → Outcome) (s : ℕ × Expected) → ((q : State) → (go q).stop ≡ Some s → on q ≡ go q) →
    (then u n go).stop ≡ Some s → then u n on ≡ then u n go
stops_by (speaks t q) n go on s h e = ap (λ (o : Outcome). record { text = t ++ o.text; stop = o.stop }) (h q e)
stops_by (wants w) n go on s h e = refl

pub stops_alike : StopsAlike
stops_alike n p [] more s e = absurd cc
stops_alike n p (l ∷ ls) more s e =
    stops_by (turn p l) n (λ q. outcome (suc n) q ls) (λ q. outcome (suc n) q (ls ++ more)) s (λ q f. stops_alike (suc n) q ls more s f) e
