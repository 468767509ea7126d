-- Laws of advisers: what the three kinds keep to, what a choice is, and that a run leaves an adviser as good as it found it.
-- It rests on `Reduction`, `Running`, `Stepping` and `Tabling`.
use Rattle.std.proofs.Common.{◌≡◌, ℕ, zero, suc, ◌+◌, ◌<◌, Bool, true, false, cond, ◌&&◌, eqb, ltb, List, [], ◌∷◌, ◌++◌, map, length, ℤ, Some, None, Ok, Err, Result, sym, refl, ap, ◌∙◌, subst, inl, inr, arith}
use Rattle.std.specs.List.{AllByRecursion}
use Rattle.std.proofs.lemmas.List.{length-append, length-map}
use Rattle.std.proofs.lemmas.Bool.Decides.{nat_tests}
use Rattle.std.proofs.lemmas.Bool.{both_ways}
use Rattle.calculus.specs.Advice.{Order, Mind, Advice, advised, named, Orderly, Keeps, Advises, open_or, first_open, only_if, choice}
use Rattle.calculus.specs.Advice.{told_by, told, by_number, naming, others, to_front}
use Rattle.calculus.specs.Advice.{turned_side, turned_pair, turned_mind}
use Rattle.calculus.specs.Arithmetic.{same_number}
use Rattle.calculus.specs.Logs.{Logbook}
use Rattle.calculus.specs.Machines.{Context, act}
use Rattle.calculus.specs.RunLaws.{after, AdviceAfter, ChoiceOpen, ChoiceFirst, ThreeAdvise, ThreeAdvised, SteadyStays, TurnedTwice}
use Rattle.calculus.specs.Rows.{Row, coef}
use Rattle.calculus.specs.Runs.{start_by, whole_run, left_by, rows_of}
use Rattle.calculus.specs.Tables.{table}
use Rattle.calculus.specs.declared.ranges.Range.{Range}
use Rattle.calculus.specs.declared.refusals.Refusal.{Refusal}
use Rattle.calculus.specs.declared.sides.Side.{Side}
use Rattle.calculus.specs.declared.sides.Side.TheVariants.{Low, High}
use Rattle.calculus.proofs.Reduction.{same_number_decides}
use Rattle.calculus.proofs.Running.{whole_keeps, act_step}
use Rattle.calculus.proofs.Stepping.{Hears}
use Rattle.calculus.proofs.Tabling.{table_long}

-- ---- orders

named_append : (x : ℕ) (o p : Order) → named x (o ++ p) ≡ named x o + named x p
named_append x [] p = omega arith
named_append x (q ∷ o) p = let e = named_append x o p in omega arith

by_number_named : (x m : ℕ) → named x (table (λ y. (y, Low)) m) ≡ cond (ltb x m) 1 0
by_number_named x zero = grind (arith, nat_tests)
by_number_named x (suc m) =
    let e = by_number_named x m in
    let a = named_append x (table (λ y. (y, Low)) m) ((m, Low) ∷ []) in
    grind (arith, nat_tests)

by_number_orderly : (m : ℕ) → Orderly (by_number m).order
by_number_orderly m x = by_number_named x m ∙ ap (λ (k : ℕ). cond (ltb x k) 1 0) (sym (table_long (λ y. (y, Low)) m))

-- to the front and the others: each is named as often as before
front_named : (y x : ℕ) (o : Order) → named y (naming x o) + named y (others x o) ≡ named y o
front_named y x [] = refl
front_named y x (p ∷ o) = let e = front_named y x o in grind (arith, nat_tests)

front_long : (x : ℕ) (o : Order) → length (naming x o) + length (others x o) ≡ length o
front_long x [] = refl
front_long x (p ∷ o) = let e = front_long x o in grind (arith, nat_tests)

front_keeps : Keeps to_front
front_keeps s x h l =
    let long : length (naming x s.order ++ others x s.order) ≡ length s.order =
    length-append (naming x s.order) (others x s.order) ∙ front_long x s.order in (
      long,
      λ y. named_append y (naming x s.order) (others x s.order) ∙ front_named y x s.order ∙ h y
          ∙ ap (λ (k : ℕ). cond (ltb y k) 1 0) (sym long),
    )

-- ---- turning

side_twice : (s : Side) → turned_side (turned_side s) ≡ s
side_twice Low = refl
side_twice High = refl

order_twice : (o : Order) → map turned_pair (map turned_pair o) ≡ o
order_twice [] = refl
order_twice (p ∷ o) = λ i. (p.0, side_twice p.1 i) ∷ order_twice o i

mind_twice : (s : Mind) → turned_mind (turned_mind s) ≡ s
mind_twice s = λ i. record { order = order_twice s.order i; memory = s.memory }

turned_named : (x : ℕ) (o : Order) → named x (map turned_pair o) ≡ named x o
turned_named x [] = refl
turned_named x (p ∷ o) = ap (λ (k : ℕ). cond (eqb x p.0) 1 0 + k) (turned_named x o)

turned_orderly : (o : Order) → Orderly o → Orderly (map turned_pair o)
turned_orderly o h x = turned_named x o ∙ h x ∙ ap (λ (k : ℕ). cond (ltb x k) 1 0) (sym (length-map o turned_pair))

turned_keeps : (rule : Mind → ℕ → Mind) → Keeps rule → Keeps (λ s x. turned_mind (rule (turned_mind s) x))
turned_keeps rule k s x h l =
    let same = length-map s.order turned_pair in
    let inner = k (turned_mind s) x (turned_orderly s.order h) (subst (λ (m : ℕ). x < m) (sym same) l) in
    (length-map (rule (turned_mind s) x).order turned_pair ∙ inner.0 ∙ same, turned_orderly _ inner.1)

pub three_advise : ThreeAdvise
three_advise = (
  λ m. record { orderly = by_number_orderly m; keeps = λ s x h l. (refl, h) },
  λ m. record { orderly = by_number_orderly m; keeps = front_keeps },
  λ a h. record { orderly = turned_orderly a.mind.order h.orderly; keeps = turned_keeps a.rule h.keeps },
)

pub three_advised : ThreeAdvised
three_advised = (λ m. table_long (λ y. (y, Low)) m, λ m. table_long (λ y. (y, Low)) m, λ a. length-map a.mind.order turned_pair)

steady_by : (b : Bool) (s : Mind) (x : ℕ) → told_by b (λ s x. s) s x ≡ s
steady_by true s x = refl
steady_by false s x = refl

pub steady_stays : SteadyStays
steady_stays m x = ap (λ (s : Mind). record { mind = s; rule = λ s x. s }) (steady_by (ltb x (length (by_number m).order)) (by_number m) x)

pub turned_twice : TurnedTwice
turned_twice a = λ i. record {
  mind = mind_twice a.mind i;
  rule = λ s x. mind_twice (a.rule (mind_twice s i) x) i;
}

-- ---- choices

abbrev Fixed : List ℤ → List ℤ → ℕ → Bool
Fixed lows highs x = same_number (coef lows x) (coef highs x)

none_by : (b : Bool) (p : ℕ × Side) (o : Order) (lows highs : List ℤ) (x : ℕ) → Fixed lows highs p.0 ≡ b →
    open_or b p (first_open o lows highs) ≡ None → 0 < named x (p ∷ o) →
    (first_open o lows highs ≡ None → 0 < named x o → Fixed lows highs x ≡ true) → Fixed lows highs x ≡ true
none_by false p o lows highs x e h n later = absurd cc
none_by true p o lows highs x e h n later = here (eqb x p.0) refl
  where
    here : (b : Bool) → eqb x p.0 ≡ b → Fixed lows highs x ≡ true
    here true q =
        let same : p.0 ≡ x = grind (arith, nat_tests) in
        subst (λ (y : ℕ). Fixed lows highs y ≡ true) same e
    here false q = later h (grind (arith, nat_tests))

-- where no pair of an order is open, each unknown that it names is fixed
open_none : (o : Order) (lows highs : List ℤ) (x : ℕ) → first_open o lows highs ≡ None → 0 < named x o → Fixed lows highs x ≡ true
open_none [] lows highs x h n = absurd (omega arith)
open_none (p ∷ o) lows highs x h n = none_by _ p o lows highs x refl h n (open_none o lows highs x)

some_by : (b : Bool) (p : ℕ × Side) (o : Order) (lows highs : List ℤ) (x : ℕ) (s : Side) → Fixed lows highs p.0 ≡ b →
    open_or b p (first_open o lows highs) ≡ Some (x, s) →
    (first_open o lows highs ≡ Some (x, s) → (0 < named x o) × (Fixed lows highs x ≡ false)) →
    (0 < named x (p ∷ o)) × (Fixed lows highs x ≡ false)
some_by true p o lows highs x s e h later = let r = later h in let l = r.0 in (omega arith, r.1)
some_by false p o lows highs x s e h later =
    let pair : p ≡ (x, s) = cc in
    let same : p.0 ≡ x = ap (λ (q : ℕ × Side). q.0) pair in
    (grind (arith, nat_tests), subst (λ (y : ℕ). Fixed lows highs y ≡ false) same e)

-- the first open pair names an unknown of the order that is not fixed
pub open_some : (o : Order) (lows highs : List ℤ) (x : ℕ) (s : Side) → first_open o lows highs ≡ Some (x, s) →
    (0 < named x o) × (Fixed lows highs x ≡ false)
open_some [] lows highs x s h = absurd cc
open_some (p ∷ o) lows highs x s h = some_by _ p o lows highs x s refl h (open_some o lows highs x s)

chosen : (o : Order) (lows highs : List ℤ) → length lows ≡ length o → length highs ≡ length o →
    choice o lows highs ≡ first_open o lows highs
chosen o lows highs l h =
    let long : (eqb (length lows) (length o) && eqb (length highs) (length o)) ≡ true = grind (arith, nat_tests) in
    ap (λ (b : Bool). only_if b (first_open o lows highs)) long

pub choice_open : ChoiceOpen
choice_open o lows highs orderly l h = (
  λ x s e. let r = open_some o lows highs x s (sym (chosen o lows highs l h) ∙ e) in
      let n = r.0 in let once = orderly x in
      (grind (arith, nat_tests), λ same. both_ways _ r.1 ((same_number_decides _ _).1 same)),
  λ e x less. let once = orderly x in
      let n : 0 < named x o = grind (arith, nat_tests) in
      (same_number_decides _ _).0 (open_none o lows highs x (sym (chosen o lows highs l h) ∙ e) n),
)

-- The first open pair, with the fixed ones before it.
record Leading (o : Order) (lows highs : List ℤ) (p : ℕ × Side) : Type 0 where
  pub front : Order
  pub rest : Order
  pub is : o ≡ front ++ p ∷ rest
  pub passed : AllByRecursion (λ q. coef lows q.0 ≡ coef highs q.0) front

leads_by : (b : Bool) (q : ℕ × Side) (o : Order) (lows highs : List ℤ) (p : ℕ × Side) → Fixed lows highs q.0 ≡ b →
    open_or b q (first_open o lows highs) ≡ Some p → (first_open o lows highs ≡ Some p → Leading o lows highs p) →
    Leading (q ∷ o) lows highs p
leads_by false q o lows highs p e h later =
    record { front = []; rest = o; is = ap (λ (z : ℕ × Side). z ∷ o) (let same : q ≡ p = cc in same); passed = tt }
leads_by true q o lows highs p e h later =
    let l = later h in
    record {
      front = q ∷ l.front;
      rest = l.rest;
      is = ap (λ (z : Order). q ∷ z) l.is;
      passed = ((same_number_decides _ _).0 e, l.passed);
    }

leading : (o : Order) (lows highs : List ℤ) (p : ℕ × Side) → first_open o lows highs ≡ Some p → Leading o lows highs p
leading [] lows highs p h = absurd cc
leading (q ∷ o) lows highs p h = leads_by _ q o lows highs p refl h (leading o lows highs p)

chosen_leads : (b : Bool) (o : Order) (lows highs : List ℤ) (p : ℕ × Side) → only_if b (first_open o lows highs) ≡ Some p →
    Leading o lows highs p
chosen_leads true o lows highs p h = leading o lows highs p h
chosen_leads false o lows highs p h = absurd cc

pub choice_first : ChoiceFirst
choice_first o lows highs x s h =
    let l = chosen_leads _ o lows highs (x, s) h in (l.front, (l.rest, (l.is, l.passed)))

-- ---- after a run

-- an adviser that keeps to its meaning, for as many unknowns and by the same rule as another
pub record Like (a b : Advice) : Type 0 where
  pub advises : Advises b
  pub same : advised b ≡ advised a
  pub rule : b.rule ≡ a.rule

told_by_like : (b : Bool) (a : Advice) (x : ℕ) → ltb x (advised a) ≡ b → Advises a →
    Like a (record { mind = told_by b a.rule a.mind x; rule = a.rule })
told_by_like true a x e h =
    let k = h.keeps a.mind x h.orderly (grind (arith, nat_tests)) in
    record { advises = record { orderly = k.1; keeps = h.keeps }; same = k.0; rule = refl }
told_by_like false a x e h = record { advises = h; same = refl; rule = refl }

pub told_like : (a : Advice) (x : ℕ) → Advises a → Like a (told a x)
told_like a x h = told_by_like _ a x refl h

hears_like : (a b d : Advice) → Hears b d → Like a b → Like a d
hears_like a b d (inl e) l = subst (λ (z : Advice). Like a z) (sym e) l
hears_like a b d (inr (x, e)) l =
    let t = told_like b x l.advises in
    subst (λ (z : Advice). Like a z) (sym e)
    (record { advises = t.advises; same = t.same ∙ l.same; rule = t.rule ∙ l.rule })

start_by_advice : (b : Bool) (c : Context) (a : Advice) → (start_by b c a).advice ≡ a
start_by_advice true c a = refl
start_by_advice false c a = refl

pub whole_like : (c : Context) (budget : ℕ) (a : Advice) → Advises a → Like a (whole_run c budget a).at.advice
whole_like c budget a h =
    whole_keeps (λ m. Like a m.advice) c (λ m l. hears_like a m.advice (after (act c m)).advice (act_step c m).advice l) budget a
    (subst (λ (z : Advice). Like a z) (sym (start_by_advice _ c a)) (record { advises = h; same = refl; rule = refl }))

after_by : (r : Result (Unit {0}) Refusal) (rs : List Range) (rows : List Row) (a : Advice) (log : Logbook) (plan : List ℤ) (budget : ℕ) →
    Advises a → Like a (left_by r rs rows a log plan budget).advice
after_by (Err r) rs rows a log plan budget h = record { advises = h; same = refl; rule = refl }
after_by (Ok u) rs rows a log plan budget h = whole_like _ budget a h

pub advice_after : AdviceAfter
advice_after rs rows a log plan budget h =
    let l = after_by _ rs (rows_of rows) a log plan budget h in (l.advises, l.same, l.rule)
