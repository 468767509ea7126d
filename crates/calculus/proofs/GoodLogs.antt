-- Lines that a run writes: each is made from those before it. Rests on Good and Reasons.
use Rattle.std.proofs.Common.{◌≡◌, ℕ, suc, ◌+◌, ◌<◌, ◌≤◌, min, Bool, true, false, ◌&&◌, leb, List, [], ◌∷◌, ◌++◌, length, take, Ok, Err, sym, refl, ap, ◌∙◌, subst, ⊎_elim, arith}
use Rattle.std.proofs.lemmas.List.{length-take, get_or-take, length-append, get_or_append_left, get_or_past, get_or_at, take_at, take-append-le, take-take}
use Rattle.std.proofs.lemmas.Bool.{cases_eq, cases_lt, lt-ltb}
use Rattle.calculus.specs.Checking.{all_divide}
use Rattle.calculus.specs.Logs.{Line, no_line, line_at, line_row, fields_of, Written, written, written_by}
use Rattle.calculus.specs.RunLaws.{Grown}
use Rattle.calculus.specs.Rows.{Row, cut}
use Rattle.calculus.specs.Tightening.{plus}
use Rattle.calculus.specs.declared.kinds.Kind.{Kind}
use Rattle.calculus.specs.declared.kinds.Kind.TheVariants.{Sum, Cut}
use Rattle.calculus.specs.declared.ranges.Range.{Range}
use Rattle.calculus.proofs.Covering.{Bare}
use Rattle.calculus.proofs.Good.{Made, Good}
use Rattle.calculus.proofs.Moves.{plus_is_sum}

-- Every line is made from those before it, and none has a coefficient past the unknowns.
pub record Sound (rs : List Range) (rows : List Row) (ls : List Line) : Type 0 where
  pub good : Good rs rows ls
  pub bare : (q : ℕ) → Bare (length rs) (line_row ls q)

-- ---- one line more

pub good_more : (rs : List Range) (rows : List Row) (ls : List Line) (l : Line) → Good rs rows ls → Made rs rows ls l →
    Good rs rows (ls ++ l ∷ [])
good_more rs rows ls l good made q less =
    let long = length-append ls (l ∷ []) in
    ⊎_elim
    (λ (e : q ≡ length ls). subst (λ (k : List Line). Made rs rows k (line_at (ls ++ l ∷ []) q)) (sym (take_at ls (l ∷ []) q (sym e)))
    (subst (λ (k : Line). Made rs rows ls k) (sym (get_or_at ls l [] no_line q (sym e))) made))
    (λ (d : q ≡ length ls →
    ⊥). subst (λ (k : List Line). Made rs rows k (line_at (ls ++ l ∷ []) q)) (sym (take-append-le q ls (l ∷ []) (omega arith)))
    (subst (λ (k : Line). Made rs rows (take q ls) k) (sym (get_or_append_left ls (l ∷ []) no_line q (omega arith)))
    (good q (omega arith))))
    (cases_eq q (length ls))

bare_more : (n : ℕ) (ls : List Line) (l : Line) → ((q : ℕ) → Bare n (line_row ls q)) → Bare n l.row → (q : ℕ) →
    Bare n (line_row (ls ++ l ∷ []) q)
bare_more n ls l h b q =
    ⊎_elim
    (λ (e : q ≡ length ls). subst (λ (k : Line). Bare n k.row) (sym (get_or_at ls l [] no_line q (sym e))) b)
    (λ (d : q ≡ length ls → ⊥). ⊎_elim
    (λ (k : q < length ls). subst (λ (k : Line). Bare n k.row) (sym (get_or_append_left ls (l ∷ []) no_line q k)) (h q))
    (λ (k : length ls ≤ q). let long = length-append ls (l ∷ []) in
    subst (λ (k : Line). Bare n k.row) (sym (get_or_past (ls ++ l ∷ []) q no_line (omega arith))) (λ y less. refl))
    (cases_lt q (length ls)))
    (cases_eq q (length ls))

pub sound_more : (rs : List Range) (rows : List Row) (ls : List Line) (l : Line) → Sound rs rows ls → Made rs rows ls l →
    Bare (length rs) l.row →
    Sound rs rows (ls ++ l ∷ [])
sound_more rs rows ls l s made b =
    record { good = good_more rs rows ls l s.good made; bare = bare_more (length rs) ls l s.bare b }

-- ---- a first part of the lines

pub sound_take : (rs : List Range) (rows : List Row) (ls : List Line) (k : ℕ) → Sound rs rows ls → Sound rs rows (take k ls)
sound_take rs rows ls k s = record { good = good; bare = bare }
  where
    long : length (take k ls) ≡ min k (length ls)
    long = length-take k ls

    good : Good rs rows (take k ls)
    good q l =
        let e = long in
        subst (λ (t : List Line). Made rs rows t (line_at (take k ls) q)) (sym (take-take q k ls (omega arith)))
        (subst (λ (t : Line). Made rs rows (take q ls) t) (sym (get_or-take k ls q no_line (omega arith))) (s.good q (omega arith)))

    bare : (q : ℕ) → Bare (length rs) (line_row (take k ls) q)
    bare q =
        let e = long in
        ⊎_elim
        (λ (l : q < k). subst (λ (t : Line). Bare (length rs) t.row) (sym (get_or-take k ls q no_line l)) (s.bare q))
        (λ (l : k ≤ q). subst (λ (t : Line). Bare (length rs) t.row) (sym (get_or_past (take k ls) q no_line (omega arith)))
        (λ y less. refl))
        (cases_lt q k)

-- ---- what writing comes to

-- a line that is held is the last one; where it is refused the lines stay
abbrev pub Wrote : Kind → Row → List Line → Written → Type 0
Wrote k r ls (Ok q, ms) = (q ≡ length ls) × (ms ≡ ls ++ record { fields = fields_of k; row = r } ∷ [])
Wrote k r ls (Err f, ms) = ms ≡ ls

wrote_by : (full : Bool) (k : Kind) (r : Row) (ls : List Line) →
    Wrote k r ls (written_by full (record { fields = fields_of k; row = r }) ls)
wrote_by true k r ls = refl
wrote_by false k r ls = (refl, refl)

pub wrote : (capacity : ℕ) (k : Kind) (r : Row) (ls : List Line) → Wrote k r ls (written capacity k r ls)
wrote capacity k r ls = wrote_by (leb capacity (length ls)) k r ls

-- A line that a log takes: the lines stay sound and grow, and it is held as the last of them.
pub record Entered (rs : List Range) (rows : List Row) (r : Row) (ls : List Line) (q : ℕ) (ms : List Line) : Type 0 where
  pub sound : Sound rs rows ms
  pub grown : Grown ls ms
  pub held : q < length ms
  pub is : line_row ms q ≡ r
  pub last : suc q ≡ length ms

pub entered : (rs : List Range) (rows : List Row) (k : Kind) (r : Row) (ls : List Line) (q : ℕ) (ms : List Line) → Sound rs rows ls →
    Made rs rows ls (record { fields = fields_of k; row = r }) → Bare (length rs) r → Wrote k r ls (Ok q, ms) → Entered rs rows r ls q ms
entered rs rows k r ls q ms s made bare w =
    let l : Line = record { fields = fields_of k; row = r } in
    let at : q ≡ length ls = w.0 in
    let long : length ms ≡ length ls + 1 = ap length w.1 ∙ length-append ls (l ∷ []) in
    record {
      sound = subst (Sound rs rows) (sym w.1) (sound_more rs rows ls l s made bare);
      grown = record { rest = l ∷ []; is = w.1 };
      held = omega arith;
      is = (λ i. line_row (w.1 i) (w.0 i)) ∙ ap (λ (z : Line). z.row) (get_or_at ls l [] no_line (length ls) refl);
      last = omega arith;
    }

-- ---- sums and cuts are made

pub sum_made : (rs : List Range) (rows : List Row) (ls : List Line) (row : Row) (line q m : ℕ) → line < length ls →
    line_row ls line ≡ row → q < length ls →
    Made rs rows ls (record { fields = fields_of (Sum line q 1 m); row = plus row m (line_row ls q) })
sum_made rs rows ls row line q m l e k = record {
  kind = Sum line q 1 m;
  fields = refl;
  there = refl;
  earlier = λ i. lt-ltb line (length ls) l i && (lt-ltb q (length ls) k i && true);
  is = ap (λ (r : Row). plus r m (line_row ls q)) (sym e) ∙ plus_is_sum (line_row ls line) m (line_row ls q);
  cuts = tt;
}

pub cut_made : (rs : List Range) (rows : List Row) (ls : List Line) (row : Row) (line k : ℕ) → line < length ls →
    line_row ls line ≡ row → 0 < k →
    all_divide k row.coefs ≡ true → Made rs rows ls (record { fields = fields_of (Cut line k); row = cut k row })
cut_made rs rows ls row line k l e p d = record {
  kind = Cut line k;
  fields = refl;
  there = refl;
  earlier = ap (λ (b : Bool). b && true) (lt-ltb line (length ls) l);
  is = ap (cut k) (sym e);
  cuts = (p, ap (λ (r : Row). all_divide k r.coefs) e ∙ d);
}
