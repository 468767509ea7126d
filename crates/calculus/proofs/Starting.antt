-- The start of a run meets its invariant: the base lines are sound, and the range entries are held by them.
-- Then so does every machine of a run. Rests on GoodLogs, Reasons and Keeping.
use Rattle.std.proofs.Common.{◌≡◌, ℕ, zero, suc, ◌+◌, ◌<◌, ◌≤◌, Bool, true, false, List, [], ◌∷◌, ◌++◌, length, replicate, ℤ, pos, negsuc, neg_ℤ, sym, refl, ap, ◌∙◌, subst, arith}
use Rattle.std.proofs.lemmas.List.{append-nil, append_assoc, length-append, length-set, length-replicate, get_or_past, get_or_at, get_or-append-add}
use Rattle.std.proofs.lemmas.Bool.{or_left, lt-ltb}
use Rattle.std.proofs.lemmas.Int.{ints}
use Rattle.calculus.specs.Advice.{Advice}
use Rattle.calculus.specs.Bounds.{Trail, low, high, least, without, range_at, row_at}
use Rattle.calculus.specs.Logs.{Line, no_line, line_at, line_row}
use Rattle.calculus.specs.Machines.{Context}
use Rattle.calculus.specs.RunLaws.{Grown}
use Rattle.calculus.specs.Rows.{Row, coef}
use Rattle.calculus.specs.Runs.{lone, low_row, high_row, line_of, range_lines, row_lines, base_lines, range_entries}
use Rattle.calculus.specs.Runs.{start_by, run, start, enough_steps, whole_run}
use Rattle.calculus.specs.Tables.{table}
use Rattle.calculus.specs.declared.kinds.Kind.TheVariants.{Low as LowLine, High as HighLine, Row as Placed}
use Rattle.calculus.specs.declared.ranges.Range.{Range}
use Rattle.calculus.specs.declared.sides.Side.{Side}
use Rattle.calculus.specs.declared.sides.Side.TheVariants.{Low, High}
use Rattle.calculus.proofs.BetterBounds.{coef_without}
use Rattle.calculus.proofs.Covering.{has, CoveredBut, Bare, has_more, matches_zero}
use Rattle.calculus.proofs.Firm.{InOrder, on_own, low_entry, high_entry, start_firm}
use Rattle.calculus.proofs.Tabling.{table_long, table_at}
use Rattle.calculus.proofs.Good.{Made}
use Rattle.calculus.proofs.GoodLogs.{Sound, sound_more, sound_take}
use Rattle.calculus.proofs.Keeping.{WellAt, act_well}
use Rattle.calculus.proofs.Leasts.{coef_else, lone_here, lone_else}
use Rattle.calculus.proofs.Reasons.{Reason, Held, held_grown}
use Rattle.calculus.proofs.Resolving.{unit, toward, Tight}
use Rattle.calculus.proofs.Running.{run_keeps}
use Rattle.calculus.proofs.Stepping.{grown_same}
use Rattle.calculus.proofs.Tightens.{plain_least}
use Rattle.calculus.proofs.Ints.{at_each}

-- ---- rows with one coefficient

lone_bare : (n x : ℕ) (a k : ℤ) → Bare n (lone n x a k)
lone_bare n x a k y l =
    let e = length-replicate n (pos 0) in
    let f = length-set (replicate n (pos 0)) x a in
    get_or_past (lone n x a k).coefs y (pos 0) (omega arith)

-- without it nothing is left but the constant
lone_rest : (n x : ℕ) (a k : ℤ) (lo hi : ℕ → ℤ) → least n lo hi (without x (lone n x a k)) ≡ k
lone_rest n x a k lo hi =
    plain_least n lo hi (without x (lone n x a k))
    (at_each (λ (y : ℕ). coef (without x (lone n x a k)).coefs y ≡ pos 0) x (coef_without (lone n x a k).coefs x)
    (λ i d. coef_else (lone n x a k).coefs x i d ∙ lone_else n x i a k d))

-- such a row, held as line q, is a reason over any trail
lone_reason : (rs : List Range) (ls : List Line) (t : Trail) (q x : ℕ) (s : Side) (v k : ℤ) → q < length ls → x < length rs →
    line_row ls q ≡ lone (length rs) x (unit s) k → toward s v ≡ k → Reason rs ls t q x s v
lone_reason rs ls t q x s v k held known is e =
    let rest = lone_rest (length rs) x (unit s) k (low rs t) (high rs t) in
    record {
      held = held;
      tight = subst (λ (r : Row). Tight (length rs) (low rs t) (high rs t) r x s v) (sym is)
          (record { here = lone_here (length rs) x (unit s) k known; rest = omega (arith, ints) });
      covered = subst (CoveredBut x t) (sym is)
          (λ z y d m. absurd (matches_zero z _ (lone_else (length rs) x y (unit s) k d) m));
    }

-- ---- the base lines

low_made : (rs : List Range) (rows : List Row) (ls : List Line) (x : ℕ) → x < length rs →
    Made rs rows ls (line_of (LowLine x) (low_row rs x))
low_made rs rows ls x l =
    record { kind = LowLine x; fields = refl; there = lt-ltb x (length rs) l; earlier = refl; is = refl; cuts = tt }

high_made : (rs : List Range) (rows : List Row) (ls : List Line) (x : ℕ) → x < length rs →
    Made rs rows ls (line_of (HighLine x) (high_row rs x))
high_made rs rows ls x l =
    record { kind = HighLine x; fields = refl; there = lt-ltb x (length rs) l; earlier = refl; is = refl; cuts = tt }

row_made : (rs : List Range) (rows : List Row) (ls : List Line) (p : ℕ) → p < length rows →
    Made rs rows ls (line_of (Placed p) (row_at rows p))
row_made rs rows ls p l =
    record { kind = Placed p; fields = refl; there = lt-ltb p (length rows) l; earlier = refl; is = refl; cuts = tt }

none_sound : (rs : List Range) (rows : List Row) → Sound rs rows []
none_sound rs rows = record { good = λ q l. absurd (omega arith); bare = λ q y l. refl }

range_sound : (rs : List Range) (rows : List Row) (k : ℕ) → k ≤ length rs → Sound rs rows (range_lines rs k)
range_sound rs rows zero l = none_sound rs rows
range_sound rs rows (suc k) l =
    let ls = range_lines rs k in
    let a = line_of (LowLine k) (low_row rs k) in
    let b = line_of (HighLine k) (high_row rs k) in
    subst (Sound rs rows) (append_assoc ls (a ∷ []) (b ∷ []))
    (sound_more rs rows (ls ++ a ∷ []) b
    (sound_more rs rows ls a (range_sound rs rows k (omega arith)) (low_made rs rows ls k l)
    (lone_bare (length rs) k (negsuc 0) (range_at rs k).low))
    (high_made rs rows (ls ++ a ∷ []) k l) (lone_bare (length rs) k (pos 1) (neg_ℤ (range_at rs k).high)))

rows_sound : (rs : List Range) (rows : List Row) (k : ℕ) → k ≤ length rows → ((p : ℕ) → Bare (length rs) (row_at rows p)) →
    Sound rs rows (range_lines rs (length rs) ++ row_lines rows k)
rows_sound rs rows zero l thin = subst (Sound rs rows) (sym (append-nil (range_lines rs (length rs))))
    (range_sound rs rows (length rs) (omega arith))
rows_sound rs rows (suc k) l thin =
    let ls = range_lines rs (length rs) in
    subst (Sound rs rows) (append_assoc ls (row_lines rows k) (line_of (Placed k) (row_at rows k) ∷ []))
    (sound_more rs rows (ls ++ row_lines rows k) (line_of (Placed k) (row_at rows k)) (rows_sound rs rows k (omega arith) thin)
    (row_made rs rows (ls ++ row_lines rows k) k l) (thin k))

range_long : (rs : List Range) (k : ℕ) → length (range_lines rs k) ≡ k + k
range_long rs zero = refl
range_long rs (suc k) =
    let e = range_long rs k in
    let f = length-append (range_lines rs k) (line_of (LowLine k) (low_row rs k) ∷ line_of (HighLine k) (high_row rs k) ∷ []) in
    omega arith

-- the line of a standing row
pub base_row : (rs : List Range) (rows : List Row) (p : ℕ) → p < length rows →
    (length rs + length rs + p < length (base_lines rs rows)) × (line_row (base_lines rs rows) (length rs + length rs + p) ≡ row_at rows p)
base_row rs rows p l =
    let ls = range_lines rs (length rs) in
    let f : ℕ → Line = λ q. line_of (Placed q) (row_at rows q) in
    let e : length ls ≡ length rs + length rs = range_long rs (length rs) in
    let long = length-append ls (table f (length rows)) in
    let rest = table_long f (length rows) in
    let at : line_at (base_lines rs rows) (length rs + length rs + p) ≡ f p =
    ap (λ (q : ℕ). line_at (base_lines rs rows) q) (let z : length rs + length rs + p ≡ length ls + p = omega arith in z)
    ∙ get_or-append-add ls (table f (length rows)) p no_line ∙ table_at f (length rows) p no_line l in
    (omega arith, ap (λ (k : Line). k.row) at)

-- ---- the range entries

-- the two lines of an unknown, where its range is added
low_line : (rs : List Range) (k : ℕ) → line_row (range_lines rs (suc k)) (k + k) ≡ low_row rs k
low_line rs k =
    ap (λ (l : Line). l.row)
    (get_or_at (range_lines rs k) (line_of (LowLine k) (low_row rs k)) (line_of (HighLine k) (high_row rs k) ∷ []) no_line (k + k)
    (range_long rs k))

high_line : (rs : List Range) (k : ℕ) → line_row (range_lines rs (suc k)) (suc (k + k)) ≡ high_row rs k
high_line rs k =
    let ls = range_lines rs k in
    let a = line_of (LowLine k) (low_row rs k) in
    let b = line_of (HighLine k) (high_row rs k) in
    let e = range_long rs k in
    let f = length-append ls (a ∷ []) in
    ap (λ (ms : List Line). line_row ms (suc (k + k))) (sym (append_assoc ls (a ∷ []) (b ∷ [])))
    ∙ ap (λ (l : Line). l.row) (get_or_at (ls ++ a ∷ []) b [] no_line (suc (k + k)) (omega arith))

range_held : (rs : List Range) (k : ℕ) → k ≤ length rs → Held rs (range_lines rs k) (range_entries rs k)
range_held rs zero l = tt
range_held rs (suc k) l =
    let grown : Grown (range_lines rs k) (range_lines rs (suc k)) = record { rest = _; is = refl } in
    let long = range_long rs (suc k) in (
      lone_reason rs (range_lines rs (suc k)) (low_entry rs k ∷ range_entries rs k) (suc (k + k)) k High (range_at rs k).high
          (neg_ℤ (range_at rs k).high) (omega arith) l (high_line rs k) refl,
      (
        lone_reason rs (range_lines rs (suc k)) (range_entries rs k) (k + k) k Low (range_at rs k).low (range_at rs k).low (omega arith) l
            (low_line rs k) refl,
        held_grown grown rs (range_entries rs k) (range_held rs k (omega arith)),
      ),
    )

-- every unknown has both
range_has : (rs : List Range) (k : ℕ) (s : Side) (y : ℕ) → y < k → has s y (range_entries rs k) ≡ true
range_has rs zero s y l = absurd (omega arith)
range_has rs (suc k) s y l =
    at_each (λ (z : ℕ). z < suc k → has s z (range_entries rs (suc k)) ≡ true) k (λ b. newest_has s)
    (λ i d b. has_more s i (high_entry rs k) (low_entry rs k ∷ range_entries rs k)
    (has_more s i (low_entry rs k) (range_entries rs k) (range_has rs k s i (omega arith))))
    y l
  where
    newest_has : (s : Side) → has s k (range_entries rs (suc k)) ≡ true
    newest_has Low = or_left _ _ (on_own (low_entry rs k))
    newest_has High = or_left _ _ (on_own (high_entry rs k))

-- ---- the run

-- What the theorems with the log ask of a context.
pub record FitContext (c : Context) : Type 0 where
  pub order : InOrder c.ranges
  pub thin : (p : ℕ) → Bare (length c.ranges) (row_at c.rows p)

start_by_well : (b : Bool) (c : Context) (a : Advice) → FitContext c → WellAt c (start_by b c a)
start_by_well false c a f =
    sound_take c.ranges c.rows (base_lines c.ranges c.rows) c.capacity
    (rows_sound c.ranges c.rows (length c.rows) (omega arith) f.thin)
start_by_well true c a f =
    let rs = c.ranges in
    let base = base_lines rs c.rows in
    let grown : Grown (range_lines rs (length rs)) base = record { rest = row_lines c.rows (length c.rows); is = refl } in (
      record {
        firm = start_firm rs f.order (length rs) (omega arith);
        held = held_grown grown rs (range_entries rs (length rs)) (range_held rs (length rs) (omega arith));
        sound = rows_sound rs c.rows (length c.rows) (omega arith) f.thin;
        base = grown_same base;
      },
      λ s y l. range_has rs (length rs) s y l,
    )

-- every machine of a run meets the invariant
pub run_well : (c : Context) (budget steps : ℕ) (a : Advice) → FitContext c →
    WellAt c (run c budget steps (record { at = start c a; made = 0 })).at
run_well c budget steps a f =
    run_keeps (WellAt c) c (act_well c f.order f.thin (base_row c.ranges c.rows)) budget steps
    (record { at = start c a; made = 0 }) (start_by_well _ c a f)

pub whole_well : (c : Context) (budget : ℕ) (a : Advice) → FitContext c → WellAt c (whole_run c budget a).at
whole_well c budget a f = run_well c budget (enough_steps budget) a f
