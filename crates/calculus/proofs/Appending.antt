-- A row of the right length is appended to a log just as a run writes it, and the base lines are written one after another.
-- It rests on the definitions and the library alone.
use Rattle.std.proofs.Common.{◌≡◌, ℕ, suc, ◌-◌, ◌<◌, ◌≤◌, Bool, true, false, not, eqb, leb, List, [], ◌∷◌, ◌++◌, length, take, pos, sym, refl, ap, ◌∙◌, arith}
use Rattle.std.proofs.lemmas.List.{append-nil, append_assoc, length-append, take_all, take_at, get_or_at}
use Rattle.std.proofs.lemmas.Bool.Decides.{nat_tests}
use Rattle.calculus.specs.Account.{when, answered, left}
use Rattle.calculus.specs.Advice.{Advice}
use Rattle.calculus.specs.Logs.{Line, Logbook, Written, fields_of, entries, row_of, with_lines, written_by}
use Rattle.calculus.specs.Machines.{Context}
use Rattle.calculus.specs.RunLaws.{written_all, StartWrites, AppendWrites}
use Rattle.calculus.specs.Rows.{Row}
use Rattle.calculus.specs.Runs.{base_lines, start_by}
use Rattle.calculus.specs.declared.refusals.Refusal.TheVariants.{Shape, Log}

-- a row is spelled by its entries
pub row_of_entries : (n : ℕ) (r : Row) → length r.coefs ≡ n → row_of n (entries r) ≡ r
row_of_entries n r h = λ i. record {
  coefs = take_at r.coefs (r.constant ∷ []) n h i;
  constant = get_or_at r.coefs r.constant [] (pos 0) n h i;
}

-- the lines after appending, by its two tests
abbrev lines_by : Bool → Bool → Logbook → Line → List Line
lines_by shape full l line =
    (left (answered (when shape Shape ∷ when full Log ∷ []) (length l.lines)) (with_lines l (l.lines ++ line ∷ [])) l).lines

both_by : (full : Bool) (l : Logbook) (line : Line) →
    ◌≡◌ {A = Written} (answered (when false Shape ∷ when full Log ∷ []) (length l.lines), lines_by false full l line)
    (written_by full line l.lines)
both_by true l line = refl
both_by false l line = refl

pub append_writes : AppendWrites
append_writes l k r h =
    let long = length-append r.coefs (r.constant ∷ []) in
    let fits : not (eqb (length (entries r)) (suc l.unknowns)) ≡ false = grind (arith, nat_tests) in
    let same = row_of_entries l.unknowns r h in
    let full = leb l.capacity (length l.lines) in
    (λ i. (
      answered (when (fits i) Shape ∷ when full Log ∷ []) (length l.lines),
      lines_by (fits i) full l (record { fields = fields_of k; row = same i }),
    ))
    ∙ both_by full l (record { fields = fields_of k; row = r })

-- ---- lines one after another

-- a full log takes no more
full_all : (capacity : ℕ) (ls held : List Line) → leb capacity (length held) ≡ true → written_all capacity ls held ≡ held
full_all capacity [] held h = refl
full_all capacity (l ∷ ls) held h =
    ap (λ (b : Bool). written_all capacity ls (written_by b l held).1) h ∙ full_all capacity ls held h

-- as many are written as there is room for
all_by : (full : Bool) (capacity : ℕ) (l : Line) (ls held : List Line) → leb capacity (length held) ≡ full → length held ≤ capacity →
    ((more : List Line) → length more ≤ capacity → written_all capacity ls more ≡ more ++ take (capacity - length more) ls) →
    written_all capacity ls (written_by full l held).1 ≡ held ++ take (capacity - length held) (l ∷ ls)
all_by true capacity l ls held h k later =
    let none : capacity - length held ≡ 0 = grind (arith, nat_tests) in
    full_all capacity ls held h ∙ sym (append-nil held) ∙ ap (λ (n : ℕ). held ++ take n (l ∷ ls)) (sym none)
all_by false capacity l ls held h k later =
    let long = length-append held (l ∷ []) in
    let less : length held < capacity = grind (arith, nat_tests) in
    let one : capacity - length held ≡ suc (capacity - length (held ++ l ∷ [])) = omega arith in
    later (held ++ l ∷ []) (omega arith)
    ∙ append_assoc held (l ∷ []) (take (capacity - length (held ++ l ∷ [])) ls)
    ∙ ap (λ (n : ℕ). held ++ take n (l ∷ ls)) (sym one)

all_room : (capacity : ℕ) (ls held : List Line) → length held ≤ capacity →
    written_all capacity ls held ≡ held ++ take (capacity - length held) ls
all_room capacity [] held k =
    sym (append-nil held) ∙ ap (λ (t : List Line). held ++ t) (sym (take_all (capacity - length held) [] (omega arith)))
all_room capacity (l ∷ ls) held k = all_by _ capacity l ls held refl k (all_room capacity ls)

start_by_writes : (b : Bool) (c : Context) (a : Advice) → leb (length (base_lines c.ranges c.rows)) c.capacity ≡ b →
    (start_by b c a).lines ≡ take c.capacity (base_lines c.ranges c.rows)
start_by_writes true c a h = sym (take_all c.capacity (base_lines c.ranges c.rows) (grind (arith, nat_tests)))
start_by_writes false c a h = refl

pub start_writes : StartWrites
start_writes c a =
    start_by_writes _ c a refl
    ∙ ap (λ (n : ℕ). take n (base_lines c.ranges c.rows)) (let e : c.capacity ≡ c.capacity - 0 = omega arith in e)
    ∙ sym (all_room c.capacity (base_lines c.ranges c.rows) [] (omega arith))
