-- The lines that a list of numbers holds: how many, which, and one more.
use Rattle.std.specs.Prelude.{◌≡◌, ℕ, zero, suc, ◌+◌, ◌*◌, ◌/◌, ◌^◌, ◌<◌, ◌≤◌, Bool, cond, List, [], ◌∷◌, ◌++◌, length, take, drop, ℤ, pos, negsuc, FitsSigned, Some, None, Option, MatchOption, slice_index_or, slice_range, refl}
use Rattle.std.proofs.Common.{⊎_elim, sym, ap, ◌∙◌, div-mul-le_self, mul-le-mul_right, suc-mul, add-one, arith, lt-ltb}
use Rattle.std.proofs.Math.Seq.{paste}
use Rattle.std.specs.Int.{w32}
use Rattle.std.proofs.lemmas.Int.{ints}
use Rattle.std.proofs.lemmas.List.{ext_get_or, get_or_append_left, get_or_at, get_or_past, get_or-take, get_or-drop, length_push, length-take-le}
use Rattle.std.proofs.lemmas.List.Edits.{length-between, get_or-between}
use Rattle.std.proofs.lemmas.Bool.{cases_eq, cases_lt}
use Rattle.calculus.specs.Logs.{Line, entries, line_at, no_line, row_of}
use Rattle.calculus.specs.Promises.{FieldsFit}
use Rattle.calculus.specs.Rows.{coef}
use Rattle.calculus.specs.Tables.{table}
use Rattle.calculus.specs.declared.kinds.Fields.{Fields}
use Rattle.calculus.proofs.Tabling.{table_long, table_at}
use Rattle.cutlog.specs.Cells.{Spells, line_size, fitting, unsigned_in, entry_in, ReadsBack, fields_in, row_in, line_in, lines_in, spelled}
use Rattle.cutlog.specs.Kept.{lines_long}
use Rattle.cutlog.proofs.Pastes.{paste_before, paste_within}

-- ---- lists by place

-- a list is the table of its own elements
pub table_of : {X : Type 0} (xs : List X) (f : ℕ → X) (n : ℕ) (d : X) → length xs ≡ n → ((k : ℕ) → k < n → slice_index_or xs k d ≡ f k) →
    xs ≡ table f n
table_of xs f n d e h =
    let long = table_long f n in
    ext_get_or d xs (table f n) (omega arith) (λ k l. let m : k < n = omega arith in h k m ∙ sym (table_at f n k d m))

pub table_same : {X : Type 0} (f g : ℕ → X) (n : ℕ) → ((k : ℕ) → k < n → f k ≡ g k) → table f n ≡ table g n
table_same f g zero h = refl
table_same f g (suc n) h = let t = table_same f g n (λ k l. h k (omega arith)) in let e = h n (omega arith) in cc

-- ---- the lines that are held

pub line_held : (n held : ℕ) (cs : List ℤ) (q : ℕ) → q < held → line_at (lines_in n held cs) q ≡ line_in n cs q
line_held n held cs q l = table_at (line_in n cs) held q no_line l

pub line_past : (n held : ℕ) (cs : List ℤ) (q : ℕ) → held ≤ q → line_at (lines_in n held cs) q ≡ no_line
line_past n held cs q l = let long = lines_long n held cs in get_or_past (lines_in n held cs) q no_line (omega arith)

-- ---- the entries of a row

pub entry_held : (n : ℕ) (cs : List ℤ) (at e : ℕ) → e ≤ n → coef (entries (row_in n cs at)) e ≡ entry_in (coef cs (at + e))
entry_held n cs at e l =
    let f : ℕ → ℤ = λ e. entry_in (coef cs (at + e)) in
    let long = table_long f n in
    ⊎_elim
    (λ (p : e ≡ n). get_or_at (table f n) (f n) [] (pos 0) e (omega arith) ∙ ap f (sym p))
    (λ (h : e ≡ n → ⊥). get_or_append_left (table f n) (f n ∷ []) (pos 0) e (omega arith) ∙ table_at f n e (pos 0) (omega arith))
    (cases_eq e n)

pub entry_past : (n : ℕ) (cs : List ℤ) (at e : ℕ) → n < e → coef (entries (row_in n cs at)) e ≡ pos 0
entry_past n cs at e l =
    let r = row_in n cs at in
    let long = table_long (λ e. entry_in (coef cs (at + e))) n in
    let more = length_push r.coefs r.constant in
    get_or_past (entries r) e (pos 0) (omega arith)

pub entry_none : (e : ℕ) → coef (entries no_line.row) e ≡ pos 0
entry_none zero = refl
entry_none (suc e) = refl

-- ---- where a line lies

pub line_inside : (n q c : ℕ) → q < c → q * line_size n + line_size n ≤ c * line_size n
line_inside n q c h = let m = mul-le-mul_right (line_size n) h in let s = suc-mul q (line_size n) in omega arith

pub line_fits : (n q numbers : ℕ) → q < fitting n numbers → q * line_size n + line_size n ≤ numbers
line_fits n q numbers h =
    let d = div-mul-le_self numbers (line_size n) in
    let i = line_inside n q (numbers / line_size n) (omega arith) in
    omega arith

-- ---- what the numbers of a held line spell

pub matched : {A P Q : Type 0} {R S : A → Type 0} (r : Option A) → MatchOption r P R → (P → Q) → ((x : A) → R x → S x) → MatchOption r Q S
matched None h none some = none h
matched (Some x) h none some = some x h

-- the numbers of line q, among all
abbrev pub numbers_of : ℕ → List ℤ → ℕ → List ℤ
numbers_of n cs q = slice_range cs (q * line_size n) (q * line_size n + line_size n)

pub numbers_long : (n q : ℕ) (cs : List ℤ) → q * line_size n + line_size n ≤ length cs → length (numbers_of n cs q) ≡ line_size n
numbers_long n q cs h = let l = length-between cs (q * line_size n) (q * line_size n + line_size n) h in omega arith

number_at : (n q : ℕ) (cs : List ℤ) (j x : ℕ) → j < line_size n → q * line_size n + j ≡ x → coef (numbers_of n cs q) j ≡ coef cs x
number_at n q cs j x l e =
    get_or-between cs (q * line_size n) (q * line_size n + line_size n) j (pos 0) (omega arith) ∙ ap (λ y. coef cs y) e

front_at : (n q : ℕ) (cs : List ℤ) (j x : ℕ) → j < 5 → q * line_size n + j ≡ x → coef (take 5 (numbers_of n cs q)) j ≡ coef cs x
front_at n q cs j x l e = get_or-take 5 (numbers_of n cs q) j (pos 0) l ∙ number_at n q cs j x (omega arith) e

front_spells : (n q : ℕ) (cs : List ℤ) → fields_in (take 5 (numbers_of n cs q)) 0 ≡ fields_in cs (q * line_size n)
front_spells n q cs =
    let b : ℕ = q * line_size n in
    let kind = front_at n q cs 0 b (omega arith) (omega arith) in
    let i = front_at n q cs 1 (b + 1) (omega arith) refl in
    let j = front_at n q cs 2 (b + 2) (omega arith) refl in
    let k = front_at n q cs 3 (b + 3) (omega arith) refl in
    let m = front_at n q cs 4 (b + 4) (omega arith) refl in
    λ x. record {
      kind = unsigned_in 8 (kind x);
      i = unsigned_in 16 (i x);
      j = unsigned_in 16 (j x);
      k = unsigned_in 32 (k x);
      m = unsigned_in 32 (m x);
    }

rest_spells : (n q : ℕ) (cs : List ℤ) (e : ℕ) → q * line_size n + line_size n ≤ length cs →
    entry_in (coef (drop 5 (numbers_of n cs q)) e) ≡ coef (entries (row_in n cs (q * line_size n + 5))) e
rest_spells n q cs e fits =
    ap entry_in (get_or-drop 5 (numbers_of n cs q) e (pos 0))
    ∙ ⊎_elim
    (λ (l : n < e). let long = numbers_long n q cs fits in
    ap entry_in (get_or_past (numbers_of n cs q) (5 + e) (pos 0) (omega arith)) ∙ sym (entry_past n cs (q * line_size n + 5) e l))
    (λ (l : e ≤ n). ap entry_in (number_at n q cs (5 + e) (q * line_size n + 5 + e) (omega arith) (omega arith))
    ∙ sym (entry_held n cs (q * line_size n + 5) e l))
    (cases_lt n e)

pub line_spells : (n held q : ℕ) (cs : List ℤ) (s front rest : List ℤ) → q < held → q * line_size n + line_size n ≤ length cs →
    s ≡ numbers_of n cs q → front ≡ take 5 s → rest ≡ drop 5 s → Spells (line_at (lines_in n held cs) q) front rest
line_spells n held q cs s front rest l fits e f r =
    let here = line_held n held cs q l in
    record {
      fields = ap (λ ws. fields_in ws 0) (f ∙ ap (take 5) e) ∙ front_spells n q cs ∙ sym (ap (λ (line : Line). line.fields) here);
      row = λ k. ap (λ ws. entry_in (coef ws k)) (r ∙ ap (drop 5) e) ∙ rest_spells n q cs k fits
          ∙ sym (ap (λ (line : Line). coef (entries line.row) k) here);
    }

-- ---- what is written is read again

unsigned_back : (bits x : ℕ) → x < 2 ^ bits → unsigned_in bits (pos x) ≡ x
unsigned_back bits x l = ap (λ (b : Bool). cond b x 0) (lt-ltb x (2 ^ bits) l)

pub entry_back : (x : ℤ) → FitsSigned w32 x → entry_in x ≡ x
entry_back (pos x) f = let l : x < 2 ^ 31 = omega (arith, ints) in ap (λ (b : Bool). cond b (pos x) (pos 0)) (lt-ltb x (2 ^ 31) l)
entry_back (negsuc x) f = let l : x < 2 ^ 31 = omega (arith, ints) in ap (λ (b : Bool). cond b (negsuc x) (pos 0)) (lt-ltb x (2 ^ 31) l)

-- a line that two lists hold alike
line_same : (n : ℕ) (cs ds : List ℤ) (q : ℕ) → ((x : ℕ) → x < q * line_size n + line_size n → coef cs x ≡ coef ds x) →
    line_in n cs q ≡ line_in n ds q
line_same n cs ds q h =
    let b : ℕ = q * line_size n in
    let kind = h b (omega arith) in
    let i = h (b + 1) (omega arith) in
    let j = h (b + 2) (omega arith) in
    let k = h (b + 3) (omega arith) in
    let m = h (b + 4) (omega arith) in
    let last = h (b + 5 + n) (omega arith) in
    let coefs = table_same (λ e. entry_in (coef cs (b + 5 + e))) (λ e. entry_in (coef ds (b + 5 + e))) n
    (λ e l. ap entry_in (h (b + 5 + e) (omega arith))) in
    cc

-- a line where its numbers stand
line_new : (n q : ℕ) (cs : List ℤ) (f : Fields) (row : List ℤ) → FieldsFit f → ReadsBack row →
    length row ≡ suc n → ((x j : ℕ) → x ≡ q * line_size n + j → j < line_size n → coef cs x ≡ coef (spelled f row) j) →
    line_in n cs q ≡ record { fields = f; row = row_of n row }
line_new n q cs f row w back len h =
    let b : ℕ = q * line_size n in
    let kind = ap (unsigned_in 8) (h b 0 (omega arith) (omega arith)) ∙ unsigned_back 8 f.kind w.0 in
    let i = ap (unsigned_in 16) (h (b + 1) 1 refl (omega arith)) ∙ unsigned_back 16 f.i w.1 in
    let j = ap (unsigned_in 16) (h (b + 2) 2 refl (omega arith)) ∙ unsigned_back 16 f.j w.2 in
    let k = ap (unsigned_in 32) (h (b + 3) 3 refl (omega arith)) ∙ unsigned_back 32 f.k w.3 in
    let m = ap (unsigned_in 32) (h (b + 4) 4 refl (omega arith)) ∙ unsigned_back 32 f.m w.4 in
    let at : (e : ℕ) → e < suc n → entry_in (coef cs (b + 5 + e)) ≡ coef row e =
    λ e l. ap entry_in (h (b + 5 + e) (suc (suc (suc (suc (suc e))))) (omega arith) (omega arith)) ∙ back e (omega arith) in
    let long = length-take-le n row (omega arith) in
    let coefs = table_of (take n row) (λ e. entry_in (coef cs (b + 5 + e))) n (pos 0) long
    (λ e l. get_or-take n row e (pos 0) l ∙ sym (at e (omega arith))) in
    let last = at n (omega arith) in
    let fields : fields_in cs b ≡ f = λ x. record { kind = kind x; i = i x; j = j x; k = k x; m = m x } in
    let entries : row_in n cs (b + 5) ≡ row_of n row = λ x. record { coefs = sym coefs x; constant = last x } in
    λ x. record { fields = fields x; row = entries x }

-- one line more, written behind the held ones
pub lines_more : (n c : ℕ) (cs ds : List ℤ) (f : Fields) (row : List ℤ) → FieldsFit f → ReadsBack row →
    length row ≡ suc n → c * line_size n + line_size n ≤ length cs → ds ≡ paste cs (c * line_size n) (spelled f row) (line_size n) →
    lines_in n (c + 1) ds ≡ lines_in n c cs ++ record { fields = f; row = row_of n row } ∷ []
lines_more n c cs ds f row w back len fits e =
    let at : ℕ = c * line_size n in
    let before = table_same (line_in n ds) (line_in n cs) c
    (λ q l. line_same n ds cs q (λ x k. let i = line_inside n q c l in
    ap (λ ws. coef ws x) e ∙ paste_before cs (spelled f row) at (line_size n) x (pos 0) (omega arith) (omega arith))) in
    let here = line_new n c ds f row w back len
    (λ x j p l. ap (λ ws. coef ws x) e ∙ paste_within cs (spelled f row) at (line_size n) x j (pos 0) p l (omega arith) (omega arith)) in
    let s = ap (table (line_in n ds)) (add-one c) in
    cc
