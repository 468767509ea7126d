-- Reduced forms: they divide, the same assignments meet them, and doubles are told by them.
-- It rests on `Divisors` and `Ints`.
use Rattle.std.proofs.Common.{◌≡◌, ℕ, zero, suc, ◌<◌, List, [], ◌∷◌, map, length, ℤ, pos, ◌+ℤ◌, ◌*ℤ◌, nat_abs, ◌≤ℤ◌, Decides, sym, refl, ap, ◌∙◌, subst, arith}
use Prim.Native.Nat.{◌∣◌}
use Rattle.std.specs.List.{AllByRecursion}
use Rattle.std.proofs.lemmas.Bool.Decides.{Decides-and}
use Rattle.std.proofs.Math.IntN.{*ℤ-zero}
use Rattle.std.proofs.lemmas.Int.{ints}
use Rattle.calculus.specs.Arithmetic.{sum, floor, ceiling, same_number}
use Rattle.calculus.specs.Rows.{Row, Standing, coef, value, Meets, row_divisor, reduced, same_numbers, same_row, double}
use Rattle.calculus.proofs.Divisors.{row_divides, row_divisor_plain}
use Rattle.calculus.proofs.Ints.{assoc, floor_times, floor_one, ceiling_one, rounded_down, rounded_back, sum_times, quotient}

pub floor_exact : (g : ℕ) (c : ℤ) → 0 < g → g ∣ nat_abs c → pos g *ℤ floor c g ≡ c
floor_exact g c p d =
    let q = quotient g c d in
    ap (λ (z : ℤ). pos g *ℤ floor z g) q.1 ∙ ap (λ (z : ℤ). pos g *ℤ z) (floor_times q.0 g p) ∙ sym q.1

divided : (g : ℕ) (cs : List ℤ) (i : ℕ) → 0 < g → AllByRecursion (λ c. g ∣ nat_abs c) cs →
    pos g *ℤ coef (map (λ c. floor c g) cs) i ≡ coef cs i
divided g [] i p h = *ℤ-zero (pos g)
divided g (c ∷ cs) zero p h = floor_exact g c p h.0
divided g (c ∷ cs) (suc i) p h = divided g cs i p h.1

pub reduced_divides : (r : Row) (i : ℕ) → pos (row_divisor r.coefs) *ℤ coef (reduced r).coefs i ≡ coef r.coefs i
reduced_divides r i = divided (row_divisor r.coefs) r.coefs i (omega arith) (row_divides r.coefs)

pub reduced_value : (xs : List ℤ) (r : Row) →
    value xs r ≡ pos (row_divisor r.coefs) *ℤ sum (length xs) (λ i. coef (reduced r).coefs i *ℤ coef xs i) +ℤ r.constant
reduced_value xs r =
    ap (λ (z : ℤ). z +ℤ r.constant)
    (sum_times (length xs) (pos (row_divisor r.coefs)) (λ i. coef r.coefs i *ℤ coef xs i)
    (λ i. coef (reduced r).coefs i *ℤ coef xs i)
    (λ i. ap (λ (z : ℤ). z *ℤ coef xs i) (sym (reduced_divides r i)) ∙ assoc (pos (row_divisor r.coefs)) (coef (reduced r).coefs i)
    (coef xs i)))

pub reduced_same : (xs : List ℤ) (r : Row) → (Meets xs r → Meets xs (reduced r)) × (Meets xs (reduced r) → Meets xs r)
reduced_same xs r =
    let e = reduced_value xs r in (
      λ h. rounded_down (row_divisor r.coefs) _ r.constant (omega arith) (subst (λ (z : ℤ). z ≤ℤ pos 0) e h),
      λ h. subst (λ (z : ℤ). z ≤ℤ pos 0) (sym e) (rounded_back (row_divisor r.coefs) _ r.constant (omega arith) h),
    )

floors_one : (cs : List ℤ) → map (λ c. floor c 1) cs ≡ cs
floors_one [] = refl
floors_one (c ∷ cs) = ap (λ (z : ℤ). z ∷ map (λ c. floor c 1) cs) (floor_one c) ∙ ap (λ (zs : List ℤ). c ∷ zs) (floors_one cs)

pub reduced_plain : (r : Row) → AllByRecursion (λ c. c ≡ pos 0) r.coefs → reduced r ≡ r
reduced_plain r h =
    ap (λ (g : ℕ). record { coefs = map (λ c. floor c g) r.coefs; constant = ceiling r.constant g }) (row_divisor_plain r.coefs h)
    ∙ ap (λ (cs : List ℤ). record { coefs = cs; constant = ceiling r.constant 1 }) (floors_one r.coefs)
    ∙ ap (λ (k : ℤ). record { coefs = r.coefs; constant = k }) (ceiling_one r.constant)

pub same_number_decides : (y z : ℤ) → Decides (same_number y z) (y ≡ z)
same_number_decides y z = (λ h. grind (arith, ints), λ h. grind (arith, ints))

pub same_numbers_decides : (cs ds : List ℤ) → Decides (same_numbers cs ds) (cs ≡ ds)
same_numbers_decides [] [] = (λ h. refl, λ h. refl)
same_numbers_decides [] (d ∷ ds) = (λ h. cc, λ h. cc)
same_numbers_decides (c ∷ cs) [] = (λ h. cc, λ h. cc)
same_numbers_decides (c ∷ cs) (d ∷ ds) =
    let both = Decides-and _ _ (same_number_decides c d) (same_numbers_decides cs ds) in (
      λ h. let p = (both.0 h).0 in let q = (both.0 h).1 in cc,
      λ h. let p : c ≡ d = cc in let q : cs ≡ ds = cc in both.1 (p, q),
    )

pub same_row_decides : (p q : Row) → Decides (same_row p q) (p ≡ q)
same_row_decides p q =
    let both = Decides-and _ _ (same_numbers_decides p.coefs q.coefs) (same_number_decides p.constant q.constant) in (
      λ h. let e = (both.0 h).0 in let k = (both.0 h).1 in
          ap (λ (cs : List ℤ). record { coefs = cs; constant = p.constant }) e ∙ ap
          (λ (z : ℤ). record { coefs = q.coefs; constant = z }) k,
      λ h. both.1 (ap (λ (r : Row). r.coefs) h, ap (λ (r : Row). r.constant) h),
    )

pub double_decides : (s t : Standing) → Decides (double s t) (reduced s.row ≡ reduced t.row)
double_decides s t = same_row_decides (reduced s.row) (reduced t.row)
