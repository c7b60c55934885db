-- Whole numbers: products, quotients rounded down, and rows negated.
use Rattle.std.proofs.Common.{◌≡◌, ℕ, ◌*◌, ◌≤◌, ℤ, pos, ◌+ℤ◌, ◌-ℤ◌, ◌*ℤ◌, ◌≤ℤ◌, ◌<ℤ◌, neg_ℤ, FitsSigned, to_z, of_z, List, map, refl, ap, subst, arith, suc, All}
use Rattle.std.specs.Prelude.{negsuc}
use Rattle.std.specs.Int.{w128, int_div_euclid}
use Rattle.std.proofs.Math.Nat.{mul-le-mul_left, div-le_self}
use borrow.Author.Differences.{up, down, sum_is_lem, product_is}
use Rattle.std.proofs.lemmas.List.{get_or-map, length-map}
use Rattle.ag_query.specs.declared.rows.LTerm.{LTerm}
use Rattle.ag_query.specs.declared.rows.LRow.{LRow}
use Rattle.ag_kernel.specs.Rules.{negated, opposite}
use Rattle.std.proofs.lemmas.Int.{ints, to_z-of_z}

-- a product by a number that isn't negative keeps the order
pub times_le : (m a b : ℤ) → pos 0 ≤ℤ m → a ≤ℤ b → (m *ℤ a) ≤ℤ (m *ℤ b)
times_le (pos k) a b p h = by a b h
  where
    by : (a b : ℤ) → a ≤ℤ b → (pos k *ℤ a) ≤ℤ (pos k *ℤ b)
    by (pos x) (pos y) h = let le : k * x ≤ k * y = mul-le-mul_left k (omega (arith, ints)) in omega (arith, ints)
    by (pos x) (negsuc y) h = absurd (omega (arith, ints))
    by (negsuc x) (pos y) h = omega (arith, ints)
    by (negsuc x) (negsuc y) h = let le : k * suc y ≤ k * suc x = mul-le-mul_left k (omega (arith, ints)) in omega (arith, ints)
times_le (negsuc k) a b p h = absurd (omega (arith, ints))

pub times_add : (m a b : ℤ) → m *ℤ (a +ℤ b) ≡ m *ℤ a +ℤ m *ℤ b
times_add m a b =
    let above = ap (λ (n : ℕ). up m * n) (sum_is_lem a b) in
    let below = ap (λ (n : ℕ). down m * n) (sum_is_lem a b) in
    omega (arith, ints)

pub times_assoc : (m a b : ℤ) → (m *ℤ a) *ℤ b ≡ m *ℤ (a *ℤ b)
times_assoc m a b =
    let p = product_is m a in
    let q = product_is a b in
    omega (arith, ints, ap (λ (n : ℕ). n * up b) p.0, ap (λ (n : ℕ). n * down b) p.0, ap (λ (n : ℕ). n * up b) p.1, ap (λ (n : ℕ). n * down b) p.1, ap (λ (n : ℕ). up m * n) q.0, ap (λ (n : ℕ). down m * n) q.0, ap (λ (n : ℕ). up m * n) q.1, ap (λ (n : ℕ). down m * n) q.1)

-- the quotient rounded down
pub floor_below : (b d : ℤ) → pos 1 ≤ℤ d → (d *ℤ int_div_euclid b d) ≤ℤ b
floor_below (pos a) (pos k) h = omega (arith, ints)
floor_below (negsuc a) (pos k) h = omega (arith, ints)
floor_below b (negsuc k) h = absurd (omega (arith, ints))

pub floor_above : (b d : ℤ) → pos 1 ≤ℤ d → b <ℤ (d *ℤ int_div_euclid b d +ℤ d)
floor_above (pos a) (pos k) h = omega (arith, ints)
floor_above (negsuc a) (pos k) h = omega (arith, ints)
floor_above b (negsuc k) h = absurd (omega (arith, ints))

pub floor_fits : (b d : ℤ) → pos 1 ≤ℤ d → FitsSigned w128 b → FitsSigned w128 (int_div_euclid b d)
floor_fits (pos a) (pos k) h f = omega (arith, ints, div-le_self a k)
floor_fits (negsuc a) (pos k) h f = omega (arith, ints, div-le_self a k)
floor_fits b (negsuc k) h f = absurd (omega (arith, ints))

pub back : (z : ℤ) → FitsSigned w128 z → to_z w128 (of_z w128 z) ≡ z
back z h = to_z-of_z w128 z h

-- what the code's division gives
pub floor_is : (q b d : ℤ) → pos 1 ≤ℤ d → FitsSigned w128 b → FitsSigned w128 d → q ≡ int_div_euclid (to_z w128 (of_z w128 b)) (to_z w128 (of_z w128 d)) → to_z w128 (of_z w128 q) ≡ int_div_euclid b d
floor_is q b d h f g e =
    let w : q ≡ int_div_euclid b d = rw (back b f, back d g) at e in
    rw w (back (int_div_euclid b d) (floor_fits b d h f))

-- ---- rows negated

pub fits_back : (ts : List LTerm) → All (λ t. FitsSigned w128 t.factor) (map negated ts) → All (λ t. FitsSigned w128 (neg_ℤ t.factor)) ts
fits_back ts h k d lt =
    let P : LTerm → Type 0 = λ t. FitsSigned w128 t.factor in
    subst P (get_or-map negated ts k d d lt) (h k d (omega (arith, lt, length-map ts negated)))

turned_bound : (b : ℤ) → FitsSigned w128 b → to_z w128 (of_z w128 (negsuc 0 -ℤ to_z w128 (of_z w128 b))) ≡ neg_ℤ b -ℤ pos 1
turned_bound b f = omega (arith, ints)

pub turned_fits : (b : ℤ) → FitsSigned w128 b → FitsSigned w128 (neg_ℤ b -ℤ pos 1)
turned_fits b f = omega (arith, ints)

pub turned_row : (row : LRow) (terms : List LTerm) → FitsSigned w128 row.bound → terms ≡ map negated row.terms → record { terms = terms; bound = to_z w128 (of_z w128 (negsuc 0 -ℤ to_z w128 (of_z w128 row.bound))) } ≡ opposite row
turned_row row terms f e = rw (e, turned_bound row.bound f) refl
