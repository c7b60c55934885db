-- How large the sum of a row's terms can be.
use Rattle.std.proofs.Common.{◌≡◌, ℕ, ◌+◌, ◌*◌, ◌^◌, ◌<◌, ◌≤◌, List, [], ◌∷◌, ◌++◌, length, take, get_or, ap, ◌∙◌, arith, to_z, of_z}
use Rattle.std.specs.Prelude.{ℤ, ◌+ℤ◌, ◌*ℤ◌, unsigned_abs, FitsSigned}
use Rattle.std.specs.Int.{w64, w128}
use Rattle.std.proofs.Math.Nat.{mul-le-mul}
use Rattle.std.proofs.lemmas.Int.{ints, to_z-of_z, unsigned_abs-mul}
use Rattle.std.proofs.lemmas.List.{take_more}
use Rattle.ag_query.specs.declared.rows.LTerm.{LTerm}
use Rattle.ag_query.specs.Rows.{sum_of}

pub sum_of-push : (x : ℕ → ℤ) (ts : List LTerm) (t : LTerm) → sum_of x (ts ++ t ∷ []) ≡ sum_of x ts +ℤ t.factor *ℤ x t.var
sum_of-push x [] t = omega (arith, ints)
sum_of-push x (s ∷ ts) t = let ih = sum_of-push x ts t in omega (arith, ints)

pub sum_of_more : (x : ℕ → ℤ) (ts : List LTerm) (i : ℕ) (d : LTerm) → i < length ts → sum_of x (take (i + 1) ts) ≡ sum_of x (take i ts) +ℤ (get_or ts i d).factor *ℤ x (get_or ts i d).var
sum_of_more x ts i d lt = ap (sum_of x) (take_more ts i d lt) ∙ sum_of-push x (take i ts) (get_or ts i d)

abs-add : (a b : ℤ) → unsigned_abs (a +ℤ b) ≤ unsigned_abs a + unsigned_abs b
abs-add a b = omega (arith, ints)

fits_128 : (z : ℤ) → unsigned_abs z ≤ 2 ^ 126 → FitsSigned w128 z
fits_128 z h = omega (arith, ints)

abs_64 : (z : ℤ) → FitsSigned w64 z → unsigned_abs z ≤ 2 ^ 63
abs_64 z h = omega (arith, ints)

below : (a b : ℕ) → a ≤ 2 ^ 63 → b ≤ 2 ^ 63 → a * b ≤ 2 ^ 126
below a b p q = mul-le-mul {n₂ = 2 ^ 63} {m₂ = 2 ^ 63} p q

back : (z : ℤ) → unsigned_abs z ≤ 2 ^ 126 → to_z w128 (of_z w128 z) ≡ z
back z h = to_z-of_z w128 z (fits_128 z h)

abs_product : (a x : ℤ) → unsigned_abs a ≤ 2 ^ 63 → FitsSigned w64 x → unsigned_abs (a *ℤ x) ≤ unsigned_abs a * 2 ^ 63
abs_product a x p f = let m : unsigned_abs a * unsigned_abs x ≤ unsigned_abs a * 2 ^ 63 = mul-le-mul (omega arith) (abs_64 x f) in omega (arith, unsigned_abs-mul a x)

pub product_back : (a x : ℤ) → unsigned_abs a ≤ 2 ^ 63 → FitsSigned w64 x → to_z w128 (of_z w128 a) *ℤ to_z w128 (of_z w128 x) ≡ a *ℤ x
product_back a x p f = let q = abs_64 x f in let e : to_z w128 (of_z w128 a) ≡ a = back a (omega arith) in let g : to_z w128 (of_z w128 x) ≡ x = back x (omega arith) in cc

pub product_fits : (a x : ℤ) → unsigned_abs a ≤ 2 ^ 63 → FitsSigned w64 x → FitsSigned w128 (to_z w128 (of_z w128 a) *ℤ to_z w128 (of_z w128 x))
product_fits a x p f =
    let q = abs_64 x f in
    let b = below (unsigned_abs a) (unsigned_abs x) p q in
    rw (product_back a x p f) (fits_128 (a *ℤ x) (omega (arith, unsigned_abs-mul a x)))

-- one term more on the sum, as the code makes it
pub record AddsTerm (s a r : ℤ) (m : ℕ) : Type 0 where
  pub fits : FitsSigned w128 (s +ℤ to_z w128 (of_z w128 (to_z w128 (of_z w128 a) *ℤ to_z w128 (of_z w128 r))))
  pub value : to_z w128 (of_z w128 (s +ℤ to_z w128 (of_z w128 (to_z w128 (of_z w128 a) *ℤ to_z w128 (of_z w128 r))))) ≡ s +ℤ a *ℤ r
  pub small : unsigned_abs (s +ℤ a *ℤ r) ≤ (m + unsigned_abs a) * 2 ^ 63

pub adds_term : (s a r : ℤ) (m : ℕ) → unsigned_abs s ≤ m * 2 ^ 63 → m + unsigned_abs a ≤ 2 ^ 63 → FitsSigned w64 r → AddsTerm s a r m
adds_term s a r m h p f =
    let pa : unsigned_abs a ≤ 2 ^ 63 = omega arith in
    let small : unsigned_abs (s +ℤ a *ℤ r) ≤ (m + unsigned_abs a) * 2 ^ 63 = omega (arith, abs-add s (a *ℤ r), abs_product a r pa f) in
    let whole : unsigned_abs (s +ℤ a *ℤ r) ≤ 2 ^ 126 = omega (arith, below (m + unsigned_abs a) (2 ^ 63) p (omega arith)) in
    let one : unsigned_abs (a *ℤ r) ≤ 2 ^ 126 = omega (arith, abs_product a r pa f, below (unsigned_abs a) (2 ^ 63) pa (omega arith)) in
    let term : to_z w128 (of_z w128 (to_z w128 (of_z w128 a) *ℤ to_z w128 (of_z w128 r))) ≡ a *ℤ r = ap (λ z. to_z w128 (of_z w128 z)) (product_back a r pa f) ∙ back (a *ℤ r) one in
    record {
      fits = rw term (fits_128 (s +ℤ a *ℤ r) whole);
      value = rw term (back (s +ℤ a *ℤ r) whole);
      small = small;
    }
