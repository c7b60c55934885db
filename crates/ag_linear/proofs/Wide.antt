-- Numbers of 128 bits.
use Rattle.std.proofs.Common.{◌≡◌, ◌≢◌, ◌<◌, Bool, true, false, refl, arith, to_z, of_z}
use Rattle.std.specs.Prelude.{ℤ, ◌+ℤ◌, ◌-ℤ◌, ◌*ℤ◌, unsigned_abs, FitsSigned}
use Rattle.std.specs.Int.{w128}
use Rattle.std.proofs.lemmas.Bool.Decides.{nat_tests}
use Rattle.std.proofs.lemmas.Int.{ints, to_z-of_z}
use Rattle.ag_linear.specs.Values.{is_carried}
use Rattle.ag_linear.specs.Rows.{is_zero}

pub carried_bound : (z : ℤ) → is_carried z ≡ true → unsigned_abs z < 170141183460469231731687303715884105728
carried_bound z h = grind (arith, nat_tests)

pub not_true : (b : Bool) → (b ≡ true → ⊥) → b ≡ false
not_true true h = absurd (h refl)
not_true false h = refl

-- a number that code finds to be no 0
pub nonzero_from : (x z : ℤ) → x ≡ z → (of_z w128 x ≡ 0 → ⊥) → is_zero z ≡ false
nonzero_from x z e h =
    let nonzero : unsigned_abs z ≢ 0 = λ k. h (omega (arith, ints, k, e)) in
    grind (arith, nat_tests)

pub zero_from : (x z : ℤ) → x ≡ z → is_carried z ≡ true → of_z w128 x ≡ 0 → is_zero z ≡ true
zero_from x z e carried h =
    let bound = carried_bound z carried in
    let zero : unsigned_abs z ≡ 0 = omega (arith, ints) in
    grind (arith, nat_tests)

-- ---- what code adds and subtracts, and what comes out

abbrev pub again : ℤ → ℤ
again z = to_z w128 (of_z w128 z)

pub sum_again : (a b : ℤ) → FitsSigned w128 a → FitsSigned w128 b → again a +ℤ again b ≡ a +ℤ b
sum_again a b f g = rw (to_z-of_z w128 a f, to_z-of_z w128 b g) refl

pub difference_again : (a b : ℤ) → FitsSigned w128 a → FitsSigned w128 b → again a -ℤ again b ≡ a -ℤ b
difference_again a b f g = rw (to_z-of_z w128 a f, to_z-of_z w128 b g) refl

pub product_again : (a b : ℤ) → FitsSigned w128 a → FitsSigned w128 b → again a *ℤ again b ≡ a *ℤ b
product_again a b f g = rw (to_z-of_z w128 a f, to_z-of_z w128 b g) refl
