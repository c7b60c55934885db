-- A loop that changes a list's elements one after another.
use Rattle.std.proofs.Common.{◌≡◌, ℕ, zero, suc, ◌+◌, ◌<◌, List, [], ◌∷◌, ◌++◌, length, map, take, drop, get_or, set, ap, refl, arith, add-one}
use Rattle.std.specs.Prelude.{ℤ, ◌*ℤ◌}
use Rattle.ag_linear.specs.declared.value.Factor.{Factor}
use Rattle.ag_linear.specs.Rows.{times_factor}

scaled_at : {A : Type 0} (g : A → A) (xs : List A) (i : ℕ) (d : A) → i < length xs → set (map g (take i xs) ++ drop i xs) i (g (get_or xs i d)) ≡ map g (take (suc i) xs) ++ drop (suc i) xs
scaled_at g [] i d lt = absurd (omega (arith, lt))
scaled_at g (x ∷ xs) zero d lt = refl
scaled_at g (x ∷ xs) (suc i) d lt = ap (λ ys. g x ∷ ys) (scaled_at g xs i d (omega (arith, lt)))

-- the next one is changed
pub scaled_step : {A : Type 0} (g : A → A) (xs ys : List A) (i : ℕ) (d y : A) → i < length xs → ys ≡ map g (take i xs) ++ drop i xs → y ≡ g (get_or xs i d) → set ys i y ≡ map g (take (i + 1) xs) ++ drop (i + 1) xs
scaled_step g xs ys i d y lt e ey = rw (add-one, e, ey) (scaled_at g xs i d lt)

read_at : {A : Type 0} (g : A → A) (xs : List A) (i : ℕ) (d : A) → get_or (map g (take i xs) ++ drop i xs) i d ≡ get_or xs i d
read_at g [] zero d = refl
read_at g [] (suc i) d = refl
read_at g (x ∷ xs) zero d = refl
read_at g (x ∷ xs) (suc i) d = read_at g xs i d

-- and it is still as it was
pub scaled_read : {A : Type 0} (g : A → A) (xs ys : List A) (i : ℕ) (d : A) → ys ≡ map g (take i xs) ++ drop i xs → get_or ys i d ≡ get_or xs i d
scaled_read g xs ys i d e = rw e (read_at g xs i d)

pub scaled_factor : (by : ℤ) (f g : Factor) (z : ℤ) → f ≡ g → z ≡ by *ℤ f.factor → record { stream = f.stream; before = f.before; factor = z } ≡ times_factor by g
scaled_factor by f g z e ez = rw ez (ap (times_factor by) e)
