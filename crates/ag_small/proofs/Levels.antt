-- The readers of a level, by whether one less is left.
use Rattle.std.proofs.Common.{◌≡◌, ◌≢◌, ℕ, zero, suc, ◌-◌, Some, None, refl, ap, arith}
use Rattle.ag_small.specs.Reading.{below, readers_above}

pub none_below : below 0 ≡ None
unfolding below
none_below = refl

pub some_below : (n : ℕ) → n ≢ 0 → below n ≡ Some (readers_above (below (n - 1)))
unfolding below
some_below zero ne = absurd (ne refl)
some_below (suc n) ne = let e : n ≡ suc n - 1 = omega arith in ap (λ (m : ℕ). Some (readers_above (below m))) e
