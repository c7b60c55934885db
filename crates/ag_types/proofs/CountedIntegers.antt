-- The number of integer streams before a position is that of the streams up to it.
use Rattle.std.proofs.Common.{◌≡◌, ℕ, zero, suc, ◌+◌, ◌≤◌, Bool, true, false, List, [], ◌∷◌, length, take, get_or, refl, ◌∙◌, arith}
use Rattle.std.specs.Prelude.{if◌then◌else◌}
use Rattle.std.specs.List.{filter}
use Rattle.ag_terms.specs.declared.clauses.Var.{Var}
use Rattle.ag_types.specs.Numbers.{numbers_from}
use Rattle.ag_types.specs.Sums.{is_whole}

pub numbers_long : (n : ℕ) (vs : List Var) → length (numbers_from n vs) ≡ length vs + 1
numbers_long n [] = refl
numbers_long n (v ∷ vs) = let e = numbers_long (if is_whole v then n + 1 else n) vs in omega arith

counted : (b : Bool) (n : ℕ) (v : Var) (vs : List Var) → (if b then n + 1 else n) + length vs ≡ n + length (if b then v ∷ vs else vs)
counted true n v vs = omega arith
counted false n v vs = refl

pub number_at : (n k : ℕ) (vs : List Var) (d : ℕ) → k ≤ length vs → get_or (numbers_from n vs) k d ≡ n + length (filter is_whole (take k vs))
number_at n zero [] d h = omega arith
number_at n zero (v ∷ vs) d h = omega arith
number_at n (suc k) [] d h = absurd (omega arith)
number_at n (suc k) (v ∷ vs) d h = number_at (if is_whole v then n + 1 else n) k vs d (omega arith) ∙ counted (is_whole v) n v (filter is_whole (take k vs))
