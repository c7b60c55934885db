-- How many integer streams stand before each stream.
use Rattle.std.specs.Prelude.{ℕ, ◌+◌, List, [], ◌∷◌, if◌then◌else◌}
use Rattle.ag_terms.specs.declared.clauses.Var.{Var}
use Rattle.ag_types.specs.Sums.{is_whole}

-- for each of these streams the number of integer streams before it, of which this many stand before all, and behind the last one that of all
abbrev pub numbers_from : ℕ → List Var → List ℕ
numbers_from n [] = n ∷ []
numbers_from n (v ∷ vs) = n ∷ numbers_from (if is_whole v then n + 1 else n) vs
