-- Cycles of edges.
use Rattle.std.specs.Prelude.{◌≡◌, ℕ, ℤ, pos, ◌+ℤ◌, ◌<ℤ◌, List, [], ◌∷◌}
use Rattle.ag_diff.specs.declared.edges.Edge.{Edge}

-- each edge ends where the one before begins: the first ends at this vertex, the last begins at that one
abbrev pub Leads : ℕ → List Edge → ℕ → Type 0
Leads to [] from = to ≡ from
Leads to (e ∷ es) from = (e.to ≡ to) × Leads e.from es from

-- what the weights add up to
abbrev pub weight_of : List Edge → ℤ
weight_of [] = pos 0
weight_of (e ∷ es) = e.weight +ℤ weight_of es

-- the edges lead back to where they begin, and their weights add up to less than 0
pub record IsNegativeCycle (edges : List Edge) : Type 0 where
  pub at : ℕ
  pub leads : Leads at edges at
  pub negative : weight_of edges <ℤ pos 0
