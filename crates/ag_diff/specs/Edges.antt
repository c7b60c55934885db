-- What the edges of rows say.
use Rattle.std.specs.Prelude.{◌≡◌, ℕ, ◌<◌, ◌≤◌, ◌+◌, ◌^◌, ℤ, pos, negsuc, ◌+ℤ◌, ◌-ℤ◌, ◌≤ℤ◌, List, Some}
use Rattle.ag_query.specs.declared.rows.LTerm.{LTerm}
use Rattle.ag_query.specs.declared.rows.LRow.{LRow}
use Rattle.ag_query.specs.declared.rows.Atom.{Atom}
use Rattle.ag_query.specs.Rows.{sum_of}
use Rattle.ag_kernel.specs.Rules.{row_at, row_said}
use Rattle.ag_diff.specs.declared.edges.Edge.{Edge}
use Rattle.ag_diff.specs.Differences.{IsDifference}

-- the terms add up to the first vertex less the second, where the vertex behind all variables is worth 0
pub record AreEnds (zero : ℕ) (terms : List LTerm) (to from : ℕ) : Type 0 where
  pub to_there : to ≤ zero
  pub from_there : from ≤ zero
  pub sum : (x : ℕ → ℤ) → x zero ≡ pos 0 → sum_of x terms ≡ x to -ℤ x from

-- the edge says what the row says
pub record IsEdgeOf (zero : ℕ) (row : LRow) (edge : Edge) : Type 0 where
  pub ends : AreEnds zero row.terms edge.to edge.from
  pub weight : edge.weight ≡ row.bound

-- the edge lies between the first so many vertices, and its weight is small
pub record IsWithin (count : ℕ) (edge : Edge) : Type 0 where
  pub to : edge.to < count
  pub from : edge.from < count
  pub low : negsuc (2 ^ 48) ≤ℤ edge.weight
  pub high : edge.weight ≤ℤ pos (2 ^ 48 + 1)

-- the edge says what its literal says
pub record IsSaid (zero : ℕ) (atoms : List Atom) (edge : Edge) : Type 0 where
  pub within : IsWithin (zero + 1) edge
  pub row : LRow
  pub is_row : row_at atoms edge.lit.atom ≡ Some row
  pub difference : IsDifference row.terms
  pub says : IsEdgeOf zero (row_said edge.lit row) edge

-- the value at the edge's end is at most that at its begin and the weight
abbrev pub HoldsAt : (ℕ → ℤ) → Edge → Type 0
HoldsAt x edge = x edge.to ≤ℤ (x edge.from +ℤ edge.weight)
