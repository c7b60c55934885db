-- The way up from a vertex.
use Rattle.std.specs.Prelude.{◌≡◌, ℕ, ◌+◌, ◌<◌, ◌≤◌, List, length, Some, None, All}
use Rattle.ag_diff.specs.declared.edges.Edge.{Edge}
use Rattle.ag_diff.specs.declared.vertices.Vertex.{Vertex}
use Rattle.ag_diff.specs.declared.climb.Climb.{Climb}
use Rattle.ag_diff.specs.declared.climb.Climb.TheVariants.{Top, Cycle}
use Rattle.ag_diff.specs.Cycles.{Leads, IsNegativeCycle}
use Rattle.ag_diff.specs.Vertices.{vertex_at}

-- the vertex at the edge's end sank along it last
pub record IsLastCause (vertices : List Vertex) (edge : Edge) : Type 0 where
  pub there : edge.to < length vertices
  pub cause : (vertex_at vertices edge.to).cause ≡ Some edge

-- the way up to a vertex that never sank, with fewer edges than there are vertices
pub record IsWayUp (vertices : List Vertex) (at top : ℕ) (path : List Edge) : Type 0 where
  pub top_there : top < length vertices
  pub no_cause : (vertex_at vertices top).cause ≡ None
  pub leads : Leads at path top
  pub causes : All (IsLastCause vertices) path
  pub short : length path < length vertices

-- the way up, or a negative cycle on it
abbrev pub IsClimb : List Vertex → ℕ → Climb → Type 0
IsClimb vertices at (Top top path) = IsWayUp vertices at top path.items
IsClimb vertices at (Cycle cycle) = IsNegativeCycle cycle.items × All (IsLastCause vertices) cycle.items

-- the vertices have the same values and causes
pub record SameButRanks (before now : List Vertex) : Type 0 where
  pub count : length now ≡ length before
  pub values : (n : ℕ) → (vertex_at now n).value ≡ (vertex_at before n).value
  pub causes : (n : ℕ) → (vertex_at now n).cause ≡ (vertex_at before n).cause

-- what is left of the way down to a vertex, where the ranks above it are lowered
pub record IsWayDown (vertices : List Vertex) (at : ℕ) (path : List Edge) (rank : ℕ) : Type 0 where
  pub now : ℕ
  pub leads : Leads at path now
  pub low : (vertex_at vertices now).rank ≤ rank
  pub causes : All (IsLastCause vertices) path
  pub short : rank + length path < length vertices
