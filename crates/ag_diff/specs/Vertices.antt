-- The values of the vertices, and the edges that they come from.
use Rattle.std.specs.Prelude.{◌≡◌, ℕ, ◌<◌, ◌≤◌, ◌+◌, ◌*◌, ◌^◌, ℤ, pos, ◌+ℤ◌, ◌*ℤ◌, ◌≤ℤ◌, ◌<ℤ◌, List, length, None, Contains, slice_index_or, sum_by, unsigned_abs}
use Rattle.std.specs.Option.{ForSome, ForNone}
use Rattle.ag_diff.specs.declared.edges.Edge.{Edge}
use Rattle.ag_diff.specs.declared.vertices.Vertex.{Vertex}
use Rattle.ag_diff.specs.Edges.{IsWithin}

-- a vertex by its number
abbrev pub vertex_at : List Vertex → ℕ → Vertex
vertex_at vertices n = slice_index_or vertices n (record { value = pos 0; rank = 0; cause = None })

abbrev pub value_at : List Vertex → ℕ → ℤ
value_at vertices n = (vertex_at vertices n).value

-- a value and then a rank, as one number
abbrev pub height_at : List Vertex → ℕ → ℤ
height_at vertices n = pos 16384 *ℤ (vertex_at vertices n).value +ℤ pos (vertex_at vertices n).rank

-- the edge ends at the vertex, which lies above what the edge allows, or as low and of greater rank than its begin
pub record IsCause (vertices : List Vertex) (n : ℕ) (edge : Edge) : Type 0 where
  pub to : edge.to ≡ n
  pub within : IsWithin (length vertices) edge
  pub above : (pos 16384 *ℤ edge.weight +ℤ height_at vertices edge.from) <ℤ height_at vertices n

-- a vertex lies no lower than so many edges take it, as its rank says, and one without a cause no lower than at the start
pub record IsVertex (vertices : List Vertex) (n : ℕ) (v : Vertex) : Type 0 where
  pub rank : v.rank ≤ length vertices
  pub high : v.value ≤ℤ pos 0
  pub low : pos 0 ≤ℤ (v.value +ℤ pos (2 ^ 60 + (2 ^ 48 + 1) * v.rank))
  pub start : ForNone v.cause (pos 0 ≤ℤ (v.value +ℤ pos (2 ^ 60)))
  pub cause : ForSome v.cause (IsCause vertices n)

-- every vertex is one
abbrev pub AreVertices : List Vertex → Type 0
AreVertices vertices = (n : ℕ) → n < length vertices → IsVertex vertices n (vertex_at vertices n)

-- every cause is one of the edges
abbrev pub HaveCauses : List Edge → List Vertex → Type 0
HaveCauses edges vertices = (n : ℕ) → n < length vertices → ForSome (vertex_at vertices n).cause (Contains edges)

-- a value to start from
abbrev pub IsStart : ℤ → Type 0
IsStart value = (pos 0 ≤ℤ (value +ℤ pos (2 ^ 60))) × (value ≤ℤ pos 0)

-- a vertex that never sank
abbrev pub started : ℤ → Vertex
started value = record { value = value; rank = 0; cause = None }

-- how far the vertices may sink
abbrev pub room : List Vertex → ℕ
room vertices = sum_by (λ v. unsigned_abs (v.value +ℤ pos (2 ^ 62))) vertices
