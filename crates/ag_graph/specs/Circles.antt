-- Which vertices of a graph lead back to themselves.
use Rattle.std.specs.Prelude.{◌≡◌, ◌<◌, ◌↔◌, ℕ, Bool, false, List, [], length, IsTrue, All, Contains, slice_index_or}

-- one vertex leads to another at once; a graph lists, for each vertex, those that it leads to
abbrev pub Leads : List (List ℕ) → ℕ → ℕ → Type 0
Leads graph v w = Contains (slice_index_or graph v []) w

-- it leads there at once, or through others
pub data Reaches (graph : List (List ℕ)) : ℕ → ℕ → Type 0 where
  at_once : (v w : ℕ) → Leads graph v w → Reaches graph v w
  through : (v w x : ℕ) → Leads graph v w → Reaches graph w x → Reaches graph v x

-- it leads back to itself
abbrev pub IsOnCircle : List (List ℕ) → ℕ → Type 0
IsOnCircle graph v = Reaches graph v v

-- each vertex leads to vertices of the graph alone
abbrev pub IsGraph : List (List ℕ) → Type 0
IsGraph graph = All (λ targets. All (λ w. w < length graph) targets) graph

-- where a vertex stands in an order, one that it leads to stands before it
abbrev pub StandsBehind : List ℕ → ℕ → ℕ → Type 0
StandsBehind order v w = (i : ℕ) × (j : ℕ) × (j < i) × (i < length order) × (slice_index_or order i 0 ≡ v) × (slice_index_or order j 0 ≡ w)

-- which vertices lead back to themselves, and an order in which each other one stands behind those that it leads to
pub record AreCircles (graph : List (List ℕ)) (on_circle : List Bool) (order : List ℕ) : Type 0 where
  pub long : length on_circle ≡ length graph
  pub circles : (v : ℕ) → v < length graph → (IsTrue (slice_index_or on_circle v false) ↔ IsOnCircle graph v)
  -- all vertices stand in it, and nothing else
  pub all : (v : ℕ) → v < length graph → Contains order v
  pub vertices : All (λ v. v < length graph) order
  pub once : length order ≡ length graph
  pub behind : (v w : ℕ) → v < length graph → (IsOnCircle graph v → ⊥) → Leads graph v w → StandsBehind order v w
