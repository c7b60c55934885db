-- What a look at edges comes to.
use Rattle.std.specs.Prelude.{◌≡◌, ℕ, ◌+◌, ◌*◌, ◌<◌, Bool, true, false, List, take, All, Contains}
use Rattle.ag_diff.specs.declared.edges.Edge.{Edge}
use Rattle.ag_diff.specs.declared.vertices.Vertex.{Vertex}
use Rattle.ag_diff.specs.declared.sweep.Sweep.{Sweep}
use Rattle.ag_diff.specs.declared.sweep.Sweep.TheVariants.{Still, Lowered, Cycle}
use Rattle.ag_diff.specs.Edges.{HoldsAt}
use Rattle.ag_diff.specs.Cycles.{IsNegativeCycle}
use Rattle.ag_diff.specs.Vertices.{value_at, room}
use Rattle.ag_diff.specs.Climbs.{IsLastCause}
use Rattle.ag_diff.specs.Waiting.{Queue}

-- how much there is left to do: to sink twice as far as there is room, and to look at those that wait
abbrev pub work : List Vertex → Queue → ℕ
work vertices queue = 2 * room vertices + queue.waiting

-- the edge holds and nothing changed, or there is less to do, or there is a negative cycle
abbrev pub IsVisited : Edge → List Vertex → List Vertex → ℕ → ℕ → Sweep → Type 0
IsVisited edge before now worked left Still = (now ≡ before) × (left ≡ worked) × HoldsAt (value_at now) edge
IsVisited edge before now worked left Lowered = left < worked
IsVisited edge before now worked left (Cycle cycle) = IsNegativeCycle cycle.items × All (IsLastCause before) cycle.items

-- all edges hold, or there is less to do, or some edges make a negative cycle
abbrev pub IsSwept : List Edge → List Vertex → ℕ → ℕ → Sweep → Type 0
IsSwept edges now worked left Still = All (HoldsAt (value_at now)) edges
IsSwept edges now worked left Lowered = left < worked
IsSwept edges now worked left (Cycle cycle) = IsNegativeCycle cycle.items × All (Contains edges) cycle.items

-- there is less to do, or the first so many edges hold
abbrev pub IsSweptTo : List Edge → List Vertex → ℕ → ℕ → ℕ → Bool → Type 0
IsSweptTo edges now worked left n true = left < worked
IsSweptTo edges now worked left n false = (left ≡ worked) × All (HoldsAt (value_at now)) (take n edges)
