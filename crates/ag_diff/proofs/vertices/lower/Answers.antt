use Rattle.std.proofs.Common.{◌≡◌, ◌<◌, ℤ, ◌+◌, ◌+ℤ◌, List, to_z, of_z, sym, subst, Some}
use Rattle.std.specs.Prelude.{slice_set}
use Rattle.std.specs.Int.{w64}
use Rattle.ag_diff.specs.declared.edges.Edge.{Edge}
use Rattle.ag_diff.specs.declared.vertices.Vertex.{Vertex}
use Rattle.ag_diff.specs.Vertices.{vertex_at, value_at, AreVertices, room}
use Rattle.ag_diff.proofs.Values.{value_low, value_high, back_sum, sunk_vertices, sinks}
use Rattle.ag_diff.proofs.vertices.lower.Goals as goal

pub returns-clause-vertices : goal.returns-clause-vertices
returns-clause-vertices c =
    let vs : List Vertex = c.args.vertices.now in
    let e : Edge = c.args.edge.now in
    let r = c.requires in
    let b : ℤ = value_at vs e.from in
    let code : ℤ = to_z w64 (of_z w64 (to_z w64 (of_z w64 b) +ℤ to_z w64 (of_z w64 e.weight))) in
    let sum : code ≡ b +ℤ e.weight = back_sum b e.weight (value_low vs e.from r.size r.vertices r.within.from) (value_high vs e.from r.vertices r.within.from) r.within.low r.within.high in
    let P : ℤ → Type 0 = λ z. AreVertices (slice_set vs e.to (record { value = z; rank = (vertex_at vs e.from).rank + 1; cause = Some e })) in
    subst P (sym sum) (sunk_vertices vs e r.size r.within r.vertices r.above r.rank)

pub returns-clause-sinks : goal.returns-clause-sinks
returns-clause-sinks c =
    let vs : List Vertex = c.args.vertices.now in
    let e : Edge = c.args.edge.now in
    let r = c.requires in
    let b : ℤ = value_at vs e.from in
    let code : ℤ = to_z w64 (of_z w64 (to_z w64 (of_z w64 b) +ℤ to_z w64 (of_z w64 e.weight))) in
    let sum : code ≡ b +ℤ e.weight = back_sum b e.weight (value_low vs e.from r.size r.vertices r.within.from) (value_high vs e.from r.vertices r.within.from) r.within.low r.within.high in
    let P : ℤ → Type 0 = λ z. room (slice_set vs e.to (record { value = z; rank = (vertex_at vs e.from).rank + 1; cause = Some e })) < room vs in
    subst P (sym sum) (sinks vs e r.size r.within r.vertices r.above r.rank)
