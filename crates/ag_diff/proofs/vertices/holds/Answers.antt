use Rattle.std.proofs.Common.{◌≡◌, ℤ, ◌+ℤ◌, List, to_z, of_z}
use Rattle.std.specs.Int.{w64}
use Rattle.ag_diff.specs.declared.edges.Edge.{Edge}
use Rattle.ag_diff.specs.declared.vertices.Vertex.{Vertex}
use Rattle.ag_diff.specs.Vertices.{value_at}
use Rattle.ag_diff.proofs.Values.{value_low, value_high, back_sum, le_both}
use Rattle.ag_diff.proofs.vertices.holds.Goals as goal

pub returns : goal.returns
returns c =
    let vs : List Vertex = c.args.vertices.now in
    let e : Edge = c.args.edge.now in
    let r = c.requires in
    let a : ℤ = value_at vs e.to in
    let b : ℤ = value_at vs e.from in
    let code : ℤ = to_z w64 (of_z w64 (to_z w64 (of_z w64 b) +ℤ to_z w64 (of_z w64 e.weight))) in
    let sum : code ≡ b +ℤ e.weight = back_sum b e.weight (value_low vs e.from r.size r.vertices r.within.from) (value_high vs e.from r.vertices r.within.from) r.within.low r.within.high in
    le_both a code (b +ℤ e.weight) (value_low vs e.to r.size r.vertices r.within.to) (value_high vs e.to r.vertices r.within.to) sum
