use Rattle.std.proofs.Common.{ℕ, List, sym, subst, ap, arith}
use Rattle.std.specs.Prelude.{slice_set}
use Rattle.ag_diff.specs.declared.edges.Edge.{Edge}
use Rattle.ag_diff.specs.declared.vertices.Vertex.{Vertex}
use Rattle.ag_diff.specs.Vertices.{AreVertices}
use Rattle.ag_diff.proofs.Values.{at_end_of}
use Rattle.ag_diff.proofs.Ranks.{ranked, ranked_same, lowered_vertices}
use Rattle.ag_diff.proofs.climb.lower_rank.Goals as goal

pub returns-clause-vertices : goal.returns-clause-vertices
returns-clause-vertices c =
    let vs : List Vertex = c.args.vertices.now in
    let e : Edge = c.args.edge.now in
    let P : ℕ → Type 0 = λ r. AreVertices (slice_set vs e.to (ranked vs e.to r)) in
    subst P (sym c.min-vertex.ensures) (lowered_vertices vs e c.args.rank c.requires.size c.requires.vertices c.requires.cause c.requires.begin)

pub returns-clause-same : goal.returns-clause-same
returns-clause-same c = ranked_same c.args.vertices.now c.args.edge.now.to c.min-vertex.result

pub returns-clause-below : goal.returns-clause-below
returns-clause-below c =
    let vs : List Vertex = c.args.vertices.now in
    let e : Edge = c.args.edge.now in
    let at = ap (λ (v : Vertex). v.rank) (at_end_of vs e.to (ranked vs e.to c.min-vertex.result) c.requires.cause.there) in
    omega (arith, at, c.min-vertex.ensures)
