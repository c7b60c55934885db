use Rattle.std.proofs.Common.{◌<◌, ℕ, length, arith}
use Rattle.ag_graph.specs.Search.{IsSeen}
use Rattle.ag_graph.proofs.Answering.{answers}
use Rattle.ag_graph.proofs.search.circles.Goals as goal

pub returns : goal.returns
returns c =
    let search = c.loop-vertex.search in
    let invariant = c.loop-vertex.invariant in
    let seen : (v : ℕ) → v < length c.args.graph.now → IsSeen search v = λ v h. invariant.seen v (omega (arith, c.len-vertex-end.ensures, c.loop-vertex-test.false)) in
    rw (c.ended.ensures.on_circle, c.ended.ensures.order) (answers c.args.graph.now search invariant.search invariant.groups seen)
