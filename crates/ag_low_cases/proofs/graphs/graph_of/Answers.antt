use Rattle.std.proofs.Common.{◌≡◌, length, ap, ◌∙◌, arith}
use Rattle.ag_graph.proofs.Building.{below_edge, length-with_edge}
use Rattle.ag_low_cases.proofs.graphs.graph_of.Goals as goal

pub loop-to-preserved : goal.loop-to-preserved
loop-to-preserved g c =
    let old = c.loop-to.graph in
    let new = c.push_edge.new.self in
    let invariant = c.loop-to.invariant in
    let is = c.in_ok-push_edge.ensures.ok in
    let long : length new ≡ length old = ap length is ∙ length-with_edge old _ in record {
      below = below_edge (length c.args.rows.now) old new _ is invariant.some (omega arith) invariant.below;
      long = long ∙ invariant.long;
      some = omega (arith, long, invariant.some);
    }
