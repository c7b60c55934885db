use Rattle.std.proofs.Common.{◌+◌, arith}
use Rattle.ag_types.proofs.Circling.{circular_more}
use Rattle.ag_types.proofs.uses.circular_nodes.Goals as goal

pub loop-at-preserved : goal.loop-at-preserved
loop-at-preserved c =
    rw c.either-broken.ensures
    (circular_more c.args.on_circle.now (λ n. n.now.name) c.args.nodes.now c.loop-at.at (c.args.constants + c.loop-at.at) (c.args.constants + (c.loop-at.at + 1)) c.index-nodes-at.result c.loop-at.broken c.circular.result _ (omega arith) c.index-nodes-at.is (omega arith) c.circular.ensures c.loop-at.invariant)
