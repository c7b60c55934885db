use Rattle.std.proofs.Common.{length, ap}
use Rattle.ag_types.specs.Uses.{Constant}
use Rattle.ag_types.proofs.Using.{constants_more}
use Rattle.ag_types.proofs.uses.push_constant_uses.Goals as goal

pub loop-constant-preserved : goal.loop-constant-preserved
loop-constant-preserved c =
    rw (c.in_ok-push_uses.ensures.edges, c.in_ok-push_vertex.ensures.ok, ap (λ (z : Constant). z.names) c.constant.view_is, ap (λ (z : Constant). z.term) c.constant.view_is)
    (constants_more (length c.args.constants.now) c.loop-constant.graph _ c.args.constants.now c.loop-constant.constant-index c.constant-item.result c.loop-constant-test.true c.constant-item.is c.loop-constant.invariant)
