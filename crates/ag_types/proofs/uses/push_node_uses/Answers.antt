use Rattle.ag_types.specs.Uses.{of_node, used_by}
use Rattle.ag_types.proofs.Using.{mapped_more}
use Rattle.ag_types.proofs.uses.push_node_uses.Goals as goal

pub loop-clause-preserved : goal.loop-clause-preserved
loop-clause-preserved c =
    rw c.in_ok-push_node_uses_in.ensures
    (mapped_more (used_by c.args.constants) (of_node c.args.site.now) c.loop-clause.graph _ c.args.clauses.now c.loop-clause.clause-index c.clause-item.result c.loop-clause-test.true c.clause-item.is c.loop-clause.invariant)
