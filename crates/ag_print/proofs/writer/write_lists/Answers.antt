use Rattle.ag_print.proofs.Lists.{list_written}
use Rattle.ag_print.proofs.writer.write_lists.Goals as goal

pub loop-list-preserved : goal.loop-list-preserved
loop-list-preserved c =
    list_written c.args.lists.now c.loop-list.list-index c.list-item.result c.as_slice.result.now _ _ _ c.loop-list-test.true c.list-item.is c.as_slice.ensures c.loop-list.invariant c.in_ok-write_clauses.ensures
