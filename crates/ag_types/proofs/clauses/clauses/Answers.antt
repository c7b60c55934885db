use Rattle.ag_types.specs.ClauseFaults.{clause_faults}
use Rattle.ag_types.proofs.Each.{items_more}
use Rattle.ag_types.proofs.clauses.clauses.Goals as goal

pub loop-part-preserved : goal.loop-part-preserved
loop-part-preserved c = rw (c.either-broken.ensures, c.in_ok-clause.ensures)
    (items_more (clause_faults c.args.targets.now c.args.site.now) c.args.clauses.now c.loop-part.part-index c.part-item.result c.loop-part.broken _ c.loop-part-test.true c.part-item.is c.loop-part.invariant)
