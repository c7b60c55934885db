use Rattle.ag_types.specs.NumberFaults.{clause_numbers}
use Rattle.ag_types.proofs.Each.{items_more}
use Rattle.ag_types.proofs.number_clauses.of_clauses.Goals as goal

pub loop-clause-preserved : goal.loop-clause-preserved
loop-clause-preserved c =
    rw (c.either-broken.ensures, c.in_ok-of_clause.ensures)
    (items_more (clause_numbers c.args.values.now c.args.site.now) c.args.clauses.now c.loop-clause.clause-index c.clause-item.result c.loop-clause.broken _ c.loop-clause-test.true c.clause-item.is c.loop-clause.invariant)
