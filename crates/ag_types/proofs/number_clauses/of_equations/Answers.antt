use Rattle.ag_types.specs.NumberFaults.{node_numbers}
use Rattle.ag_types.proofs.Each.{items_more}
use Rattle.ag_types.proofs.number_clauses.of_equations.Goals as goal

pub loop-equation-preserved : goal.loop-equation-preserved
loop-equation-preserved c =
    rw (c.either-broken.ensures, c.in_ok-side.ensures)
    (items_more (node_numbers c.args.sight.now c.args.values.now) c.args.equations.now c.loop-equation.equation-index c.equation-item.result c.loop-equation.broken _ c.loop-equation-test.true c.equation-item.is c.loop-equation.invariant)
