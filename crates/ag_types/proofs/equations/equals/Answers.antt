use Rattle.ag_types.specs.ClauseFaults.{equal_faults}
use Rattle.ag_types.proofs.Each.{items_more, items_end}
use Rattle.ag_types.proofs.equations.equals.Goals as goal

pub loop-equation-preserved : goal.loop-equation-preserved
loop-equation-preserved c = rw (c.either-broken.ensures, c.equal.ensures)
    (items_more (equal_faults c.args.sight.now c.args.targets.now) c.args.equations.now c.loop-equation.equation-index c.equation-item.result c.loop-equation.broken _ c.loop-equation-test.true c.equation-item.is c.loop-equation.invariant)

pub returns : goal.returns
returns c = items_end (equal_faults c.args.sight.now c.args.targets.now) c.args.equations.now c.loop-equation.equation-index c.loop-equation.broken _ c.loop-equation-test.false c.loop-equation.invariant
