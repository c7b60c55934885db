use Rattle.std.proofs.Common.{map}
use Rattle.ag_types.specs.ClauseFaults.{unset}
use Rattle.ag_types.proofs.Each.{items_more, items_end}
use Rattle.ag_types.proofs.equations.unset_among.Goals as goal

pub loop-var-preserved : goal.loop-var-preserved
loop-var-preserved c = rw (c.either-broken.ensures, c.unset.ensures)
    (items_more (unset (map (λ e. e.name) c.args.set.now.equations.now)) c.args.vars.now c.loop-var.var-index c.var-item.result c.loop-var.broken _ c.loop-var-test.true c.var-item.is c.loop-var.invariant)

pub returns : goal.returns
returns c = items_end (unset (map (λ e. e.name) c.args.set.now.equations.now)) c.args.vars.now c.loop-var.var-index c.loop-var.broken _ c.loop-var-test.false c.loop-var.invariant
