use Rattle.ag_types.proofs.Claiming.{outputs_more, outputs_end}
use Rattle.ag_types.proofs.claims.output_mismatches.Goals as goal

pub loop-var-preserved : goal.loop-var-preserved
loop-var-preserved c = rw (c.either-broken.ensures, c.first_output.ensures, c.behind_first-left.ensures)
    (outputs_more c.args.vars.now c.loop-var.left.now c.args.place c.loop-var.var-index c.var-item.result c.loop-var.broken _ c.loop-var-test.true c.var-item.is c.loop-var.invariant)

pub returns : goal.returns
returns c = outputs_end c.args.vars.now c.loop-var.left.now c.args.place c.loop-var.var-index c.loop-var.broken _ c.loop-var-test.false c.loop-var.invariant
