use Rattle.ag_print.specs.Canonical.{sub_line}
use Rattle.ag_print.proofs.Writing.{line_more}
use Rattle.ag_print.proofs.print.write_subs.Goals as goal

pub loop-sub-preserved : goal.loop-sub-preserved
loop-sub-preserved c =
    line_more sub_line c.args.subs.now c.loop-sub.sub-index c.sub-item.result _ c.loop-sub.writer c.write_sub.new.writer c.loop-sub-test.true c.sub-item.is c.loop-sub.invariant c.in_ok-write_sub.ensures
