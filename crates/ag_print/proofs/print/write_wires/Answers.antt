use Rattle.ag_print.specs.Canonical.{wire_line}
use Rattle.ag_print.proofs.Writing.{line_more}
use Rattle.ag_print.proofs.print.write_wires.Goals as goal

pub loop-wire-preserved : goal.loop-wire-preserved
loop-wire-preserved c =
    line_more wire_line c.args.wires.now c.loop-wire.wire-index c.wire-item.result _ c.loop-wire.writer c.write_wire.new.writer c.loop-wire-test.true c.wire-item.is c.loop-wire.invariant c.in_ok-write_wire.ensures
