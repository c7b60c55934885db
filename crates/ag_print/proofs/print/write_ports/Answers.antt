use Rattle.ag_print.specs.Canonical.{port_line}
use Rattle.ag_print.proofs.Writing.{line_more}
use Rattle.ag_print.proofs.print.write_ports.Goals as goal

pub loop-port-preserved : goal.loop-port-preserved
loop-port-preserved c =
    line_more port_line c.args.ports.now c.loop-port.port-index c.port-item.result _ c.loop-port.writer c.write_port.new.writer c.loop-port-test.true c.port-item.is c.loop-port.invariant c.in_ok-write_port.ensures
