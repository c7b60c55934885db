use Rattle.std.proofs.Common.{◌≡◌, take, map}
use Rattle.ag_print.specs.Written.{with_lines}
use Rattle.ag_print.specs.Canonical.{port_line}
use Rattle.ag_print.proofs.print.write_ports.Given as goal

abbrev pub invariant-loop-port : goal.invariant-loop-port
invariant-loop-port l = l.writer ≡ with_lines l.initial.writer (map port_line (take l.port-index l.ports))
