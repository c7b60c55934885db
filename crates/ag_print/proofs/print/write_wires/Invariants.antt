use Rattle.std.proofs.Common.{◌≡◌, take, map}
use Rattle.ag_print.specs.Written.{with_lines}
use Rattle.ag_print.specs.Canonical.{wire_line}
use Rattle.ag_print.proofs.print.write_wires.Given as goal

abbrev pub invariant-loop-wire : goal.invariant-loop-wire
invariant-loop-wire l = l.writer ≡ with_lines l.initial.writer (map wire_line (take l.wire-index l.wires))
