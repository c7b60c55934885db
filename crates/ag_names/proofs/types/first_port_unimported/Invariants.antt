use Rattle.std.proofs.Common.{take}
use Rattle.ag_names.specs.Broken.{PortBreaks}
use Rattle.ag_names.specs.Order.{IsFirst, InSome}
use Rattle.ag_names.proofs.types.first_port_unimported.Given as goal

abbrev pub invariant-loop-port : goal.invariant-loop-port
invariant-loop-port l = IsFirst (InSome (take l.port-index l.port-items) (PortBreaks l.entry)) l.found
