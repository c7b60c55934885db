use Rattle.std.proofs.Common.{take}
use Rattle.ag_names.specs.Broken.{ConnectionBreaks}
use Rattle.ag_names.specs.Order.{IsFirst, InSome}
use Rattle.ag_names.proofs.wires.first_in_wires.Given as goal

abbrev pub invariant-loop-wire : goal.invariant-loop-wire
invariant-loop-wire l = IsFirst (InSome (take l.wire-index l.wire-items) (ConnectionBreaks l.component.all l.component.implementation)) l.found
