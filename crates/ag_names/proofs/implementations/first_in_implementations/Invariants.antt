use Rattle.std.proofs.Common.{take}
use Rattle.ag_names.specs.Broken.{ImplementationBreaks}
use Rattle.ag_names.specs.Order.{IsFirst, InSome}
use Rattle.ag_names.proofs.implementations.first_in_implementations.Given as goal

abbrev pub invariant-loop-entry : goal.invariant-loop-entry
invariant-loop-entry l = IsFirst (InSome (take l.entry-index l.entry-items) (ImplementationBreaks l.index)) l.found
