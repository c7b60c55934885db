use Rattle.std.proofs.Common.{take}
use Rattle.ag_names.specs.Broken.{TypeBreaks}
use Rattle.ag_names.specs.Order.{IsFirst, InSome}
use Rattle.ag_names.proofs.types.first_in_types.Given as goal

abbrev pub invariant-loop-entry : goal.invariant-loop-entry
invariant-loop-entry l = IsFirst (InSome (take l.entry-index l.entry-items) TypeBreaks) l.found
