use Rattle.std.proofs.Common.{take}
use Rattle.ag_names.specs.Broken.{SubcomponentBreaks}
use Rattle.ag_names.specs.Order.{IsFirst, InSome}
use Rattle.ag_names.proofs.subs.first_in_subs.Given as goal

abbrev pub invariant-loop-sub : goal.invariant-loop-sub
invariant-loop-sub l = IsFirst (InSome (take l.sub-index l.sub-items) (SubcomponentBreaks l.index l.entry.owner)) l.found
