use Rattle.std.proofs.Common.{◌≡◌, take}
use Rattle.ag_names.specs.Placed.{types_from}
use Rattle.ag_names.proofs.placed.types.Given as goal

abbrev pub invariant-loop-at : goal.invariant-loop-at
invariant-loop-at l = l.types.items ≡ types_from l.packages 0 (take l.at l.packages)
