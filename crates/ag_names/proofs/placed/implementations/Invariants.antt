use Rattle.std.proofs.Common.{◌≡◌, take}
use Rattle.ag_names.specs.Placed.{implementations_from}
use Rattle.ag_names.proofs.placed.implementations.Given as goal

abbrev pub invariant-loop-at : goal.invariant-loop-at
invariant-loop-at l = l.implementations.items ≡ implementations_from l.packages 0 (take l.at l.packages)
