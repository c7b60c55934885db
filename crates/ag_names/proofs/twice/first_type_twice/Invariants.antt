use Rattle.std.proofs.Common.{◌≡◌, take}
use Rattle.ag_names.specs.Twice.{type_names}
use Rattle.ag_names.proofs.twice.first_type_twice.Given as goal

abbrev pub invariant-loop-item : goal.invariant-loop-item
invariant-loop-item l = l.names.items ≡ type_names (take l.item-index l.items)
