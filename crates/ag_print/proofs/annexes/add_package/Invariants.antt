use Rattle.std.proofs.Common.{◌≡◌, ◌++◌, take}
use Rattle.std.specs.List.{flat_map}
use Rattle.ag_print.specs.Annexes.{annexes_of_item}
use Rattle.ag_print.proofs.annexes.add_package.Given as goal

abbrev pub invariant-loop-item : goal.invariant-loop-item
invariant-loop-item l = l.annexes ≡ l.initial.annexes ++ flat_map annexes_of_item (take l.item-index l.item-items)
