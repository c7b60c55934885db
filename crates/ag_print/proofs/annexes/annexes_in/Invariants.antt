use Rattle.std.proofs.Common.{◌≡◌, take}
use Rattle.std.specs.List.{flat_map}
use Rattle.ag_print.specs.Annexes.{annexes_of_package}
use Rattle.ag_print.proofs.annexes.annexes_in.Given as goal

abbrev pub invariant-loop-package : goal.invariant-loop-package
invariant-loop-package l = l.annexes ≡ flat_map annexes_of_package (take l.package-index l.packages)
