use Rattle.std.proofs.Common.{◌≡◌, take}
use Rattle.std.specs.Prelude.{map}
use Rattle.ag_names.specs.Twice.{simple}
use Rattle.ag_names.proofs.twice.first_package_twice.Given as goal

abbrev pub invariant-loop-package : goal.invariant-loop-package
invariant-loop-package l = l.names.items ≡ map (λ x. simple x.name) (take l.package-index l.packages)
