use Rattle.std.proofs.Common.{◌≡◌, ℕ, take}
use Rattle.std.specs.BTreeSet.{contains}
use Rattle.std.specs.Ordering.{nat_cmp}
use Rattle.ag_names.specs.Placed.{is_set_aside}
use Rattle.ag_names.proofs.placed.files_set_aside.Given as goal

abbrev pub invariant-loop-package : goal.invariant-loop-package
invariant-loop-package l = (file : ℕ) → contains nat_cmp l.files file ≡ is_set_aside (take l.package-index l.packages) file
