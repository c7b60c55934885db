use Rattle.std.proofs.Common.{take}
use Rattle.ag_names.specs.Order.{IsFirst, InSome}
use Rattle.ag_names.specs.Passes.{DeclarationsBreak}
use Rattle.ag_names.proofs.broken.first_in_packages.Given as goal

abbrev pub invariant-loop-package : goal.invariant-loop-package
invariant-loop-package l = IsFirst (InSome (take l.package-index l.package-items) (DeclarationsBreak l.index)) l.found
