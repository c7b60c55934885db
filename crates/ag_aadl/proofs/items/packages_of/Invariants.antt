use Rattle.std.proofs.Common.{◌≡◌, ◌++◌, drop, map}
use Rattle.ag_aadl.specs.Meaning.{package_of, packages_of}
use Rattle.ag_aadl.proofs.items.packages_of.Given as goal

abbrev pub invariant-loop-part : goal.invariant-loop-part
invariant-loop-part l = l.packages ++ map (package_of l.bytes) (map (λ p. p.now) (drop l.part-index l.part-items)) ≡ packages_of l.bytes l.marked
