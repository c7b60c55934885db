use Rattle.std.proofs.Common.{◌≡◌, take}
use Rattle.ag_kernel.proofs.lines.copy_atoms.Given as goal

abbrev pub invariant-loop-atom : goal.invariant-loop-atom
invariant-loop-atom l = l.copy.items ≡ take l.atom-index l.atoms
