use Rattle.std.proofs.Common.{◌≡◌, drop}
use Rattle.ag_kernel.specs.Sets.{has}
use Rattle.ag_kernel.proofs.resolve.contains.Given as goal

abbrev pub invariant-loop-other : goal.invariant-loop-other
invariant-loop-other l = has (drop l.other-index l.lits) l.lit ≡ has l.lits l.lit
