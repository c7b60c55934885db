use Rattle.std.proofs.Common.{◌≡◌, drop}
use Rattle.ag_kernel.specs.Units.{left_of}
use Rattle.ag_kernel.specs.Steps.{left_as}
use Rattle.ag_kernel.proofs.Walks.{left_after}
use Rattle.ag_kernel.proofs.units.what_is_left.Given as goal

abbrev pub invariant-loop-lit : goal.invariant-loop-lit
invariant-loop-lit l = left_after l.one (left_of l.list.lits (drop l.lit-index l.line)) ≡ left_as (left_of l.list.lits l.line)
