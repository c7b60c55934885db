use Rattle.std.proofs.Common.{◌≡◌, ◌++◌, drop, length, map}
use Rattle.ag_types.specs.Uses.{of_constant, used_by}
use Rattle.ag_types.proofs.uses.push_constant_uses.Given as goal

abbrev pub invariant-loop-constant : goal.invariant-loop-constant
invariant-loop-constant l = l.graph ++ map (used_by (length l.constants)) (map of_constant (drop l.constant-index l.constants)) ≡ l.fn.graph ++ map (used_by (length l.constants)) (map of_constant l.constants)
