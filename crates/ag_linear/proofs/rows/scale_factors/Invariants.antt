use Rattle.std.proofs.Common.{◌≡◌, ◌++◌, drop, map, take}
use Rattle.ag_linear.specs.Rows.{times_factor}
use Rattle.ag_linear.proofs.rows.scale_factors.Given as goal

abbrev pub invariant-loop-i : goal.invariant-loop-i
invariant-loop-i l = l.factors.items ≡ map (times_factor l.fn.by) (take l.i l.fn.factors.items) ++ drop l.i l.fn.factors.items
