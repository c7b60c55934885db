use Rattle.std.proofs.Common.{◌≡◌, ◌++◌, drop, map, take}
use Rattle.std.specs.Prelude.{◌*ℤ◌}
use Rattle.ag_linear.proofs.rows.scale_hidden.Given as goal

abbrev pub invariant-loop-i : goal.invariant-loop-i
invariant-loop-i l = l.hidden.items ≡ map (λ h. l.fn.by *ℤ h) (take l.i l.fn.hidden.items) ++ drop l.i l.fn.hidden.items
