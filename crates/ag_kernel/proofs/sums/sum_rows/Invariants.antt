use Rattle.std.proofs.Common.{ℕ, take}
use Rattle.ag_kernel.specs.Rules.{parts_of}
use Rattle.ag_kernel.specs.Sums.{IsSumOf, AreMade, AreRowsIn}
use Rattle.ag_kernel.proofs.sums.sum_rows.Given as goal

abbrev pub invariant-loop-n : goal.invariant-loop-n
invariant-loop-n l = (vars : ℕ) → AreRowsIn vars l.lines → IsSumOf vars (parts_of l.lines (take l.n-index l.named)) l.sum × AreMade (parts_of l.lines (take l.n-index l.named))
