use Rattle.std.proofs.Common.{◌≡◌, ◌++◌, take, All, FitsSigned}
use Rattle.std.specs.Int.{w128}
use Rattle.ag_kernel.proofs.sums.copy_all.Given as goal

abbrev pub invariant-loop-term : goal.invariant-loop-term
invariant-loop-term l = record {
  sum : l.sum ≡ l.fn.sum ++ take l.term-index l.rest;
  fits : All (λ t. FitsSigned w128 t.factor) l.fn.sum → All (λ t. FitsSigned w128 t.factor) l.sum;
}
