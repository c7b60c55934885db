use Rattle.std.proofs.Common.{◌≡◌, ◌<◌, ◌++◌, take, All, FitsSigned}
use Rattle.std.specs.Int.{w128}
use Rattle.ag_kernel.proofs.sums.copy_before.Given as goal

abbrev pub invariant-loop-n : goal.invariant-loop-n
invariant-loop-n l = record {
  sum : l.sum ≡ l.fn.sum ++ take l.n l.rest;
  before : All (λ t. t.var < l.var) (take l.n l.rest);
  fits : All (λ t. FitsSigned w128 t.factor) l.fn.sum → All (λ t. FitsSigned w128 t.factor) l.sum;
}
