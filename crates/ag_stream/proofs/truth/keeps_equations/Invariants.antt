use Rattle.std.proofs.Common.{ℕ, ◌<◌}
use Rattle.ag_stream.proofs.Equations.{KeptAt}
use Rattle.ag_stream.proofs.truth.keeps_equations.Given as goal

abbrev pub invariant-loop-k : goal.invariant-loop-k
invariant-loop-k l = (j : ℕ) → j < l.k → KeptAt l.draft l.flags j
