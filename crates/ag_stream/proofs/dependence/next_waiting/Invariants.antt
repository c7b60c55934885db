use Rattle.std.proofs.Common.{ℕ, ◌<◌}
use Rattle.ag_stream.specs.Work.{IsAt}
use Rattle.ag_stream.proofs.dependence.next_waiting.Given as goal

abbrev pub invariant-loop-k : goal.invariant-loop-k
invariant-loop-k l = (j p : ℕ) → j < l.k → IsAt l.draft j l.stream p → ⊥
