use Rattle.std.proofs.Common.{ℕ, ◌<◌}
use Rattle.ag_stream.specs.Work.{IsMarked}
use Rattle.ag_stream.proofs.dependence.first_waiting.Given as goal

abbrev pub invariant-loop-stream : goal.invariant-loop-stream
invariant-loop-stream l = (s : ℕ) → s < l.stream → IsMarked l.waits s → ⊥
