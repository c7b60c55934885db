use Rattle.ag_top.proofs.Tries.{IsFreeBelow}
use Rattle.ag_top.proofs.prover.free_streams.Given as goal

-- each stream so far without an equation is there
abbrev pub invariant-loop-stream : goal.invariant-loop-stream
invariant-loop-stream l = IsFreeBelow l.problem l.stream l.free.items
