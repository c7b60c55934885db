use Rattle.ag_stream.proofs.Passes.{IsPlacing}
use Rattle.ag_stream.proofs.dependence.place_ready.Given as goal

abbrev pub invariant-loop-k : goal.invariant-loop-k
invariant-loop-k l = IsPlacing l.draft l.initial.waits.items l.order.items l.waits.items l.k l.moved
