use Rattle.ag_stream.proofs.Settling.{IsSettling}
use Rattle.ag_stream.proofs.evaluation.evaluated.Given as goal

abbrev pub invariant-loop-k : goal.invariant-loop-k
invariant-loop-k l = IsSettling l.draft l.order l.free.flags l.flags.items l.k-index
