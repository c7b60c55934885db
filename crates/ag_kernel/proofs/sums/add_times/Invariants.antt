use Rattle.ag_kernel.proofs.Merging.{IsAdding}
use Rattle.ag_kernel.proofs.sums.add_times.Given as goal

abbrev pub invariant-loop-term : goal.invariant-loop-term
invariant-loop-term l = IsAdding l.left l.right l.by l.term-index l.sum l.rest
