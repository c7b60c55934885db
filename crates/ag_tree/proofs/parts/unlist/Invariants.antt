use Rattle.std.proofs.Common.{length}
use Rattle.ag_tree.proofs.Covering.{UnlistsSo}
use Rattle.ag_tree.proofs.parts.unlist.Given as goal

abbrev pub invariant-loop-number : goal.invariant-loop-number
invariant-loop-number l = UnlistsSo l.kernel.lines l.clause l.fn.occurrences l.occurrences l.fn.numbers.items l.numbers.items

abbrev pub decreases-loop-number : goal.decreases-loop-number
decreases-loop-number l = length l.numbers.items
