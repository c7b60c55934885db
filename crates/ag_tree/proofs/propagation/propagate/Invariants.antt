use Rattle.std.proofs.Common.{◌-◌}
use Rattle.ag_tree.proofs.Drawing.{PropagatedSo}
use Rattle.ag_tree.proofs.propagation.propagate.Given as goal

abbrev pub invariant-loop-head : goal.invariant-loop-head
invariant-loop-head l = PropagatedSo l.kernel.lines l.occurrences l.from l.fn.trail l.trail l.head

abbrev pub decreases-loop-head : goal.decreases-loop-head
decreases-loop-head l = l.trail.atoms - l.head
