use Rattle.ag_tree.proofs.Drawing.{PassedSo}
use Rattle.ag_tree.proofs.propagation.pass.Given as goal

abbrev pub invariant-loop-number : goal.invariant-loop-number
invariant-loop-number l = PassedSo l.kernel.lines l.numbers l.fn.trail l.trail l.number-index
