use Rattle.std.proofs.Common.{◌≡◌, ◌+◌, ◌++◌, length}
use Rattle.ag_linear.specs.RowOrder.{AreRows, are_carried}
use Rattle.ag_linear.specs.Rows.{plus_factors}
use Rattle.ag_linear.proofs.rows.merged.Given as goal

abbrev pub invariant-loop-next : goal.invariant-loop-next
invariant-loop-next l = record {
  sum : l.factors.items ++ plus_factors l.left l.right ≡ plus_factors l.fn.left l.fn.right;
  carried : are_carried (plus_factors l.fn.left l.fn.right) ≡ are_carried (plus_factors l.left l.right);
  rows : AreRows l.left l.right;
}

abbrev pub decreases-loop-next : goal.decreases-loop-next
decreases-loop-next l = length l.left + length l.right
