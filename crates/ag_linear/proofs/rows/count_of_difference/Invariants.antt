use Rattle.std.proofs.Common.{◌≡◌, ◌+◌, ◌≤◌, length, map}
use Rattle.std.specs.Prelude.{negsuc}
use Rattle.std.specs.List.{list_all}
use Rattle.ag_linear.specs.RowOrder.{AreRows}
use Rattle.ag_linear.specs.Rows.{is_factor, plus_factors, times_factor}
use Rattle.ag_linear.proofs.rows.count_of_difference.Given as goal

abbrev pub invariant-loop-next : goal.invariant-loop-next
invariant-loop-next l = record {
  small : list_all (λ f. is_factor f.factor) (plus_factors l.fn.left (map (times_factor (negsuc 0)) l.fn.right)) ≡ list_all (λ f. is_factor f.factor) (plus_factors l.left (map (times_factor (negsuc 0)) l.right));
  count : length (plus_factors l.fn.left (map (times_factor (negsuc 0)) l.fn.right)) ≡ l.count + length (plus_factors l.left (map (times_factor (negsuc 0)) l.right));
  bound : l.count + (length l.left + length l.right) ≤ length l.fn.left + length l.fn.right;
  rows : AreRows l.left l.right;
}

abbrev pub decreases-loop-next : goal.decreases-loop-next
decreases-loop-next l = length l.left + length l.right
