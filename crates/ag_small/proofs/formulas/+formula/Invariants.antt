use Rattle.std.proofs.Common.{◌≡◌, ◌+◌, ◌*◌, ◌≤◌}
use Rattle.ag_small.specs.Reading.{counted, below, and_rest_with, conjunction_with, or_rest_with, disjunction_with}
use Rattle.ag_small.proofs.formulas.+formula.Given as goal

abbrev pub decreases-unary : goal.decreases-unary
decreases-unary l = 4 * l.levels

abbrev pub decreases-conjunction : goal.decreases-conjunction
decreases-conjunction l = 4 * l.levels + 1

abbrev pub decreases-disjunction : goal.decreases-disjunction
decreases-disjunction l = 4 * l.levels + 2

abbrev pub decreases-expression : goal.decreases-expression
decreases-expression l = 4 * l.levels + 3

abbrev pub invariant-conjunction-loop-next : goal.invariant-conjunction-loop-next
invariant-conjunction-loop-next l =
    (and_rest_with (below l.levels) (counted l.left) l.rest ≡ conjunction_with (below l.fn.levels) l.bytes) × (l.levels ≤ l.fn.levels)

abbrev pub decreases-conjunction-loop-next : goal.decreases-conjunction-loop-next
decreases-conjunction-loop-next l = l.levels

abbrev pub invariant-disjunction-loop-next : goal.invariant-disjunction-loop-next
invariant-disjunction-loop-next l =
    (or_rest_with (below l.levels) (counted l.left) l.rest ≡ disjunction_with (below l.fn.levels) l.bytes) × (l.levels ≤ l.fn.levels)

abbrev pub decreases-disjunction-loop-next : goal.decreases-disjunction-loop-next
decreases-disjunction-loop-next l = l.levels
