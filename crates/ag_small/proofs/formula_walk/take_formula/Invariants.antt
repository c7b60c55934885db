use Rattle.std.proofs.Common.{◌≤◌, ◌-◌, length}
use Rattle.ag_small.proofs.formula_walk.take_formula.Given as goal

abbrev pub invariant-loop-turn : goal.invariant-loop-turn
invariant-loop-turn l = (l.at ≤ l.next) × (l.next ≤ length l.bytes)

abbrev pub decreases-loop-turn : goal.decreases-loop-turn
decreases-loop-turn l = length l.bytes - l.next
