use Rattle.ag_types.proofs.Evaluating.{AreEvaluated}
use Rattle.ag_types.proofs.constants.values.Given as goal

abbrev pub invariant-loop-vertex : goal.invariant-loop-vertex
invariant-loop-vertex g l = AreEvaluated g.seen l.circles.order l.vertex-index l.values.items
