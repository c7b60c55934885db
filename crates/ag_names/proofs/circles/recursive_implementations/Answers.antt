use Rattle.ag_names.proofs.Containment.{told_of_all}
use Rattle.ag_names.proofs.circles.recursive_implementations.Goals as goal

pub returns : goal.returns
returns c = told_of_all c.args.index.now _ _ _ c.in_ok-graph.ensures.same c.in_ok-on_circle.ensures
