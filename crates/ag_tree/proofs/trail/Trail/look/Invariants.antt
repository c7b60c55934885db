use Rattle.ag_tree.specs.Trail.{literals}
use Rattle.ag_tree.proofs.Looking.{LooksSoFar}
use Rattle.ag_tree.proofs.trail.Trail.look.Given as goal

abbrev pub invariant-loop-lit : goal.invariant-loop-lit
invariant-loop-lit l = LooksSoFar (literals l.self.steps) l.clause l.lit-index l.last
