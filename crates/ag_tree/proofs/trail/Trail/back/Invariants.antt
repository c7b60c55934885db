use Rattle.std.proofs.Common.{length}
use Rattle.ag_tree.proofs.Backing.{IsTakenBack}
use Rattle.ag_tree.proofs.trail.Trail.back.Given as goal

abbrev pub invariant-loop-step : goal.invariant-loop-step
invariant-loop-step l = IsTakenBack l.fn.self l.self

abbrev pub decreases-loop-step : goal.decreases-loop-step
decreases-loop-step l = length l.self.steps
