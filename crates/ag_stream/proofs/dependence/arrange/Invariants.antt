use Rattle.ag_stream.specs.Work.{IsArranging, waiting}
use Rattle.ag_stream.proofs.dependence.arrange.Given as goal

abbrev pub invariant-loop-waits : goal.invariant-loop-waits
invariant-loop-waits l = IsArranging l.draft l.order.items l.waits.items

abbrev pub decreases-loop-waits : goal.decreases-loop-waits
decreases-loop-waits l = waiting l.waits.items
