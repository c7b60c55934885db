use Rattle.ag_stream.specs.Spreading.{IsSpreading}
use Rattle.ag_stream.proofs.Passes.{CameTo}
use Rattle.ag_stream.proofs.dependence.mark_dependents.Given as goal

abbrev pub invariant-loop-k : goal.invariant-loop-k
invariant-loop-k l = IsSpreading l.draft l.stream l.marks × CameTo l.draft l.stream l.initial.marks l.marks l.k l.came
