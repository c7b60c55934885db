use Rattle.ag_stream.specs.Spreading.{IsSpreading, bare}
use Rattle.ag_stream.proofs.dependence.depends_on_itself.Given as goal

abbrev pub invariant-loop-marks : goal.invariant-loop-marks
invariant-loop-marks l = IsSpreading l.draft l.stream l.marks.items

abbrev pub decreases-loop-marks : goal.decreases-loop-marks
decreases-loop-marks l = bare l.marks.items
