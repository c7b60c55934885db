use Rattle.std.proofs.Common.{take}
use Rattle.std.specs.List.{AllZip}
use Rattle.ag_stream.specs.Work.{IsEvaluationAt}
use Rattle.ag_stream.proofs.evaluation.eval.Given as goal

abbrev pub invariant-loop-instant : goal.invariant-loop-instant
invariant-loop-instant l = AllZip (IsEvaluationAt l.draft) (take l.instant-index l.instant-items) l.instants
