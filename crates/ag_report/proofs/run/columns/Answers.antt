use Rattle.std.proofs.Common.{◌+◌, ◌++◌, ◌∷◌, [], ap, ◌∙◌, arith}
use Rattle.ag_report.specs.Texts.{column_of}
use Rattle.ag_report.proofs.Steps.{map_more}
use Rattle.ag_report.proofs.run.columns.Goals as goal

pub loop-index-preserved : goal.loop-index-preserved
loop-index-preserved c =
    map_more (column_of c.args.ports) 1 (c.loop-index.index + 1) c.args.instants.now c.loop-index.index c.index-instants-index.result _ _ _ c.loop-index-test.true (omega arith) c.index-instants-index.is c.loop-index.invariant
    (c.in_ok-push-2.ensures.ok ∙ ap (λ x. c.loop-index.columns ++ x ∷ []) c.in_ok-column-2.ensures)
