use Rattle.std.proofs.Common.{subst, arith, List}
use Rattle.std.specs.List.{AllZip}
use Rattle.std.proofs.lemmas.List.{take_all}
use Rattle.std.proofs.lemmas.List.Elements.{all_zip_more}
use Rattle.ag_stream.specs.declared.problem.Instant.{Instant}
use Rattle.ag_stream.specs.declared.problem.Run.{Run}
use Rattle.ag_stream.specs.Work.{IsPlainForm, IsEvaluationAt}
use Rattle.ag_stream.proofs.Settling.{evaluation_from, one_run}
use Rattle.ag_stream.proofs.evaluation.eval.Goals as goal

pub loop-instant-preserved : goal.loop-instant-preserved
loop-instant-preserved c =
    let R : Instant → Instant → Type 0 = IsEvaluationAt c.draft-draft.result.now in
    rw c.in_ok-push.ensures.ok (all_zip_more R c.as_slice-instant-items.result.now c.loop-instant.instants c.loop-instant.instant-index c.instant-item.result c.in_ok-evaluated.field-0 (omega arith) c.instant-item.is c.loop-instant.invariant c.in_ok-evaluated.ensures)

pub returns-clause-run : goal.returns-clause-run
returns-clause-run c =
    let form : IsPlainForm c.args.problem.now = record { formed = c.know.ensures.formed; plain = c.requires.plain } in
    let run : Run = record { instants = c.loop-instant.instants } in
    let Z : List Instant → Type 0 = λ xs. AllZip (IsEvaluationAt c.draft-draft.result.now) xs c.loop-instant.instants in
    let all : AllZip (IsEvaluationAt c.draft-draft.result.now) c.as_slice-instant-items.result.now c.loop-instant.instants = subst Z (take_all c.loop-instant.instant-index c.as_slice-instant-items.result.now (omega arith)) c.loop-instant.invariant in
    evaluation_from c.args.problem.now form c.args.free.now run c.requires.fits.some (rw (c.draft-draft.ensures, c.as_slice-instant-items.ensures) at all)

pub returns-clause-only : goal.returns-clause-only
returns-clause-only c =
    let form : IsPlainForm c.args.problem.now = record { formed = c.know.ensures.formed; plain = c.requires.plain } in
    let run : Run = record { instants = c.loop-instant.instants } in
    let Z : List Instant → Type 0 = λ xs. AllZip (IsEvaluationAt c.draft-draft.result.now) xs c.loop-instant.instants in
    let all : AllZip (IsEvaluationAt c.draft-draft.result.now) c.as_slice-instant-items.result.now c.loop-instant.instants = subst Z (take_all c.loop-instant.instant-index c.as_slice-instant-items.result.now (omega arith)) c.loop-instant.invariant in
    one_run c.args.problem.now form c.order-order.result.now c.order-order.ensures c.args.free.now run (rw (c.draft-draft.ensures, c.as_slice-instant-items.ensures) at all)
