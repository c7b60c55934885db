use Rattle.std.proofs.Common.{◌<◌, subst}
use Rattle.ag_stream.specs.declared.problem.ProblemDraft.{ProblemDraft}
use Rattle.ag_top.proofs.Tries.{free_more, owned_more}
use Rattle.ag_top.proofs.prover.free_streams.Goals as goal
use Rattle.ag_top.proofs.prover.free_streams.Goals.{then-not-has_equation+in_ok-push, else-not-has_equation}

pub loop-stream-preserved : goal.loop-stream-preserved
loop-stream-preserved c =
    let d = c.args.problem.now in
    let n = c.loop-stream.stream in
    let test = c.loop-stream-test.true in
    let value = c.draft.ensures in
    elim c.if-not-has_equation.branch [
      | then-not-has_equation+in_ok-push w ↦ rw (w.free-is, w.in_ok-push.ensures.items) (free_more d n c.loop-stream.free.items (subst (λ (x : ProblemDraft). n < x.flags) value test) c.loop-stream.invariant)
      | else-not-has_equation w ↦ rw w.free-is (owned_more d n c.loop-stream.free.items (c.has_equation.ensures w.if-not-has_equation.false) c.loop-stream.invariant)
    ]
