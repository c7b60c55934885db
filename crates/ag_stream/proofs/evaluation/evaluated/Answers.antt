use Rattle.std.proofs.Common.{arith}
use Rattle.ag_stream.specs.declared.problem.Instant.{Instant}
use Rattle.ag_stream.proofs.Settling.{IsSettling, settles, evaluated_at}
use Rattle.ag_stream.proofs.evaluation.evaluated.Goals as goal

pub loop-k-preserved : goal.loop-k-preserved
loop-k-preserved c =
    rw (c.truth.ensures, c.deref.ensures.value) (settles c.args.draft.now c.requires.form c.args.order.now c.args.free.now.flags c.loop-k.flags.items c.loop-k.k-index c.flag_equation-stream.result.0 c.flag_equation-stream.result.1 c.requires.order c.loop-k.invariant (omega arith) c.flag_equation-stream.ensures.is)

pub returns : goal.returns
returns c =
    let now : Instant = record { whole = c.new.result; flags = c.from_vec.result } in
    let was : IsSettling c.args.draft.now c.args.order.now c.args.free.now.flags c.from_vec.result c.loop-k.k-index = rw c.from_vec.ensures c.loop-k.invariant in
    evaluated_at c.args.draft.now c.requires.form c.args.order.now c.args.free.now now c.loop-k.k-index c.requires.order was (omega arith) c.new.ensures
