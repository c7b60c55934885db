use Rattle.std.proofs.Common.{◌∙◌}
use Rattle.std.proofs.lemmas.List.{length-set}
use Rattle.ag_stream.proofs.Passes.{sees_on}
use Rattle.ag_stream.proofs.dependence.on_cycle.Goals as goal

pub loop-seen-preserved : goal.loop-seen-preserved
loop-seen-preserved c = (
  length-set _ _ _ ∙ c.loop-seen.invariant.0,
  c.next_waiting-stream.ensures.waits,
  sees_on c.args.draft.now c.loop-seen.stream c.next_waiting-stream.result c.loop-seen.seen.items c.loop-seen.invariant.2 c.next_waiting-stream.ensures.depends,
)
