use Rattle.ag_stream.proofs.Ordered.{arranged}
use Rattle.ag_stream.proofs.dependence.plan_of.Goals as goal

pub on_cycle-requires-clause-stuck : goal.on_cycle-requires-clause-stuck
on_cycle-requires-clause-stuck c = rw c.deref-in-Some.ensures.value c.in_ok-order.ensures.stuck

pub returns-in-None : goal.returns-in-None
returns-in-None c = arranged c.args.draft.now c.requires.form c.in_ok-order.order.items c.in_ok-order.waits.items c.in_ok-order.ensures.arranging (rw c.deref.ensures.value at c.in-None.ensures)
