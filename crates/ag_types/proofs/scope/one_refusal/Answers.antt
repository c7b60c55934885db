use Rattle.ag_types.proofs.OneRefusal as refusals
use Rattle.ag_types.proofs.scope.one_refusal.Goals as goal

pub returns : goal.returns
returns g c = record {
  one = refusals.one_refusal c.refusals_are_ordered.ensures.total g.seen c.args._circles.now.on_circle c.args._circles.now.order c.requires;
  not_both = refusals.not_both g.seen c.args._circles.now.on_circle c.args._circles.now.order c.requires;
}
