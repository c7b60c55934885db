use Rattle.std.proofs.Common.{◌<◌, ◌-◌, ℕ, take, ap, ◌∙◌}
use Rattle.ag_graph.specs.declared.search.Group.{Group}
use Rattle.ag_graph.proofs.Paths.{off_more}
use Rattle.ag_graph.proofs.search.join_from.Goals as goal

pub loop-group-preserved : goal.loop-group-preserved
loop-group-preserved c =
    let groups = c.loop-group.groups in
    let off = c.loop-group.invariant in
    let last = c.in-Some.ensures.item.3 in
    let list = c.deref.ensures.value in
    off_more (λ (g : Group). c.args.place < g.first) c.args.groups.now.items groups.items c.pop.new.self.items off.0 c.in-Some.group.now off.1
    (c.pop.ensures.rest ∙ ap (λ (n : ℕ). take (n - 1) groups.items) groups.ok.0) (rw list at last.0) ((rw list at last.1) c.in-Some.group.now) c.if-group-place.false off.2
