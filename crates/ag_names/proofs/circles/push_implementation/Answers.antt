use Rattle.std.proofs.Common.{◌≡◌, ◌<◌, List, length, get_or, ap, subst, ◌∙◌}
use Rattle.ag_aadl.specs.declared.packages.Sub.{Sub}
use Rattle.ag_names.specs.Graph.{number_by}
use Rattle.ag_names.specs.Placed.{Implementation}
use Rattle.ag_names.proofs.Containment.{targets_more, some_vertex}
use Rattle.ag_names.proofs.circles.push_implementation.Goals as goal

pub push_sub-requires : goal.push_sub-requires
push_sub-requires c = rw c.loop-sub.invariant (some_vertex c.args.graph.now _)

pub loop-sub-preserved : goal.loop-sub-preserved
loop-sub-preserved c =
    let items = c.as_slice-sub-items in
    let same : items.result.now ≡ c.args.entry.now.body.subs = items.ensures ∙ ap (λ (i : Implementation). i.body.subs) c.entry.view_is in
    let inside : c.loop-sub.sub-index < length c.args.entry.now.body.subs = subst (λ (z : List Sub). c.loop-sub.sub-index < length z) same c.loop-sub-test.true in
    let is : c.sub-item.result ≡ get_or c.args.entry.now.body.subs c.loop-sub.sub-index c.sub-item.result =
    subst (λ (z : List Sub). c.sub-item.result ≡ get_or z c.loop-sub.sub-index c.sub-item.result) same c.sub-item.is in
    rw (c.in_ok-push_sub.ensures, c.loop-sub.invariant)
    (targets_more (λ s. number_by c.args.index.now c.args.entry.now.owner s.category s.of) c.args.graph.now c.args.entry.now.body.subs c.loop-sub.sub-index c.sub-item.result inside is)
