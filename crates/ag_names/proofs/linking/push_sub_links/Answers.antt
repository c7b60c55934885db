use Rattle.std.proofs.Common.{◌≡◌, ◌<◌, List, length, get_or, ap, subst, ◌∙◌, append_assoc}
use Rattle.ag_aadl.specs.declared.packages.Sub.{Sub}
use Rattle.ag_names.specs.Placed.{Implementation}
use Rattle.ag_names.proofs.Linked.{sub_links_more}
use Rattle.ag_names.proofs.linking.push_sub_links.Goals as goal

pub loop-at-preserved : goal.loop-at-preserved
loop-at-preserved c =
    let items = c.as_slice-sub-items in
    let same : items.result.now ≡ c.args.entry.now.body.subs = items.ensures ∙ ap (λ (i : Implementation). i.body.subs) c.entry.view_is in
    let inside : c.loop-at.at < length c.args.entry.now.body.subs = subst (λ (z : List Sub). c.loop-at.at < length z) same c.loop-at-test.true in
    let is : c.sub-item.result ≡ get_or c.args.entry.now.body.subs c.loop-at.at c.sub-item.result =
    subst (λ (z : List Sub). c.sub-item.result ≡ get_or z c.loop-at.at c.sub-item.result) same c.sub-item.is in
    rw (c.in_ok-push.ensures.items, c.loop-at.invariant, sub_links_more c.args.index.now c.args.entry.now c.args.entry.now.body.subs c.loop-at.at c.sub-item.result inside is, c.in_ok-sub_link.ensures) (append_assoc c.args.links.now.items _ _)
