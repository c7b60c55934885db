use Rattle.std.proofs.Common.{◌≡◌, ◌<◌, List, length, get_or, ap, subst, ◌∙◌, append_assoc}
use Rattle.ag_aadl.specs.declared.packages.Wire.{Wire}
use Rattle.ag_names.specs.Placed.{Implementation}
use Rattle.ag_names.proofs.Linked.{wire_links_more}
use Rattle.ag_names.proofs.linking.push_wire_links.Goals as goal

pub loop-at-preserved : goal.loop-at-preserved
loop-at-preserved c =
    let items = c.as_slice-wire-items in
    let same : items.result.now ≡ c.args.entry.now.body.wires = items.ensures ∙ ap (λ (i : Implementation). i.body.wires) c.entry.view_is in
    let inside : c.loop-at.at < length c.args.entry.now.body.wires = subst (λ (z : List Wire). c.loop-at.at < length z) same c.loop-at-test.true in
    let is : c.wire-item.result ≡ get_or c.args.entry.now.body.wires c.loop-at.at c.wire-item.result =
    subst (λ (z : List Wire). c.wire-item.result ≡ get_or z c.loop-at.at c.wire-item.result) same c.wire-item.is in
    rw (c.in_ok-push_wire_link.ensures, c.loop-at.invariant, wire_links_more c.args.index.now c.args.entry.now c.args.entry.now.body.wires c.loop-at.at c.wire-item.result inside is, c.in_ok-component.ensures) (append_assoc c.args.links.now.items _ _)
