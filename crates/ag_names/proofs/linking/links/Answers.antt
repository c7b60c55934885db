use Rattle.std.proofs.Common.{refl}
use Rattle.ag_names.specs.Links.{sub_links_from, wire_links_from}
use Rattle.ag_names.proofs.Linked.{flat_more}
use Rattle.ag_names.proofs.linking.links.Goals as goal

pub loop-entry-preserved : goal.loop-entry-preserved
loop-entry-preserved c = record {
  subs = rw (c.in_ok-push_sub_links.ensures, c.loop-entry.invariant.subs, flat_more (λ i. sub_links_from c.args.index.now i 0 i.body.subs) c.implementations-entry-items.result.now c.loop-entry.entry-index c.entry-item.result c.loop-entry-test.true c.entry-item.is) refl;
  wires = rw (c.in_ok-push_wire_links.ensures, c.loop-entry.invariant.wires, flat_more (λ i. wire_links_from c.args.index.now i 0 i.body.wires) c.implementations-entry-items.result.now c.loop-entry.entry-index c.entry-item.result c.loop-entry-test.true c.entry-item.is) refl;
}
