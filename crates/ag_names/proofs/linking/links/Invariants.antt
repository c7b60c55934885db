use Rattle.std.proofs.Common.{◌≡◌, take}
use Rattle.std.specs.List.{flat_map}
use Rattle.ag_names.specs.Links.{sub_links_from, wire_links_from}
use Rattle.ag_names.proofs.linking.links.Given as goal

abbrev pub invariant-loop-entry : goal.invariant-loop-entry
invariant-loop-entry l = record {
  subs : l.subs.items ≡ flat_map (λ i. sub_links_from l.index i 0 i.body.subs) (take l.entry-index l.entry-items);
  wires : l.wires.items ≡ flat_map (λ i. wire_links_from l.index i 0 i.body.wires) (take l.entry-index l.entry-items);
}
