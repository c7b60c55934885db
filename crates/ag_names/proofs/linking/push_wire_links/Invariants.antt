use Rattle.std.proofs.Common.{◌≡◌, ◌++◌, take}
use Rattle.ag_names.specs.Links.{wire_links_from}
use Rattle.ag_names.proofs.linking.push_wire_links.Given as goal

abbrev pub invariant-loop-at : goal.invariant-loop-at
invariant-loop-at l = l.links.items ≡ l.fn.links.items ++ wire_links_from l.fn.index l.fn.entry 0 (take l.at l.fn.entry.body.wires)
