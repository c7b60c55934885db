use Rattle.std.proofs.Common.{◌≡◌, ◌++◌, take}
use Rattle.ag_names.specs.Links.{sub_links_from}
use Rattle.ag_names.proofs.linking.push_sub_links.Given as goal

abbrev pub invariant-loop-at : goal.invariant-loop-at
invariant-loop-at l = l.links.items ≡ l.fn.links.items ++ sub_links_from l.index l.entry 0 (take l.at l.entry.body.subs)
