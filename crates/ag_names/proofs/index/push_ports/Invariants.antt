use Rattle.std.proofs.Common.{◌≡◌, take, ◌++◌}
use Rattle.std.specs.Prelude.{map}
use Rattle.ag_names.specs.Keys.{entries_from, name_key}
use Rattle.ag_names.proofs.index.push_ports.Given as goal

abbrev pub invariant-loop-at : goal.invariant-loop-at
invariant-loop-at l = l.entries.items ≡ l.fn.entries.items ++ entries_from 0 (map (λ p. name_key l.number p.name.text) (take l.at l.entry.frame.ports))
