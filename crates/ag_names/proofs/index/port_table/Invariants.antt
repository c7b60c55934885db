use Rattle.std.proofs.Common.{◌≡◌, take}
use Rattle.ag_names.specs.Keys.{rows_from}
use Rattle.ag_names.proofs.index.port_table.Given as goal

abbrev pub invariant-loop-number : goal.invariant-loop-number
invariant-loop-number l = l.entries.items ≡ rows_from (λ t. t.frame.ports) (λ p. p.name.text) 0 (take l.number l.types)
