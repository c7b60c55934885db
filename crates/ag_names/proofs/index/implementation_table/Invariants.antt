use Rattle.std.proofs.Common.{◌≡◌, take}
use Rattle.std.specs.Prelude.{map}
use Rattle.ag_names.specs.Keys.{entries_from, implemented_key}
use Rattle.ag_names.proofs.index.implementation_table.Given as goal

abbrev pub invariant-loop-at : goal.invariant-loop-at
invariant-loop-at l = l.entries.items ≡ entries_from 0 (map implemented_key (take l.at l.implementations))
