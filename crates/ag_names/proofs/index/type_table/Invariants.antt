use Rattle.std.proofs.Common.{◌≡◌, take}
use Rattle.std.specs.Prelude.{map}
use Rattle.ag_names.specs.Keys.{entries_from, declared_key}
use Rattle.ag_names.proofs.index.type_table.Given as goal

abbrev pub invariant-loop-at : goal.invariant-loop-at
invariant-loop-at l = l.entries.items ≡ entries_from 0 (map declared_key (take l.at l.types))
