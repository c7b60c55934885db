use Rattle.std.proofs.Common.{◌≡◌, take}
use Rattle.std.specs.Prelude.{map}
use Rattle.ag_names.specs.Keys.{entries_from, name_key}
use Rattle.ag_names.proofs.ends.sub_table.Given as goal

abbrev pub invariant-loop-at : goal.invariant-loop-at
invariant-loop-at l = l.entries.items ≡ entries_from 0 (map (λ s. name_key 0 s.name.text) (take l.at l.body.subs))
