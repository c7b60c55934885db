use Rattle.std.proofs.Common.{◌≡◌, take, ◌++◌, ◌+◌, ◌∷◌}
use Rattle.std.specs.Prelude.{map}
use Rattle.ag_names.specs.Keys.{entries_from, name_key}
use Rattle.ag_names.proofs.index.push_uses.Given as goal

abbrev pub invariant-loop-at : goal.invariant-loop-at
invariant-loop-at l = l.entries.items ≡ l.fn.entries.items ++ entries_from 0 (map (λ i. name_key l.number i.text) (take (l.at + 1) (l.package.name ∷ l.package.imports)))
