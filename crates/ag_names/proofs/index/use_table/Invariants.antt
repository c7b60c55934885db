use Rattle.std.proofs.Common.{◌≡◌, take, ◌∷◌}
use Rattle.ag_names.specs.Keys.{rows_from}
use Rattle.ag_names.proofs.index.use_table.Given as goal

abbrev pub invariant-loop-number : goal.invariant-loop-number
invariant-loop-number l = l.entries.items ≡ rows_from (λ p. p.name ∷ p.imports) (λ i. i.text) 0 (take l.number l.packages)
