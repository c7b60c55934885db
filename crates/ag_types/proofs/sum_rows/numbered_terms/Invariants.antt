use Rattle.std.proofs.Common.{◌≡◌, map, take}
use Rattle.ag_symbols.specs.Seen.{names_seen}
use Rattle.ag_types.specs.SumRows.{numbered}
use Rattle.ag_types.proofs.sum_rows.numbered_terms.Given as goal

abbrev pub invariant-loop-factor : goal.invariant-loop-factor
invariant-loop-factor l = l.terms.items ≡ map (numbered (names_seen l.scope)) (take l.factor-index l.factors)
