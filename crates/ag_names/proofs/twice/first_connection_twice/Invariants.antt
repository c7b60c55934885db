use Rattle.std.proofs.Common.{◌≡◌, take}
use Rattle.std.specs.Prelude.{map}
use Rattle.ag_names.specs.Twice.{simple}
use Rattle.ag_names.proofs.twice.first_connection_twice.Given as goal

abbrev pub invariant-loop-wire : goal.invariant-loop-wire
invariant-loop-wire l = l.names.items ≡ map (λ x. simple x.name) (take l.wire-index l.wire-items)
