use Rattle.std.proofs.Common.{◌≡◌, take}
use Rattle.std.specs.Prelude.{map}
use Rattle.ag_names.specs.Twice.{simple}
use Rattle.ag_names.proofs.twice.first_port_twice.Given as goal

abbrev pub invariant-loop-port : goal.invariant-loop-port
invariant-loop-port l = l.names.items ≡ map (λ x. simple x.name) (take l.port-index l.port-items)
