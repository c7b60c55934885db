use Rattle.std.proofs.Common.{◌≡◌, ◌++◌, drop}
use Rattle.std.specs.Prelude.{map}
use Rattle.std.specs.List.{filter}
use Rattle.ag_symbols.specs.Seen.{is_own}
use Rattle.ag_symbols.proofs.gather.push_own.Given as goal

abbrev pub invariant-loop-port : goal.invariant-loop-port
invariant-loop-port l = map (λ v. v.now) l.gathered.items ++ filter is_own (drop l.port-index l.ports) ≡ map (λ v. v.now) l.fn.gathered.items ++ filter is_own l.ports
