use Rattle.std.proofs.Common.{◌≡◌, take}
use Rattle.std.specs.Prelude.{map}
use Rattle.ag_names.specs.Twice.{simple}
use Rattle.ag_names.proofs.twice.first_subcomponent_twice.Given as goal

abbrev pub invariant-loop-sub : goal.invariant-loop-sub
invariant-loop-sub l = l.names.items ≡ map (λ x. simple x.name) (take l.sub-index l.sub-items)
