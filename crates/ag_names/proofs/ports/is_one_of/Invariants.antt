use Rattle.std.proofs.Common.{◌≡◌, false, take}
use Rattle.std.specs.List.{list_any}
use Rattle.ag_terms.specs.Names.{same}
use Rattle.ag_names.proofs.ports.is_one_of.Given as goal

abbrev pub invariant-loop-one : goal.invariant-loop-one
invariant-loop-one l = list_any (λ t. same l.name t.now) (take l.one-index l.names) ≡ false
