use Rattle.std.proofs.Common.{◌≡◌, ◌++◌, drop}
use Rattle.std.specs.Prelude.{map}
use Rattle.ag_types.proofs.names.push_vars.Given as goal

abbrev pub invariant-loop-item : goal.invariant-loop-item
invariant-loop-item l = map (λ n. n.now) l.names.items ++ map (λ v. v.name) (drop l.item-index l.vars) ≡ map (λ n. n.now) l.fn.names.items ++ map (λ v. v.name) l.vars
