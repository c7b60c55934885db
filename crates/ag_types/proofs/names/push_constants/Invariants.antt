use Rattle.std.proofs.Common.{◌≡◌, ◌++◌, drop}
use Rattle.std.specs.Prelude.{map}
use Rattle.ag_types.proofs.names.push_constants.Given as goal

abbrev pub invariant-loop-constant : goal.invariant-loop-constant
invariant-loop-constant l = map (λ n. n.now) l.names.items ++ map (λ v. v.name) (map (λ v. v.now) (drop l.constant-index l.constants)) ≡ map (λ n. n.now) l.fn.names.items ++ map (λ v. v.name) (map (λ v. v.now) l.constants)
