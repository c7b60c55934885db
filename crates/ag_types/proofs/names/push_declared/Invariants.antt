use Rattle.std.proofs.Common.{◌≡◌, ◌++◌, drop}
use Rattle.std.specs.Prelude.{map}
use Rattle.std.specs.List.{flat_map}
use Rattle.ag_types.specs.ClauseFaults.{declared_in}
use Rattle.ag_types.proofs.names.push_declared.Given as goal

abbrev pub invariant-loop-clause : goal.invariant-loop-clause
invariant-loop-clause l = map (λ n. n.now) l.names.items ++ flat_map declared_in (drop l.clause-index l.clauses) ≡ map (λ n. n.now) l.fn.names.items ++ flat_map declared_in l.clauses
