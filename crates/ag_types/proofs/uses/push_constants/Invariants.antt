use Rattle.std.proofs.Common.{◌≡◌, ◌++◌, drop}
use Rattle.std.specs.List.{flat_map}
use Rattle.ag_types.specs.Uses.{constant_in}
use Rattle.ag_types.proofs.uses.push_constants.Given as goal

abbrev pub invariant-loop-clause : goal.invariant-loop-clause
invariant-loop-clause l = l.constants.items ++ flat_map (constant_in l.site) (drop l.clause-index l.clauses) ≡ l.fn.constants.items ++ flat_map (constant_in l.site) l.clauses
