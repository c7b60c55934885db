use Rattle.std.proofs.Common.{◌≡◌, ◌++◌, drop, map}
use Rattle.std.specs.List.{flat_map}
use Rattle.ag_types.specs.Uses.{of_node, used_by}
use Rattle.ag_types.proofs.uses.push_node_uses.Given as goal

abbrev pub invariant-loop-clause : goal.invariant-loop-clause
invariant-loop-clause l = l.graph ++ map (used_by l.constants) (flat_map (of_node l.site) (drop l.clause-index l.clauses)) ≡ l.fn.graph ++ map (used_by l.constants) (flat_map (of_node l.site) l.clauses)
