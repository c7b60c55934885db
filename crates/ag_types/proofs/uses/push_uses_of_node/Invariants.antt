use Rattle.std.proofs.Common.{◌≡◌, ◌<◌, ◌++◌, ◌∷◌, [], length, drop}
use Rattle.std.specs.List.{flat_map}
use Rattle.ag_types.specs.Uses.{used_in, with_edges}
use Rattle.ag_types.proofs.uses.push_uses_of_node.Given as goal

abbrev pub invariant-loop-equation : goal.invariant-loop-equation
invariant-loop-equation l = record {
  some : 0 < length l.graph;
  edges : with_edges l.graph (flat_map (λ e. used_in l.sight l.constants e.value) (drop l.equation-index l.equation-items))
      ≡ with_edges (l.fn.graph ++ [] ∷ []) (flat_map (λ e. used_in l.sight l.constants e.value) l.equation-items);
}
