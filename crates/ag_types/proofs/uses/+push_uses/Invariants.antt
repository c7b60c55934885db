use Rattle.std.proofs.Common.{◌≡◌, ◌<◌, length, drop}
use Rattle.std.specs.List.{flat_map}
use Rattle.ag_types.specs.Uses.{used_in, with_edges}
use Rattle.ag_types.proofs.uses.+push_uses.Given as goal

abbrev pub invariant-push_argument_uses-loop-arg : goal.invariant-push_argument_uses-loop-arg
invariant-push_argument_uses-loop-arg l = record {
  some : 0 < length l.graph;
  edges : with_edges l.graph (flat_map (used_in l.sight l.constants) (drop l.arg-index l.args)) ≡ with_edges l.fn.graph (flat_map (used_in l.sight l.constants) l.args);
}
