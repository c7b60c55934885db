use Rattle.std.proofs.Common.{◌≡◌, ◌++◌, drop}
use Rattle.std.specs.Prelude.{map}
use Rattle.ag_types.proofs.names.push_nodes.Given as goal

abbrev pub invariant-loop-node : goal.invariant-loop-node
invariant-loop-node l = map (λ n. n.now) l.names.items ++ map (λ n. n.name) (map (λ n. n.now) (drop l.node-index l.nodes)) ≡ map (λ n. n.now) l.fn.names.items ++ map (λ n. n.name) (map (λ n. n.now) l.nodes)
