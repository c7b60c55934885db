use Rattle.std.proofs.Common.{◌+◌, ap}
use Rattle.ag_symbols.specs.Seen.{node_name}
use Rattle.ag_symbols.proofs.Placing.{placed_more, placed_end}
use Rattle.ag_symbols.proofs.table.push_node_slots.Goals as goal

pub loop-node-preserved : goal.loop-node-preserved
loop-node-preserved c = record {
  counted = ap (λ n. n + 1) c.loop-node.invariant.counted;
  placed = λ name. rw c.in_ok-push.ensures.items
      (placed_more (λ e. e.name.now) (λ e. e.at) node_name (λ n. n.now) c.loop-node.slots.items (record { name = c.as_bytes-name.result; at = c.loop-node.at }) c.args.nodes.now c.loop-node.node-index c.node-item.result name _ c.loop-node-test.true c.node-item.is c.as_bytes-name.ensures (c.loop-node.invariant.placed name));
}

pub returns : goal.returns
returns c = λ name. placed_end node_name (λ n. n.now) _ _ c.args.nodes.now c.loop-node.node-index c.loop-node.at name c.loop-node-test.false (c.loop-node.invariant.placed name)
