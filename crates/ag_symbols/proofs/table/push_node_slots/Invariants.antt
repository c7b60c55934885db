use Rattle.std.proofs.Common.{◌≡◌, ℕ, List, drop}
use Rattle.std.specs.Prelude.{map}
use Rattle.ag_symbols.specs.Indexed.{first_by, found_first}
use Rattle.ag_symbols.specs.Seen.{position_from, node_name}
use Rattle.ag_symbols.proofs.table.push_node_slots.Given as goal

abbrev pub invariant-loop-node : goal.invariant-loop-node
invariant-loop-node l = record {
  counted : l.at ≡ l.node-index;
  placed : (name : List ℕ) → found_first (first_by (λ e. e.name.now) (λ e. e.at) name l.slots.items) (position_from node_name name l.at (map (λ n. n.now) (drop l.node-index l.nodes))) ≡ found_first (first_by (λ e. e.name.now) (λ e. e.at) name l.fn.slots.items) (position_from node_name name 0 (map (λ n. n.now) l.nodes));
}
