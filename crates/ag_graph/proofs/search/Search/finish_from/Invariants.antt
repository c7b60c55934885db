use Rattle.std.proofs.Common.{◌≡◌, ◌-◌, ◌++◌, take, drop}
use Rattle.ag_graph.specs.Search.{AreClosed}
use Rattle.ag_graph.proofs.search.Search.finish_from.Given as goal

abbrev pub invariant-loop-place : goal.invariant-loop-place
invariant-loop-place l = record {
  closed : AreClosed l.first l.place l.on_circle l.fn.self l.self;
  order : l.self.order.items ≡ l.fn.self.order.items ++ take (l.place - l.first) (drop l.first l.fn.self.path.items);
}
