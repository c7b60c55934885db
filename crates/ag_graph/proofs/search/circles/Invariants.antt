use Rattle.std.proofs.Common.{◌≡◌, ◌<◌, ℕ, []}
use Rattle.ag_graph.specs.Search.{IsSearch, IsSeen}
use Rattle.ag_graph.proofs.search.circles.Given as goal

abbrev pub invariant-loop-vertex : goal.invariant-loop-vertex
invariant-loop-vertex l = record {
  search : IsSearch l.graph l.search;
  groups : l.search.groups.items ≡ [];
  seen : (v : ℕ) → v < l.vertex → IsSeen l.search v;
}
