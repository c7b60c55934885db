use Rattle.std.proofs.Common.{ℕ}
use Rattle.ag_graph.specs.Search.{IsSearch, IsSeen, steps_left}
use Rattle.ag_graph.proofs.search.Search.search_from.Given as goal

abbrev pub invariant-loop-group : goal.invariant-loop-group
invariant-loop-group l = record {
  search : IsSearch l.graph l.self;
  seen : (v : ℕ) → IsSeen l.initial.self v → IsSeen l.self v;
}

abbrev pub decreases-loop-group : goal.decreases-loop-group
decreases-loop-group l = steps_left l.self
