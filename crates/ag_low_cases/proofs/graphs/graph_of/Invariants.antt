use Rattle.std.proofs.Common.{◌≡◌, ◌<◌, length}
use Rattle.std.specs.List.{All}
use Rattle.ag_low_cases.proofs.graphs.graph_of.Given as goal

abbrev pub invariant-loop-targets : goal.invariant-loop-targets
invariant-loop-targets g l = record {
  below : All (λ targets. All (λ w. w < length l.rows) targets) l.graph;
  long : length l.graph ≡ l.targets-index;
}

abbrev pub invariant-loop-to : goal.invariant-loop-to
invariant-loop-to g l = record {
  below : All (λ targets. All (λ w. w < length l.rows) targets) l.graph;
  long : length l.graph ≡ length l.initial.graph;
  some : 0 < length l.graph;
}
