use Rattle.std.proofs.Common.{◌≡◌, ◌≤◌, ◌<◌, length}
use Rattle.std.specs.Prelude.{IfSome, suc}
use Rattle.std.specs.Option.{option_map_or}
use Rattle.ag_diff.specs.Vertices.{AreVertices, HaveCauses}
use Rattle.ag_diff.specs.Sweeps.{work}
use Rattle.ag_diff.proofs.sweep.spread.Given as goal

abbrev pub invariant-loop-at : goal.invariant-loop-at
invariant-loop-at l = record {
  there : IfSome l.at (λ i. i < length l.edges);
  pending : l.pending.count ≡ length l.vertices;
  vertices : AreVertices l.vertices;
  causes : HaveCauses l.edges l.vertices;
  less : work l.vertices l.pending ≤ work l.fn.vertices l.fn.pending;
}

abbrev pub decreases-loop-at : goal.decreases-loop-at
decreases-loop-at l = option_map_or (λ i. suc i) l.at 0
