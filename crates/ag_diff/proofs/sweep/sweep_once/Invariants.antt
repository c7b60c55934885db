use Rattle.std.proofs.Common.{◌≡◌, length}
use Rattle.ag_diff.specs.Vertices.{AreVertices, HaveCauses}
use Rattle.ag_diff.specs.Sweeps.{IsSweptTo, work}
use Rattle.ag_diff.proofs.sweep.sweep_once.Given as goal

abbrev pub invariant-loop-edge : goal.invariant-loop-edge
invariant-loop-edge l = record {
  pending : l.pending.count ≡ length l.vertices;
  vertices : AreVertices l.vertices;
  causes : HaveCauses l.edges l.vertices;
  swept : IsSweptTo l.edges l.vertices (work l.fn.vertices l.fn.pending) (work l.vertices l.pending) l.edge-index l.sunk;
}
