use Rattle.std.proofs.Common.{◌≡◌, ◌≤◌, length}
use Rattle.ag_diff.specs.Vertices.{AreVertices, HaveCauses}
use Rattle.ag_diff.specs.Sweeps.{work}
use Rattle.ag_diff.proofs.sweep.settle.Given as goal

abbrev pub invariant-loop-alloc : goal.invariant-loop-alloc
invariant-loop-alloc g l = record {
  pending : l.pending.count ≡ length l.vertices;
  vertices : AreVertices l.vertices;
  causes : HaveCauses l.edges l.vertices;
  never_falls : g.H.Halt.yeses l.fn.halt ≤ g.H.Halt.yeses l.halt;
  follows : g.H.Halt.follows l.fn.halt l.halt;
  unstopped : g.H.Halt.yeses l.halt ≡ g.H.Halt.yeses l.fn.halt;
}

abbrev pub decreases-loop-alloc : goal.decreases-loop-alloc
decreases-loop-alloc g l = work l.vertices l.pending
