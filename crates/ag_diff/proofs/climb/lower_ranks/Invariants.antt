use Rattle.std.proofs.Common.{ℕ, length}
use Rattle.ag_diff.specs.Vertices.{AreVertices}
use Rattle.ag_diff.specs.Climbs.{IsWayUp, IsWayDown, SameButRanks}
use Rattle.ag_diff.proofs.climb.lower_ranks.Given as goal

abbrev pub invariant-loop-edge : goal.invariant-loop-edge
invariant-loop-edge l = record {
  vertices : AreVertices l.vertices;
  same : SameButRanks l.fn.vertices l.vertices;
  left : (at : ℕ) → IsWayUp l.fn.vertices at l.top l.fn.path.items → IsWayDown l.vertices at l.path.items l.rank;
}

abbrev pub decreases-loop-edge : goal.decreases-loop-edge
decreases-loop-edge l = length l.path.items
