use Rattle.std.proofs.Common.{◌≡◌, ◌<◌, ◌+◌, ℕ, length, get_or, Some, None, All}
use Rattle.std.specs.Prelude.{count_by, is_none}
use Rattle.ag_diff.specs.declared.edges.Edge.{Edge}
use Rattle.ag_diff.specs.Cycles.{Leads}
use Rattle.ag_diff.specs.Climbs.{IsLastCause}
use Rattle.ag_diff.proofs.climb.go_up.Given as goal

abbrev pub invariant-loop-at : goal.invariant-loop-at
invariant-loop-at l = record {
  there : l.at < length l.vertices;
  count : length l.places.items ≡ length l.vertices;
  leads : Leads l.from l.path.items l.at;
  causes : All (IsLastCause l.vertices) l.path.items;
  marked : (n place : ℕ) (d : Edge) → get_or l.places.items n None ≡ Some place → (place < length l.path.items) × ((get_or l.path.items place d).to ≡ n);
  free : count_by is_none l.places.items + length l.path.items ≡ length l.vertices;
}

abbrev pub decreases-loop-at : goal.decreases-loop-at
decreases-loop-at l = count_by is_none l.places.items
