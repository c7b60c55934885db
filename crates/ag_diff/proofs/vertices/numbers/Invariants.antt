use Rattle.std.proofs.Common.{◌≡◌, ◌<◌, ◌-ℤ◌, ℕ, pos, length, get_or}
use Rattle.ag_diff.specs.Vertices.{value_at}
use Rattle.ag_diff.proofs.vertices.numbers.Given as goal

abbrev pub invariant-loop-vertex : goal.invariant-loop-vertex
invariant-loop-vertex l = (length l.numbers ≡ l.vertex-index) × ((k : ℕ) → k < l.vertex-index → get_or l.numbers k (pos 0) ≡ value_at l.vertices k -ℤ l.zero)
