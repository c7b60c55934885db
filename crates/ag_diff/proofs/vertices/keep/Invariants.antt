use Rattle.std.proofs.Common.{◌≡◌, map, take}
use Rattle.ag_diff.proofs.vertices.keep.Given as goal

abbrev pub invariant-loop-vertex : goal.invariant-loop-vertex
invariant-loop-vertex l = l.values.items ≡ map (λ v. v.value) (take l.vertex-index l.vertices)
