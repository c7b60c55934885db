use Rattle.std.proofs.Common.{◌≡◌, map, take}
use Rattle.ag_diff.specs.Vertices.{started}
use Rattle.ag_diff.proofs.vertices.start.Given as goal

abbrev pub invariant-loop-value : goal.invariant-loop-value
invariant-loop-value l = l.vertices.items ≡ map started (take l.value-index l.values)
