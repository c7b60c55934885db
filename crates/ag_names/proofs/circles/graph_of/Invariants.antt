use Rattle.std.proofs.Common.{◌≡◌, map, take}
use Rattle.ag_names.specs.Graph.{targets_of}
use Rattle.ag_names.proofs.circles.graph_of.Given as goal

abbrev pub invariant-loop-entry : goal.invariant-loop-entry
invariant-loop-entry l = l.graph ≡ map (targets_of l.index) (take l.entry-index l.entry-items)
