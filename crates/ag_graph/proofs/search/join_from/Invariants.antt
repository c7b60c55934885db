use Rattle.std.proofs.Common.{◌≡◌, ◌<◌, ◌++◌, List, vec_len}
use Rattle.std.specs.List.{All}
use Rattle.ag_graph.specs.declared.search.Group.{Group}
use Rattle.ag_graph.proofs.search.join_from.Given as goal

-- what was taken off begins behind the place
abbrev pub invariant-loop-group : goal.invariant-loop-group
invariant-loop-group l = (off : List Group) × (l.fn.groups.items ≡ l.groups.items ++ off) × All (λ g. l.place < g.first) off

abbrev pub decreases-loop-group : goal.decreases-loop-group
decreases-loop-group l = vec_len l.groups
