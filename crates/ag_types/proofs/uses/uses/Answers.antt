use Rattle.std.proofs.Common.{length, refl, sym, ◌∙◌}
use Rattle.std.proofs.Math.Path.{subst}
use Rattle.ag_graph.specs.Circles.{IsGraph}
use Rattle.ag_types.specs.Uses.{constants_of}
use Rattle.ag_types.proofs.Graphing.{uses_joined, uses_graph}
use Rattle.ag_types.proofs.uses.uses.Goals as goal

pub returns-clause-uses : goal.returns-clause-uses
returns-clause-uses g c =
    c.in_ok-push_node_uses-3.ensures
    ∙ rw (c.in_ok-push_node_uses-2.ensures, c.in_ok-push_node_uses.ensures, c.in_ok-push_constant_uses.ensures, c.new-graph.ensures, c.requires.1.0.0, c.requires.1.0.1, c.requires.1.0.2, ← c.requires.0.0, ← c.requires.0.1, ← c.requires.0.2, c.requires.1.1)
    (uses_joined g.seen (length (constants_of g.seen)) refl)

pub returns-clause-graph : goal.returns-clause-graph
returns-clause-graph g c = subst IsGraph (sym (returns-clause-uses g c)) (uses_graph g.seen)
