use Rattle.std.proofs.Common.{◌≡◌, ap, map, sym, subst, ◌∙◌}
use Rattle.std.proofs.lemmas.List.{take_all}
use Rattle.ag_graph.specs.Circles.{IsGraph}
use Rattle.ag_names.specs.Graph.{graph_of, targets_of}
use Rattle.ag_names.proofs.Containment.{graph_within}
use Rattle.ag_names.proofs.circles.graph_of.Goals as goal

pub returns-clause-graph : goal.returns-clause-graph
returns-clause-graph c =
    let all = c.args.index.now in
    let items = c.implementations-entry-items.result.now in
    let same : c.loop-entry.graph ≡ graph_of all =
    c.loop-entry.invariant ∙ ap (map (targets_of all)) (take_all c.loop-entry.entry-index items c.loop-entry-test.false ∙ c.implementations-entry-items.ensures) in
    subst IsGraph (sym same) (graph_within all)
