use Rattle.std.proofs.Common.{length, sym, ap, ◌∙◌}
use Rattle.ag_graph.proofs.Cutting.{length_cut}
use Rattle.ag_graph.proofs.graph.Graph.len.Goals as goal

pub returns : goal.returns
returns c =
    let g = c.self.inside in
    c.len.ensures ∙ g.starts.ok.0 ∙ sym (length_cut g.targets.items g.starts.items) ∙ ap length c.self.view_is
