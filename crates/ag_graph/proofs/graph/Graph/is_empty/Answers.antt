use Rattle.std.proofs.Common.{◌≡◌, length, nat_eq, vec_len, sym, ap, ◌∙◌}
use Rattle.ag_graph.proofs.Cutting.{length_cut}
use Rattle.ag_graph.proofs.graph.Graph.is_empty.Goals as goal

pub returns : goal.returns
returns c =
    let g = c.self.inside in
    let e : vec_len g.starts ≡ length c.args.self.now = g.starts.ok.0 ∙ sym (length_cut g.targets.items g.starts.items) ∙ ap length c.self.view_is in
    c.is_empty.ensures ∙ ap (λ n. nat_eq n 0) e
