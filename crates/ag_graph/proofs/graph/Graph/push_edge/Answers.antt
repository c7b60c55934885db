use Rattle.std.proofs.Common.{◌<◌, ℕ, length, sym, ap, subst, ◌∙◌}
use Rattle.ag_graph.proofs.Cutting.{length_cut, cut_with_edge, starts_wider}
use Rattle.ag_graph.proofs.graph.Graph.push_edge.Goals as goal

pub invariant_of-self-2 : goal.invariant_of-self-2
invariant_of-self-2 c = rw c.in_ok-push.ensures.items (starts_wider c.self.inside.targets.items c.self.inside.starts.items c.args.to c.self.invariant)

pub returns-clause-ok : goal.returns-clause-ok
returns-clause-ok c =
    let g = c.self.inside in
    let some : 0 < length g.starts.items = subst (λ (n : ℕ). 0 < n) (sym (ap length c.self.view_is) ∙ length_cut g.targets.items g.starts.items) c.requires in
    rw (c.in_ok-push.ensures.items, ← c.self.view_is) (cut_with_edge g.targets.items g.starts.items c.args.to some c.self.invariant)
