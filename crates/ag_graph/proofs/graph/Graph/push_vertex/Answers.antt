use Rattle.std.proofs.Common.{◌≡◌, ◌++◌, ◌∷◌, [], ℕ, length, ap, ◌∙◌}
use Rattle.ag_graph.proofs.Cutting.{cut_push, starts_push}
use Rattle.ag_graph.proofs.graph.Graph.push_vertex.Goals as goal
use Rattle.ag_graph.proofs.graph.Graph.push_vertex.Goals.{In_ok-push}

starts_are : (c : In_ok-push) → c.push.new.self.items ≡ c.self.inside.starts.items ++ length c.self.inside.targets.items ∷ []
starts_are c = c.in_ok-push.ensures.items ∙ ap (λ (n : ℕ). c.self.inside.starts.items ++ n ∷ []) (c.len.ensures ∙ c.self.inside.targets.ok.0)

pub invariant_of-self-2 : goal.invariant_of-self-2
invariant_of-self-2 c = rw (starts_are c) (starts_push c.self.inside.targets.items c.self.inside.starts.items c.self.invariant)

pub returns-clause-ok : goal.returns-clause-ok
returns-clause-ok c = rw (starts_are c, ← c.self.view_is) (cut_push c.self.inside.targets.items c.self.inside.starts.items)
