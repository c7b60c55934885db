use Rattle.std.proofs.Common.{◌-◌, ℕ, List, take, refl, ap, ◌∙◌}
use Rattle.ag_graph.proofs.Paths.{front_of}
use Rattle.ag_graph.proofs.Closing.{closed}
use Rattle.ag_graph.proofs.search.Search.close.Goals as goal

pub returns : goal.returns
returns c =
    let old = c.args.self.now in
    let mid = c.finish_from.new.self in
    let done = c.in_ok-finish_from.ensures.closed in
    let last = c.requires.last in
    closed c.args.graph.now old c.requires.search last.0 c.args.group last.1 c.requires.done c.is_circle-on_circle.result c.is_circle-on_circle.ensures mid done _ c.in_ok-finish_from.ensures.order refl refl refl refl
    (c.truncate.ensures.items ∙ ap (λ (xs : List ℕ). take c.args.group.first xs) done.path)
    (front_of mid.groups.items last.0 c.pop.new.self.items c.args.group (done.groups ∙ last.1) (c.pop.ensures.rest ∙ ap (λ (n : ℕ). take (n - 1) mid.groups.items) mid.groups.ok.0))
