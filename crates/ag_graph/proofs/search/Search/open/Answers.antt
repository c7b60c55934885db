use Rattle.std.proofs.Common.{◌≡◌, ◌∙◌, ◌++◌, ℕ, List, length, set, refl, ap}
use Rattle.ag_graph.specs.declared.search.Mark.TheVariants.{OnPath}
use Rattle.ag_graph.proofs.Opening.{opened}
use Rattle.ag_graph.proofs.search.Search.open.Goals as goal

pub returns-clause-goes_on : goal.returns-clause-goes_on
returns-clause-goes_on c =
    let old = c.args.self.now in
    let first : c.len-first.result ≡ length old.path.items = c.len-first.ensures ∙ old.path.ok.0 in
    let edges : c.len-edges.result ≡ length old.ahead.items = c.len-edges.ensures ∙ old.ahead.ok.0 in
    opened c.args.graph.now old _ c.args.vertex (record { first = c.len-first.result; edges = c.len-edges.result }) c.requires.vertex c.requires.search c.requires.unseen c.requires.reached
    first edges (ap (λ (n : ℕ). set old.marks.items c.args.vertex (OnPath n)) first) c.in_ok-push-2.ensures.items c.in_ok-push.ensures.items
    (c.in_ok-extend_from_slice.ensures.items ∙ ap (λ (ws : List ℕ). old.ahead.items ++ ws) c.targets.ensures) refl refl
