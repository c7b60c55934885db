use Rattle.std.proofs.Common.{◌≡◌, ◌≤◌, ◌+◌, ℕ, suc, List, get_or, length, sym, ap, ◌∙◌, arith, add-one}
use Rattle.std.specs.Option.{unwrap_or}
use Rattle.std.proofs.lemmas.List.{get_or_read}
use Rattle.ag_graph.proofs.Cutting.{vertex_within, at_cut, cut_within}
use Rattle.ag_graph.proofs.graph.Graph.targets.Goals as goal
use Rattle.ag_graph.proofs.graph.Graph.targets.Goals.{After-unwrap_or}

begin : (c : After-unwrap_or) → c.index-start.result.now ≡ get_or c.self.inside.starts.items c.args.vertex 0
begin c =
    let g = c.self.inside in
    let there = vertex_within g.targets.items g.starts.items c.args.self.now c.args.vertex c.self.view_is c.requires in
    get_or_read g.starts.items c.args.vertex c.index-start.result.now there c.index-start.ensures 0

end : (c : After-unwrap_or) → c.unwrap_or.result ≡ get_or c.self.inside.starts.items (suc c.args.vertex) (length c.self.inside.targets.items)
end c =
    let g = c.self.inside in
    c.unwrap_or.ensures
    ∙ ap (λ o. unwrap_or o c.len.result) c.copied-next.ensures
    ∙ c.get.ensures.lookup.4 (omega arith) c.len.result
    ∙ ap (λ (xs : List ℕ). get_or xs (c.args.vertex + 1) c.len.result) c.deref.ensures.value
    ∙ ap (λ (n : ℕ). get_or g.starts.items (c.args.vertex + 1) n) (c.len.ensures ∙ g.targets.ok.0)
    ∙ ap (λ (n : ℕ). get_or g.starts.items n (length g.targets.items)) (add-one c.args.vertex)

within : (c : After-unwrap_or) → (c.index-start.result.now ≤ c.unwrap_or.result) × (c.unwrap_or.result ≤ length c.self.inside.targets.items)
within c =
    let g = c.self.inside in
    let b = begin c in
    let e = end c in
    let there = vertex_within g.targets.items g.starts.items c.args.self.now c.args.vertex c.self.view_is c.requires in
    let w = cut_within g.targets.items g.starts.items c.args.vertex c.self.invariant there in
    (omega arith, omega arith)

pub index-start-requires : goal.index-start-requires
index-start-requires c =
    let g = c.self.inside in
    let there = vertex_within g.targets.items g.starts.items c.args.self.now c.args.vertex c.self.view_is c.requires in
    omega (arith, g.starts.ok.0)

pub overflow_add-vertex : goal.overflow_add-vertex
overflow_add-vertex c =
    let g = c.self.inside in
    let there = vertex_within g.targets.items g.starts.items c.args.self.now c.args.vertex c.self.view_is c.requires in
    omega (arith, g.starts.ok.0, c.deref.ensures.len)

pub offset_bounds-deref-start : goal.offset_bounds-deref-start
offset_bounds-deref-start c = let w = within c in omega (arith, c.deref-2.ensures.len, c.self.inside.targets.ok.0)

pub slice_bounds-result-count : goal.slice_bounds-result-count
slice_bounds-result-count c = (within c).0

pub slice_bounds-result-start : goal.slice_bounds-result-start
slice_bounds-result-start c = let w = within c in omega arith

pub slice_bounds-result-end : goal.slice_bounds-result-end
slice_bounds-result-end c = let w = within c in omega (arith, c.deref-2.ensures.len, c.self.inside.targets.ok.0)

pub returns : goal.returns
returns c =
    let g = c.self.inside in
    let there = vertex_within g.targets.items g.starts.items c.args.self.now c.args.vertex c.self.view_is c.requires in
    let at = (goal.at.returns c).After-unwrap_or in
    rw (c.deref-2.ensures.value, begin at, end at, ← c.self.view_is) (sym (at_cut g.targets.items g.starts.items c.args.vertex there))
