use Rattle.std.proofs.Common.{◌++◌, ◌∷◌, [], ℕ, List, length, ap, sym, ◌∙◌, arith}
use Rattle.std.specs.List.{flat_map}
use Rattle.std.proofs.lemmas.List.{length_push}
use Rattle.ag_symbols.specs.Seen.{names_of_node}
use Rattle.ag_types.specs.Uses.{used_in, with_edges}
use Rattle.ag_types.proofs.Using.{edges_more, edges_end, edges_of_new, flat_map_of}
use Rattle.ag_types.proofs.uses.push_uses_of_node.Goals as goal

pub loop-equation-init : goal.loop-equation-init
loop-equation-init c = record {
  some = let e = ap length c.in_ok-push_vertex.ensures.ok in let f = length_push c.args.graph.now [] in omega arith;
  edges = ap (λ (z : List (List ℕ)). with_edges z (flat_map (λ e. used_in c.sight_of-sight.result c.args.constants e.value) c.as_slice-equation-items.result.now)) c.in_ok-push_vertex.ensures.ok;
}

pub loop-equation-preserved : goal.loop-equation-preserved
loop-equation-preserved c = record {
  some = c.in_ok-push_uses.ensures.some;
  edges = rw c.in_ok-push_uses.ensures.edges
      (edges_more (λ e. used_in c.sight_of-sight.result c.args.constants e.value) c.loop-equation.graph _ c.as_slice-equation-items.result.now c.loop-equation.equation-index c.equation-item.result c.loop-equation-test.true c.equation-item.is c.loop-equation.invariant.edges);
}

pub returns : goal.returns
returns c =
    edges_end (λ e. used_in c.sight_of-sight.result c.args.constants e.value) c.loop-equation.graph _ c.as_slice-equation-items.result.now c.loop-equation.equation-index c.loop-equation-test.false c.loop-equation.invariant.edges
    ∙ edges_of_new c.args.graph.now (flat_map (λ e. used_in c.sight_of-sight.result c.args.constants e.value) c.as_slice-equation-items.result.now)
    ∙ ap (λ (z : List ℕ). c.args.graph.now ++ z ∷ [])
    (rw (c.sight_of-sight.ensures, c.in_ok-own.ensures, c.as_slice-equation-items.ensures)
    (sym (flat_map_of (used_in (names_of_node c.args.site.now c.args.node.now) c.args.constants) (λ e. e.value) c.args.node.now.equations)))
