use Rattle.std.proofs.Common.{◌≡◌, length, map, refl, ap, sym, ◌∙◌, arith}
use Rattle.std.specs.List.{flat_map}
use Rattle.std.proofs.lemmas.List.{length-map}
use Rattle.ag_symbols.specs.Seen.{Names, clauses_seen, nodes_in}
use Rattle.ag_types.proofs.Circling.{first_circular, flags_long, map_of}
use Rattle.ag_types.proofs.uses.first_circle.Goals as goal

pub circular_nodes-of_nodes-requires : goal.circular_nodes-of_nodes-requires
circular_nodes-of_nodes-requires g c =
    let flags = flags_long g.seen c.args.circles.now.on_circle c.args.circles.now.order c.requires.1.1 in
    let on = ap length c.as_slice-on_circle.ensures in
    let constants = ap length c.requires.1.0 in
    let all : map (λ n. n.now) c.as_slice.result.now ≡ flat_map nodes_in (clauses_seen g.seen) = c.as_slice.ensures ∙ ap (λ (z : Names). z.nodes) (c.sight.view_is ∙ c.sight-sight.ensures ∙ c.requires.0) in
    let nodes = sym (length-map c.as_slice.result.now (λ n. n.now)) ∙ ap length all in
    omega arith

pub returns : goal.returns
returns g c =
    let all : map (λ n. n.now) c.as_slice.result.now ≡ flat_map nodes_in (clauses_seen g.seen) = c.as_slice.ensures ∙ ap (λ (z : Names). z.nodes) (c.sight.view_is ∙ c.sight-sight.ensures ∙ c.requires.0) in
    first_circular g.seen c.args.circles.now.on_circle c.args.circles.now.order c.requires.1.1
    (map (λ z. z.var.name) c.args.constants.now) (map (λ n. n.now.name) c.as_slice.result.now) (length c.args.constants.now) c.either.result
    (ap (map (λ z. z.var.name)) c.requires.1.0)
    (sym (map_of (λ n. n.name) (λ n. n.now) c.as_slice.result.now) ∙ ap (map (λ n. n.name)) all)
    (length-map c.args.constants.now (λ z. z.var.name))
    (c.either.ensures ∙ rw (c.circular_constants-of_constants.ensures, c.circular_nodes-of_nodes.ensures, c.as_slice-on_circle.ensures) refl)
