use Rattle.std.proofs.Common.{◌<◌, ◌^◌, rules, length, sym, ap, ◌∙◌, arith}
use Rattle.std.proofs.lemmas.List.{length-map}
use Rattle.ag_symbols.specs.Seen.{Names, sought, node_name}
use Rattle.ag_types.proofs.Positions.{position_within}
use Rattle.ag_types.proofs.uses.behind.Goals as goal

pub overflow_add-result : goal.overflow_add-result
overflow_add-result c =
    let within = position_within node_name (sought c.args.path.now c.args.path.now.«package») c.args.sight.now.nodes c.in-Some.at (sym c.in-Some.ensures) in
    let all = sym (length-map c.as_slice-nodes.result.now (λ n. n.now)) ∙ ap length c.as_slice-nodes.ensures ∙ ap (λ (z : Names). length z.nodes) c.sight.view_is in
    let bound : length c.as_slice-nodes.result.now < 2 ^ 63 = search rules in
    omega arith
