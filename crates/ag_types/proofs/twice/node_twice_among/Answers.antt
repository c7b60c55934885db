use Rattle.std.proofs.Common.{map, ◌∙◌}
use Rattle.ag_types.proofs.TwiceNames.{node_by_parts}
use Rattle.ag_types.proofs.twice.node_twice_among.Goals as goal

pub returns : goal.returns
returns c = λ names h.
    c.either.ensures ∙ rw (c.first_of_two-found.ensures, c.first_later-later.ensures)
    (node_by_parts names c.args.node.now (map (λ n. n.now) c.as_slice-names.result.now) _ c.args.seen.now (rw c.as_slice-names.ensures.value c.in_ok-own.ensures) c.in_ok-of_own.ensures h)
