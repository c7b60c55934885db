use Rattle.std.proofs.Common.{◌<◌, length, arith}
use Rattle.ag_graph.proofs.Following.{edges_before}
use Rattle.ag_graph.proofs.search.Search.step.Goals as goal

pub follow-requires-clause-last : goal.follow-requires-clause-last
follow-requires-clause-last c =
    let old = c.args.self.now in
    let last = c.requires.last in
    let some : c.args.group.edges < length old.ahead.items = omega (arith, c.if-group-len.true, c.len.ensures, old.ahead.ok.0) in
    edges_before old.path.items old.groups.items last.0 old.ahead.items c.args.group c.requires.search.groups last.1 some
