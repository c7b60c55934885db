use Rattle.ag_diff.proofs.Rows.{edge_turned, turned_weight}
use Rattle.ag_diff.proofs.edges.edge_of.Goals as goal

pub returns-clause-says : goal.returns-clause-says
returns-clause-says c = edge_turned c.args.zero c.ends-to.result.0 c.ends-to.result.1 c.args.lit c.args.row.now c.as_slice.result.now _ c.if-lit.false c.as_slice.ensures c.ends-to.ensures (turned_weight c.args.row.now.bound c.requires.difference.1)
