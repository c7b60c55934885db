use Rattle.std.proofs.Common.{ap, arith}
use Rattle.ag_diff.proofs.Fanning.{below_read}
use Rattle.ag_diff.proofs.fan.Fan.before.Goals as goal

pub returns : goal.returns
returns c = below_read c.args.place c.self.inside.before.items c.args.place c.index.result.now (omega (arith, c.requires, ap (λ v. v.edges) c.self.view_is)) c.index.ensures (c.self.invariant.1 c.args.place)
