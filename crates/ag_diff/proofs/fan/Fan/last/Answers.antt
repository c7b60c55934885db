use Rattle.std.proofs.Common.{ℕ, ◌<◌, length, subst, ap, arith}
use Rattle.std.specs.Prelude.{IfSome}
use Rattle.ag_diff.proofs.Fanning.{below_read}
use Rattle.ag_diff.proofs.fan.Fan.last.Goals as goal

pub returns : goal.returns
returns c =
    let F : ℕ → Type 0 = λ n. IfSome c.index.result.now (λ i. i < n) in
    subst F (ap (λ v. v.edges) c.self.view_is) (below_read (length c.self.inside.before.items) c.self.inside.last.items c.args.vertex c.index.result.now (omega (arith, c.requires, ap (λ v. v.vertices) c.self.view_is)) c.index.ensures (c.self.invariant.0 c.args.vertex))
