use Rattle.std.proofs.Common.{rules, arith, refl}
use Rattle.std.specs.Prelude.{IsNone}
use Rattle.std.proofs.lemmas.List.{take_all}
use Rattle.std.proofs.lemmas.List.Elements.{All-more}
use Rattle.ag_kernel.specs.Rules.{line_at}
use Rattle.ag_kernel.proofs.kernel.have_no_rows.Goals as goal

pub loop-n-preserved : goal.loop-n-preserved
loop-n-preserved c = All-more (λ n. IsNone (line_at c.args.lines.now n).row) c.args.named.now c.loop-n.n-index 0 c.loop-n-test.true c.loop-n.invariant (c.lacks_row.ensures.0 (search rules))

pub returns : goal.returns
returns c =
    let all = take_all c.loop-n.n-index c.args.named.now (omega arith) in
    ((λ _. rw all at c.loop-n.invariant), λ _. refl)
