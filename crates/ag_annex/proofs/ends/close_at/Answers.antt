use Rattle.std.proofs.Common.{nat_eq, codes, sym, ap, ◌∙◌}
use Rattle.std.proofs.lemmas.List.{take_rest}
use Rattle.std.specs.List.{starts_with}
use Rattle.ag_annex.proofs.AnnexEnds.{further}
use Rattle.ag_annex.proofs.ends.close_at.Goals as goal

pub loop-at-preserved : goal.loop-at-preserved
loop-at-preserved c =
    let bytes = c.args.bytes.now in
    c.loop-at.invariant
    ∙ further bytes c.loop-at.at c.loop-at-test.true (ap (λ q. starts_with nat_eq q (codes "**}")) (sym (take_rest bytes c.loop-at.at)) ∙ sym c.if-starts_with.ensures.value)
