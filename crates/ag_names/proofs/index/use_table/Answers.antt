use Rattle.std.proofs.Common.{◌∷◌, sym}
use Rattle.ag_names.proofs.Entries.{rows_more}
use Rattle.ag_names.proofs.index.use_table.Goals as goal

pub loop-number-preserved : goal.loop-number-preserved
loop-number-preserved c =
    rw (c.in_ok-push_uses.ensures, c.loop-number.invariant) (sym (rows_more (λ p. p.name ∷ p.imports) (λ i. i.text) c.args.packages.now c.loop-number.number c.index-packages-number.result c.loop-number-test.true c.index-packages-number.is))
