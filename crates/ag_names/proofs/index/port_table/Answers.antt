use Rattle.std.proofs.Common.{sym}
use Rattle.ag_names.proofs.Entries.{rows_more}
use Rattle.ag_names.proofs.index.port_table.Goals as goal

pub loop-number-preserved : goal.loop-number-preserved
loop-number-preserved c =
    rw (c.in_ok-push_ports.ensures, c.loop-number.invariant) (sym (rows_more (λ t. t.frame.ports) (λ p. p.name.text) c.args.types.now c.loop-number.number c.index-types-number.result c.loop-number-test.true c.index-types-number.is))
