use Rattle.std.proofs.Common.{refl}
use Rattle.ag_names.specs.Keys.{implemented_key}
use Rattle.ag_names.proofs.Entries.{entries_more}
use Rattle.ag_names.proofs.index.implementation_table.Goals as goal

pub loop-at-preserved : goal.loop-at-preserved
loop-at-preserved c =
    rw (c.in_ok-push.ensures.items, c.loop-at.invariant, entries_more implemented_key c.args.implementations.now c.loop-at.at c.index-implementations-at.result c.loop-at-test.true c.index-implementations-at.is, c.implemented_key.ensures) refl
