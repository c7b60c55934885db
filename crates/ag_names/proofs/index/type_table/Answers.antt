use Rattle.std.proofs.Common.{refl}
use Rattle.ag_names.specs.Keys.{declared_key}
use Rattle.ag_names.proofs.Entries.{entries_more}
use Rattle.ag_names.proofs.index.type_table.Goals as goal

pub loop-at-preserved : goal.loop-at-preserved
loop-at-preserved c =
    rw (c.in_ok-push.ensures.items, c.loop-at.invariant, entries_more declared_key c.args.types.now c.loop-at.at c.index-types-at.result c.loop-at-test.true c.index-types-at.is, c.declared_key.ensures) refl
