use Rattle.std.proofs.Common.{refl}
use Rattle.ag_names.specs.Keys.{name_key}
use Rattle.ag_names.proofs.Entries.{entries_more}
use Rattle.ag_names.proofs.index.package_table.Goals as goal

pub loop-at-preserved : goal.loop-at-preserved
loop-at-preserved c =
    rw (c.in_ok-push.ensures.items, c.loop-at.invariant, entries_more (λ p. name_key 0 p.name.text) c.args.packages.now c.loop-at.at c.index-packages-at.result c.loop-at-test.true c.index-packages-at.is, c.name-key.ensures, c.as_bytes.ensures) refl
