use Rattle.std.proofs.Common.{refl}
use Rattle.ag_names.specs.Keys.{name_key}
use Rattle.ag_names.proofs.Entries.{entries_more}
use Rattle.ag_names.proofs.ends.sub_table.Goals as goal

pub loop-at-preserved : goal.loop-at-preserved
loop-at-preserved c =
    let subs = c.as_slice-sub-items in
    rw (c.in_ok-push.ensures.items, c.loop-at.invariant, ← subs.ensures, entries_more (λ s. name_key 0 s.name.text) subs.result.now c.loop-at.at c.sub-item.result c.loop-at-test.true c.sub-item.is, c.name-key.ensures, c.as_bytes.ensures) refl
