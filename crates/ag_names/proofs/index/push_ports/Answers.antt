use Rattle.std.proofs.Common.{◌≡◌, ap, ◌∙◌, append_assoc}
use Rattle.ag_names.specs.Keys.{name_key}
use Rattle.ag_names.specs.Placed.{Type'}
use Rattle.ag_names.proofs.Entries.{entries_more}
use Rattle.ag_names.proofs.index.push_ports.Goals as goal

pub loop-at-preserved : goal.loop-at-preserved
loop-at-preserved c =
    let ports = c.as_slice-port-items in
    let same : ports.result.now ≡ c.args.entry.now.frame.ports = ports.ensures ∙ ap (λ (t : Type'). t.frame.ports) c.entry.view_is in
    rw (c.in_ok-push.ensures.items, c.loop-at.invariant, ← same, entries_more (λ p. name_key c.args.number p.name.text) ports.result.now c.loop-at.at c.port-item.result c.loop-at-test.true c.port-item.is, c.name-key.ensures, c.as_bytes.ensures)
    (append_assoc c.args.entries.now.items _ _)
