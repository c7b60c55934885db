use Rattle.std.proofs.Common.{rules, sym, ap, ◌∙◌}
use Rattle.std.specs.Prelude.{Some}
use Rattle.std.specs.Ordering.{is_lt, is_eq}
use Rattle.std.proofs.lemmas.List.Sorted.{IsPartitionPoint-from_clause}
use Rattle.ag_names.specs.Keys.{Entry, compare_keys}
use Rattle.ag_names.proofs.KeyOrder.{entries_parted, entry_found, entry_missed, entry_at_end}
use Rattle.ag_names.proofs.table.find_in.Goals as goal

pub returns-then-is_eq : goal.returns-then-is_eq
returns-then-is_eq c =
    let key = c.args.key.now in
    let point = IsPartitionPoint-from_clause (λ e. is_lt (compare_keys e.key key)) c.args.entries.now c.partition_point-at.result c.partition_point-at.ensures.partitioned (entries_parted key c.args.entries.now c.requires) (λ a r q k. search rules) in
    let got = c.in-Some.ensures.lookup in
    ap (λ (e : Entry). Some e.at) c.entry.view_is
    ∙ entry_found key c.args.entries.now c.partition_point-at.result point c.in-Some.entry.now got.3.0 got.1
    (ap (λ (e : Entry). is_eq (compare_keys e.key key)) (sym c.entry.view_is) ∙ ap is_eq (sym c.order.ensures) ∙ sym c.is_eq.ensures ∙ c.if-is_eq.true)

pub returns-else-is_eq : goal.returns-else-is_eq
returns-else-is_eq c =
    let key = c.args.key.now in
    let point = IsPartitionPoint-from_clause (λ e. is_lt (compare_keys e.key key)) c.args.entries.now c.partition_point-at.result c.partition_point-at.ensures.partitioned (entries_parted key c.args.entries.now c.requires) (λ a r q k. search rules) in
    let got = c.in-Some.ensures.lookup in
    entry_missed key c.args.entries.now c.partition_point-at.result point c.in-Some.entry.now c.requires got.3.0 got.1
    (ap (λ (e : Entry). is_eq (compare_keys e.key key)) (sym c.entry.view_is) ∙ ap is_eq (sym c.order.ensures) ∙ sym c.is_eq.ensures ∙ c.if-is_eq.false)

pub returns-in-None : goal.returns-in-None
returns-in-None c =
    let key = c.args.key.now in
    let point = IsPartitionPoint-from_clause (λ e. is_lt (compare_keys e.key key)) c.args.entries.now c.partition_point-at.result c.partition_point-at.ensures.partitioned (entries_parted key c.args.entries.now c.requires) (λ a r q k. search rules) in
    let got = c.in-None.ensures.lookup in
    entry_at_end key c.args.entries.now c.partition_point-at.result point got.3
