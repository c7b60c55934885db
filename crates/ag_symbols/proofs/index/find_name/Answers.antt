use Rattle.std.proofs.Common.{rules, sym, ap, ◌∙◌}
use Rattle.std.specs.Ordering.{is_lt, is_eq}
use Rattle.std.proofs.lemmas.List.Sorted.{IsPartitionPoint-from_clause}
use Rattle.ag_symbols.specs.Indexed.{compare_names}
use Rattle.ag_symbols.proofs.Orders.{parted, first_found, first_missed, first_at_end}
use Rattle.ag_symbols.proofs.index.find_name.Goals as goal

pub returns-then-is_eq : goal.returns-then-is_eq
returns-then-is_eq c =
    let name = c.args.name.now in
    let point = IsPartitionPoint-from_clause (λ e. is_lt (compare_names e.name.now name)) c.args.slots.now c.partition_point-at.result c.partition_point-at.ensures.partitioned (parted (λ e. e.name.now) name c.args.slots.now c.requires) (λ a r q k. search rules) in
    let got = c.in-Some.ensures.lookup in
    first_found (λ e. e.name.now) (λ e. e.at) name c.args.slots.now c.partition_point-at.result c.in-Some.slot.now point got.3.0 got.1
    (ap is_eq (sym c.compare_names.ensures) ∙ sym c.is_eq.ensures ∙ c.if-is_eq.true)

pub returns-else-is_eq : goal.returns-else-is_eq
returns-else-is_eq c =
    let name = c.args.name.now in
    let point = IsPartitionPoint-from_clause (λ e. is_lt (compare_names e.name.now name)) c.args.slots.now c.partition_point-at.result c.partition_point-at.ensures.partitioned (parted (λ e. e.name.now) name c.args.slots.now c.requires) (λ a r q k. search rules) in
    let got = c.in-Some.ensures.lookup in
    first_missed (λ e. e.name.now) (λ e. e.at) name c.args.slots.now c.partition_point-at.result c.in-Some.slot.now c.requires point got.3.0 got.1
    (ap is_eq (sym c.compare_names.ensures) ∙ sym c.is_eq.ensures ∙ c.if-is_eq.false)

pub returns-in-None : goal.returns-in-None
returns-in-None c =
    let name = c.args.name.now in
    let point = IsPartitionPoint-from_clause (λ e. is_lt (compare_names e.name.now name)) c.args.slots.now c.partition_point-at.result c.partition_point-at.ensures.partitioned (parted (λ e. e.name.now) name c.args.slots.now c.requires) (λ a r q k. search rules) in
    let got = c.in-None.ensures.lookup in
    first_at_end (λ e. e.name.now) (λ e. e.at) name c.args.slots.now c.partition_point-at.result point got.3
