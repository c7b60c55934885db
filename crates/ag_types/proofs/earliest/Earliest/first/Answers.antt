use Rattle.std.proofs.Common.{◌≡◌, true, false, List, ap, sym, rules, ◌∙◌}
use Rattle.std.specs.Prelude.{Option}
use Rattle.std.specs.List.Sorted.{IsSortedBy}
use Rattle.std.specs.Ordering.{is_lt, is_eq}
use Rattle.std.proofs.lemmas.List.Sorted.{IsPartitionPoint-from_clause}
use Rattle.ag_terms.specs.declared.names.Ident.{Ident}
use Rattle.ag_symbols.specs.Indexed.{compare_names}
use Rattle.ag_symbols.proofs.Orders.{parted, first_found, first_missed, first_at_end}
use Rattle.ag_types.specs.ClauseFaults.{is_declared_before}
use Rattle.ag_types.specs.Earliest.{is_in_front, stands_before}
use Rattle.ag_types.proofs.EarliestNames.{below_sorted, earliest_decides}
use Rattle.ag_types.proofs.earliest.Earliest.first.Goals as goal

pub returns-then-is_eq : goal.returns-then-is_eq
returns-then-is_eq c = λ place.
    let name = c.args.name.now in
    let names = c.as_slice-names.result.now in
    let ordered : IsSortedBy (is_in_front (λ n. n.now)) names = rw c.as_slice-names.ensures.value c.self.inside.ordered in
    let point = IsPartitionPoint-from_clause (λ n. is_lt (compare_names n.now.text name)) names c.partition_point-at.result c.partition_point-at.ensures.partitioned (parted (λ n. n.now.text) name names (below_sorted (λ n. n.now) names ordered)) (λ a r q k. search rules) in
    let got = c.in-Some.ensures.lookup in
    let one : is_eq (compare_names c.in-Some.first.now.now.text name) ≡ true = rw (← c.as_bytes.ensures) (ap is_eq (sym c.compare_names.ensures) ∙ sym c.is_eq.ensures ∙ c.if-is_eq.true) in
    ap (λ (z : Option Ident). stands_before z place) (first_found (λ n. n.now.text) (λ n. n.now) name names c.partition_point-at.result c.in-Some.first.now point got.3.0 got.1 one)
    ∙ earliest_decides (λ n. n.now) names (record { text = name; place = place }) ordered
    ∙ ap (λ (z : List Ident). is_declared_before z (record { text = name; place = place })) (rw c.as_slice-names.ensures.value c.self.view_is)

pub returns-else-is_eq : goal.returns-else-is_eq
returns-else-is_eq c = λ place.
    let name = c.args.name.now in
    let names = c.as_slice-names.result.now in
    let ordered : IsSortedBy (is_in_front (λ n. n.now)) names = rw c.as_slice-names.ensures.value c.self.inside.ordered in
    let point = IsPartitionPoint-from_clause (λ n. is_lt (compare_names n.now.text name)) names c.partition_point-at.result c.partition_point-at.ensures.partitioned (parted (λ n. n.now.text) name names (below_sorted (λ n. n.now) names ordered)) (λ a r q k. search rules) in
    let got = c.in-Some.ensures.lookup in
    let other : is_eq (compare_names c.in-Some.first.now.now.text name) ≡ false = rw (← c.as_bytes.ensures) (ap is_eq (sym c.compare_names.ensures) ∙ sym c.is_eq.ensures ∙ c.if-is_eq.false) in
    ap (λ (z : Option Ident). stands_before z place) (first_missed (λ n. n.now.text) (λ n. n.now) name names c.partition_point-at.result c.in-Some.first.now (below_sorted (λ n. n.now) names ordered) point got.3.0 got.1 other)
    ∙ earliest_decides (λ n. n.now) names (record { text = name; place = place }) ordered
    ∙ ap (λ (z : List Ident). is_declared_before z (record { text = name; place = place })) (rw c.as_slice-names.ensures.value c.self.view_is)

pub returns-in-None : goal.returns-in-None
returns-in-None c = λ place.
    let name = c.args.name.now in
    let names = c.as_slice-names.result.now in
    let ordered : IsSortedBy (is_in_front (λ n. n.now)) names = rw c.as_slice-names.ensures.value c.self.inside.ordered in
    let point = IsPartitionPoint-from_clause (λ n. is_lt (compare_names n.now.text name)) names c.partition_point-at.result c.partition_point-at.ensures.partitioned (parted (λ n. n.now.text) name names (below_sorted (λ n. n.now) names ordered)) (λ a r q k. search rules) in
    let got = c.in-None.ensures.lookup in
    ap (λ (z : Option Ident). stands_before z place) (first_at_end (λ n. n.now.text) (λ n. n.now) name names c.partition_point-at.result point got.3)
    ∙ earliest_decides (λ n. n.now) names (record { text = name; place = place }) ordered
    ∙ ap (λ (z : List Ident). is_declared_before z (record { text = name; place = place })) (rw c.as_slice-names.ensures.value c.self.view_is)
