use Rattle.std.proofs.Common.{◌≡◌, true, false, not, List, map, ap, sym, subst, rules, ◌∙◌}
use Rattle.std.specs.Prelude.{Some, None}
use Rattle.std.specs.List.Sorted.{IsSortedBy}
use Rattle.std.specs.Ordering.{is_lt, is_eq}
use Rattle.std.proofs.lemmas.List.Sorted.{IsPartitionPoint-from_clause}
use Rattle.ag_terms.specs.declared.names.Ident.{Ident}
use Rattle.ag_symbols.specs.Indexed.{compare_names}
use Rattle.ag_types.specs.Earliest.{compare_idents, is_in_front, IsNext}
use Rattle.ag_types.proofs.EarliestNames.{parted_by, next_found, next_missed, next_none}
use Rattle.ag_types.proofs.earliest.Earliest.next.Goals as goal

pub returns-then-is_eq : goal.returns-then-is_eq
returns-then-is_eq c =
    let name = c.args.name.now in
    let names = c.as_slice-names.result.now in
    let ordered : IsSortedBy (is_in_front (λ n. n.now)) names = rw c.as_slice-names.ensures.value c.self.inside.ordered in
    let point = IsPartitionPoint-from_clause (λ n. not (is_lt (compare_idents name n.now))) names c.partition_point-at.result c.partition_point-at.ensures.partitioned (parted_by (λ n. n.now) name names ordered) (λ a r q k. search rules) in
    let viewed : map (λ n. n.now) names ≡ c.args.self.now = rw c.as_slice-names.ensures.value c.self.view_is in
    let got = c.in-Some.ensures.lookup in
    let one : is_eq (compare_names name.text c.in-Some.next.now.now.text) ≡ true = rw (← c.as_bytes.ensures, ← c.as_bytes-in-Some.ensures) (ap is_eq (sym c.compare_names.ensures) ∙ sym c.is_eq.ensures ∙ c.if-is_eq.true) in
    subst (λ (z : List Ident). IsNext name z (Some c.in-Some.next.now.now)) viewed (next_found (λ n. n.now) name names c.partition_point-at.result c.in-Some.next.now ordered point got.3.0 got.1 one)

pub returns-else-is_eq : goal.returns-else-is_eq
returns-else-is_eq c =
    let name = c.args.name.now in
    let names = c.as_slice-names.result.now in
    let ordered : IsSortedBy (is_in_front (λ n. n.now)) names = rw c.as_slice-names.ensures.value c.self.inside.ordered in
    let point = IsPartitionPoint-from_clause (λ n. not (is_lt (compare_idents name n.now))) names c.partition_point-at.result c.partition_point-at.ensures.partitioned (parted_by (λ n. n.now) name names ordered) (λ a r q k. search rules) in
    let viewed : map (λ n. n.now) names ≡ c.args.self.now = rw c.as_slice-names.ensures.value c.self.view_is in
    let got = c.in-Some.ensures.lookup in
    let other : is_eq (compare_names name.text c.in-Some.next.now.now.text) ≡ false = rw (← c.as_bytes.ensures, ← c.as_bytes-in-Some.ensures) (ap is_eq (sym c.compare_names.ensures) ∙ sym c.is_eq.ensures ∙ c.if-is_eq.false) in
    subst (λ (z : List Ident). IsNext name z None) viewed (next_missed (λ n. n.now) name names c.partition_point-at.result c.in-Some.next.now ordered point got.3.0 got.1 other)

pub returns-in-None : goal.returns-in-None
returns-in-None c =
    let name = c.args.name.now in
    let names = c.as_slice-names.result.now in
    let ordered : IsSortedBy (is_in_front (λ n. n.now)) names = rw c.as_slice-names.ensures.value c.self.inside.ordered in
    let point = IsPartitionPoint-from_clause (λ n. not (is_lt (compare_idents name n.now))) names c.partition_point-at.result c.partition_point-at.ensures.partitioned (parted_by (λ n. n.now) name names ordered) (λ a r q k. search rules) in
    let viewed : map (λ n. n.now) names ≡ c.args.self.now = rw c.as_slice-names.ensures.value c.self.view_is in
    let got = c.in-None.ensures.lookup in
    subst (λ (z : List Ident). IsNext name z None) viewed (next_none (λ n. n.now) name names c.partition_point-at.result ordered point got.3)
