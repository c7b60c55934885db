use Rattle.std.proofs.Common.{◌≡◌, ℕ, Option, take}
use Rattle.std.specs.BTreeSet.{contains}
use Rattle.std.specs.List.{list_any}
use Rattle.std.specs.Option.{option_cmp}
use Rattle.std.specs.Ordering.{nat_cmp, ordering_then}
use Rattle.ag_names.specs.Order.{IsFirst}
use Rattle.ag_names.proofs.First.{Below}
use Rattle.ag_names.proofs.Sources.{IsSecondAt, leads_to}
use Rattle.ag_names.proofs.wires.first_second_source.Given as goal

abbrev pub invariant-loop-wire : goal.invariant-loop-wire
invariant-loop-wire l = record {
  seen : (q : Option ℕ × ℕ) → contains (λ x y. ordering_then (option_cmp nat_cmp x.0 y.0) (nat_cmp x.1 y.1)) l.sourced q ≡ list_any (leads_to l.component q) (take l.wire-index l.wire-items);
  first : IsFirst (Below (IsSecondAt l.component) l.wire-index) l.found;
}
