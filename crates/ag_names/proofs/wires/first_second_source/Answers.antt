use Rattle.std.proofs.Common.{◌≡◌, ℕ, ◌≤◌, List, length, take, subst, sym, ap, ◌∙◌, arith}
use Rattle.ag_aadl.specs.declared.packages.Wire.{Wire}
use Rattle.std.proofs.lemmas.Grind.{common_steps}
use Rattle.ag_names.specs.Order.{IsFirst, earlier}
use Rattle.ag_names.proofs.First.{Below, below_none}
use Rattle.std.proofs.lemmas.Option.{slice_get_read}
use Rattle.std.specs.Prelude.{Some, None, Option, slice_get, ◌<◌, false}
use Rattle.std.specs.List.{list_any}
use Rattle.std.proofs.Common.{refl, BTreeSet}
use Rattle.std.specs.BTreeSet.{contains}
use Rattle.std.proofs.lemmas.Bool.{false≢true}
use Rattle.ag_base.specs.declared.place.Refusal.{Refusal}
use Rattle.ag_names.proofs.Sources.{IsSecondAt, first_more_none, first_more_second, first_of_wires, leads_to, order, some_is, seen_more, seen_same, target_of, was_not_there, was_there}
use Rattle.ag_names.proofs.wires.first_second_source.Goals as goal
use Rattle.ag_names.proofs.wires.first_second_source.Goals.{in-Some+in_ok-insert+then-not-branch, in-Some+in_ok-insert+else-not-branch, in_default}

pub loop-wire-init : goal.loop-wire-init
loop-wire-init c = record { seen = λ q. grind (arith, common_steps); first = below_none (IsSecondAt c.args.component.now) }

pub loop-wire-preserved : goal.loop-wire-preserved
loop-wire-preserved c =
    let k = c.args.component.now in
    let xs : List Wire = c.wires_of-wire-items.result.now in
    let at = c.loop-wire.wire-index in
    let w0 : Wire = c.wire-item.result in
    let lt : at < length xs = c.loop-wire-test.true in
    let here : slice_get xs at ≡ Some w0 = slice_get_read xs (length xs) at w0 refl lt c.wire-item.is in
    let within = subst (λ (z : List Wire). slice_get z at ≡ Some w0) c.wires_of-wire-items.ensures here in
    let wires : List Wire = k.implementation.body.wires in
    let same_list : xs ≡ wires = c.wires_of-wire-items.ensures in
    let read : slice_get wires at ≡ Some w0 = subst (λ (z : List Wire). slice_get z at ≡ Some w0) same_list here in
    let any_same : (q : Option ℕ × ℕ) → list_any (leads_to k q) (take at xs) ≡ list_any (leads_to k q) (take at wires) =
    λ q. ap (λ (z : List Wire). list_any (leads_to k q) (take at z)) same_list in
    elim c.match-sourced_port.branch [
      | in-Some+in_ok-insert+then-not-branch w ↦
          let d : Option ℕ × ℕ = w.in-Some.target in
          let leads : target_of k w0 ≡ Some d = sym c.sourced_port.ensures ∙ w.in-Some.is in
          record {
            seen = λ q. ap (λ (z : BTreeSet (Option ℕ × ℕ)). contains order z q) w.sourced-is
                ∙ seen_more k xs at w0 here d q _ _ leads (w.in_ok-insert.ensures.updates.0 q) (c.loop-wire.invariant.seen q);
            first = first_more_second k at w0 read d leads
                (sym (any_same d) ∙ was_there w.in_ok-insert.field-0 _ _ w.in_ok-insert.ensures.added w.if-not-branch.true (c.loop-wire.invariant.seen d))
                c.loop-wire.found c.match-sourced_port.found
                (w.found-is ∙ w.earlier-found.ensures ∙ ap (λ (z : Refusal). earlier c.loop-wire.found (Some z)) w.refusal_at-second.ensures) c.loop-wire.invariant.first;
          }
      | in-Some+in_ok-insert+else-not-branch w ↦
          let d : Option ℕ × ℕ = w.in-Some.target in
          let leads : target_of k w0 ≡ Some d = sym c.sourced_port.ensures ∙ w.in-Some.is in
          let new : list_any (leads_to k d) (take at wires) ≡ false =
          sym (any_same d) ∙ was_not_there w.in_ok-insert.field-0 _ _ w.in_ok-insert.ensures.added w.if-not-branch.false (c.loop-wire.invariant.seen d) in
          record {
            seen = λ q. ap (λ (z : BTreeSet (Option ℕ × ℕ)). contains order z q) w.sourced-is
                ∙ seen_more k xs at w0 here d q _ _ leads (w.in_ok-insert.ensures.updates.0 q) (c.loop-wire.invariant.seen q);
            first = first_more_none k at w0 read
                (λ t e f. false≢true (sym new ∙ ap (λ (z : Option ℕ × ℕ). list_any (leads_to k z) (take at wires)) (some_is t d (sym e ∙ leads)) ∙ f))
                c.loop-wire.found c.match-sourced_port.found w.found-is c.loop-wire.invariant.first;
          }
      | in_default w ↦
          let leads : target_of k w0 ≡ None = sym c.sourced_port.ensures ∙ w.in_default.is in
          record {
            seen = λ q. ap (λ (z : BTreeSet (Option ℕ × ℕ)). contains order z q) w.sourced-is ∙ seen_same k xs at w0 here q _ leads (c.loop-wire.invariant.seen q);
            first = first_more_none k at w0 read (λ t e f. w.in_default.not-Some t (c.sourced_port.ensures ∙ e))
                c.loop-wire.found c.match-sourced_port.found w.found-is c.loop-wire.invariant.first;
          }
    ]

pub returns : goal.returns
returns c =
    let k = c.args.component.now in
    let wires : List Wire = c.wires_of-wire-items.result.now in
    let all : length wires ≤ c.loop-wire.wire-index = c.loop-wire-test.false in
    let same : c.loop-wire.wire-index ≡ length wires = omega arith in
    first_of_wires k c.loop-wire.found (subst (λ (n : ℕ). IsFirst (Below (IsSecondAt k) n) c.loop-wire.found) (same ∙ ap (λ (z : List Wire). length z) c.wires_of-wire-items.ensures) c.loop-wire.invariant.first)
