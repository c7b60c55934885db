use Rattle.std.proofs.Common.{subst, sym, ap, ◌∙◌}
use Rattle.ag_names.specs.Broken.{ImplementationBreaks}
use Rattle.ag_names.specs.Order.{IsFirst, earlier}
use Rattle.ag_names.specs.Passes.{HasSecondSource, TypeIsMissing, WiresBreak}
use Rattle.ag_names.specs.Tables.{Component}
use Rattle.ag_base.specs.declared.place.Refusal.{Refusal}
use Rattle.std.proofs.Common.{Option}
use Rattle.ag_names.proofs.Breaks.{first_of_implementation}
use Rattle.ag_names.proofs.implementations.first_in_implementation.Goals as goal

pub returns : goal.returns
returns c =
    let all = c.args.index.now in
    let i = c.args.entry.now in
    let e = c.in_ok-component.ensures in
    let a = c.typeless.result in
    let b = c.in_ok-first_name_twice.field-0 in
    let s = c.first_in_subs-subs.result in
    let w = c.first_in_wires.result in
    let t = c.in_ok-first_second_source.field-0 in
    let typeless = subst (λ (z : Component). IsFirst (TypeIsMissing z) a) e c.typeless.ensures in
    let wires = subst (λ (z : Component). IsFirst (WiresBreak z) w) e c.first_in_wires.ensures in
    let second = subst (λ (z : Component). IsFirst (HasSecondSource z) t) e c.in_ok-first_second_source.ensures in
    let told = c.earlier-2.ensures ∙ ap (λ (x : Option Refusal). earlier x c.earlier-wires.result) (c.earlier.ensures ∙ ap (λ (x : Option Refusal). earlier x s) c.earlier-names.ensures)
    ∙ ap (λ (x : Option Refusal). earlier (earlier (earlier a b) s) x) c.earlier-wires.ensures in
    subst (IsFirst (ImplementationBreaks all i)) (sym told) (first_of_implementation all i a b s w t typeless c.in_ok-first_name_twice.ensures c.first_in_subs-subs.ensures wires second)
