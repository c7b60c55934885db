use Rattle.std.proofs.Common.{Some, subst, sym, ap, ◌∙◌}
use Rattle.ag_base.specs.declared.place.Refusal.{Refusal}
use Rattle.ag_names.specs.Broken.{ConnectionBreaks}
use Rattle.ag_names.specs.Order.{IsFirst, earlier}
use Rattle.ag_names.proofs.Joined.{first_between, first_endless, first_sourceless, first_targetless, missing_at}
use Rattle.ag_names.proofs.wires.first_in_wire.Goals as goal

pub returns-in-Some-Some : goal.returns-in-Some-Some
returns-in-Some-Some c =
    let k = c.args.component.now in
    first_between k.all k.implementation c.args.wire.now c.in-Some-Some.source c.in-Some-Some.target (sym c.in-Some-Some.ensures) (sym c.in-Some-Some.ensures') c.connected_refusal.result c.connected_refusal.ensures

pub returns-in-Some-None : goal.returns-in-Some-None
returns-in-Some-None c =
    let k = c.args.component.now in
    subst (λ (z : Refusal). IsFirst (ConnectionBreaks k.all k.implementation c.args.wire.now) (Some z)) (sym c.no_port.ensures)
    (first_targetless k.all k.implementation c.args.wire.now c.in-Some-None.field-0-0 (sym c.in-Some-None.ensures) (sym c.in-Some-None.ensures'))

pub returns-in-None-Some : goal.returns-in-None-Some
returns-in-None-Some c =
    let k = c.args.component.now in
    subst (λ (z : Refusal). IsFirst (ConnectionBreaks k.all k.implementation c.args.wire.now) (Some z)) (sym c.no_port-in-None-Some.ensures)
    (first_sourceless k.all k.implementation c.args.wire.now c.in-None-Some.field-0-1 (sym c.in-None-Some.ensures) (sym c.in-None-Some.ensures'))

pub returns-in-None-None : goal.returns-in-None-None
returns-in-None-None c =
    let k = c.args.component.now in
    let told = c.earlier.ensures ∙ ap (λ (z : Refusal). earlier (Some z) (Some c.no_port-in-None-None-2.result)) c.no_port-in-None-None.ensures
    ∙ ap (λ (z : Refusal). earlier (Some (missing_at c.args.wire.now.from)) (Some z)) c.no_port-in-None-None-2.ensures in
    subst (IsFirst (ConnectionBreaks k.all k.implementation c.args.wire.now)) (sym told)
    (first_endless k.all k.implementation c.args.wire.now (sym c.in-None-None.ensures) (sym c.in-None-None.ensures'))
