use Rattle.std.proofs.Common.{ap, subst, sym}
use Rattle.ag_aadl.specs.declared.packages.Body.{Body}
use Rattle.ag_names.specs.Order.{IsFirst}
use Rattle.ag_names.specs.Passes.{NamesAreTwice}
use Rattle.ag_names.specs.Placed.{Implementation}
use Rattle.ag_names.specs.Twice.{IsTwice, connection_names, subcomponent_names}
use Rattle.ag_names.proofs.First.{first_joined}
use Rattle.ag_names.proofs.implementations.first_name_twice.Goals as goal

pub returns : goal.returns
returns c =
    let b = c.args.entry.now.body in
    let e = ap (λ (i : Implementation). i.body) c.entry.view_is in
    let subs = subst (λ (z : Body). IsFirst (IsTwice (subcomponent_names z)) c.in_ok-sub.sub) e c.in_ok-sub.ensures in
    let wires = subst (λ (z : Body). IsFirst (IsTwice (connection_names z)) c.in_ok-first_connection_twice.field-0) e c.in_ok-first_connection_twice.ensures in
    subst (IsFirst (NamesAreTwice b)) (sym c.earlier.ensures)
    (first_joined (IsTwice (subcomponent_names b)) (IsTwice (connection_names b)) c.in_ok-sub.sub c.in_ok-first_connection_twice.field-0 subs wires)
