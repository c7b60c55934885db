use Rattle.std.proofs.Common.{List, ap, subst, ◌∙◌}
use Rattle.ag_aadl.specs.declared.packages.Port.{Port}
use Rattle.ag_names.specs.Broken.{PortBreaks}
use Rattle.ag_names.specs.Order.{IsFirst, InSome}
use Rattle.ag_names.specs.Placed.{Type'}
use Rattle.ag_names.proofs.First.{some_all, some_none, some_step}
use Rattle.ag_names.proofs.types.first_port_unimported.Goals as goal

pub loop-port-init : goal.loop-port-init
loop-port-init c = some_none (PortBreaks c.args.entry.now) c.as_slice-port-items.result.now

pub loop-port-preserved : goal.loop-port-preserved
loop-port-preserved c =
    some_step (PortBreaks c.args.entry.now) c.as_slice-port-items.result.now c.loop-port.port-index c.port-item.result c.loop-port.found c.port_unimported.result c.earlier-found.result
    c.loop-port-test.true c.port-item.is c.earlier-found.ensures c.loop-port.invariant c.port_unimported.ensures

pub returns : goal.returns
returns c =
    let P = PortBreaks c.args.entry.now in
    subst (λ (z : List Port). IsFirst (InSome z P) c.loop-port.found) (c.as_slice-port-items.ensures ∙ ap (λ (t : Type'). t.frame.ports) c.entry.view_is)
    (some_all P c.as_slice-port-items.result.now c.loop-port.port-index c.loop-port.found c.loop-port-test.false c.loop-port.invariant)
