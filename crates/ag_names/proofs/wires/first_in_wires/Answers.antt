use Rattle.std.proofs.Common.{List, subst}
use Rattle.ag_names.specs.Order.{IsFirst, InSome}
use Rattle.ag_aadl.specs.declared.packages.Wire.{Wire}
use Rattle.ag_names.specs.Broken.{ConnectionBreaks}
use Rattle.ag_names.proofs.First.{some_all, some_none, some_step}
use Rattle.ag_names.proofs.wires.first_in_wires.Goals as goal

pub loop-wire-init : goal.loop-wire-init
loop-wire-init c = some_none (ConnectionBreaks c.args.component.now.all c.args.component.now.implementation) c.wires_of-wire-items.result.now

pub loop-wire-preserved : goal.loop-wire-preserved
loop-wire-preserved c =
    some_step (ConnectionBreaks c.args.component.now.all c.args.component.now.implementation) c.wires_of-wire-items.result.now c.loop-wire.wire-index c.wire-item.result c.loop-wire.found c.first_in_wire.result c.earlier-found.result
    c.loop-wire-test.true c.wire-item.is c.earlier-found.ensures c.loop-wire.invariant c.first_in_wire.ensures

pub returns : goal.returns
returns c =
    subst (λ (z : List Wire). IsFirst (InSome z (ConnectionBreaks c.args.component.now.all c.args.component.now.implementation)) c.loop-wire.found) c.wires_of-wire-items.ensures
    (some_all (ConnectionBreaks c.args.component.now.all c.args.component.now.implementation) c.wires_of-wire-items.result.now c.loop-wire.wire-index c.loop-wire.found c.loop-wire-test.false c.loop-wire.invariant)
