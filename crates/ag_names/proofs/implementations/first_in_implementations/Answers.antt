use Rattle.std.proofs.Common.{List, subst}
use Rattle.ag_names.specs.Order.{IsFirst, InSome}
use Rattle.ag_names.specs.Broken.{ImplementationBreaks}
use Rattle.ag_names.specs.Placed.{Implementation}
use Rattle.ag_names.proofs.Owners.{implementation_owner_of}
use Rattle.ag_names.proofs.First.{some_all, some_none, some_step}
use Rattle.ag_names.proofs.implementations.first_in_implementations.Goals as goal

pub loop-entry-init : goal.loop-entry-init
loop-entry-init c = some_none (ImplementationBreaks c.args.index.now) c.implementations-entry-items.result.now

pub loop-entry-preserved : goal.loop-entry-preserved
loop-entry-preserved c =
    some_step (ImplementationBreaks c.args.index.now) c.implementations-entry-items.result.now c.loop-entry.entry-index c.entry-item.result c.loop-entry.found c.in_ok-first_in_implementation.field-0 c.earlier-found.result
    c.loop-entry-test.true c.entry-item.is c.earlier-found.ensures c.loop-entry.invariant c.in_ok-first_in_implementation.ensures

pub returns : goal.returns
returns c =
    subst (λ (z : List Implementation). IsFirst (InSome z (ImplementationBreaks c.args.index.now)) c.loop-entry.found) c.implementations-entry-items.ensures
    (some_all (ImplementationBreaks c.args.index.now) c.implementations-entry-items.result.now c.loop-entry.entry-index c.loop-entry.found c.loop-entry-test.false c.loop-entry.invariant)

pub first_in_implementation-requires : goal.first_in_implementation-requires
first_in_implementation-requires c = record {
  owner = implementation_owner_of c.args.index.now c.implementations-entry-items.result.now c.loop-entry.entry-index c.entry-item.result c.implementations-entry-items.ensures c.loop-entry-test.true c.entry-item.is;
  circles = c.requires;
}
