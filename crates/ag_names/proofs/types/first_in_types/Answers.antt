use Rattle.std.proofs.Common.{List, subst}
use Rattle.ag_names.specs.Broken.{TypeBreaks}
use Rattle.ag_names.specs.Order.{IsFirst, InSome}
use Rattle.ag_names.specs.Placed.{Type'}
use Rattle.ag_names.proofs.First.{some_all, some_none, some_step}
use Rattle.ag_names.proofs.Owners.{type_owner_of}
use Rattle.ag_names.proofs.types.first_in_types.Goals as goal

pub loop-entry-init : goal.loop-entry-init
loop-entry-init c = some_none TypeBreaks c.types-entry-items.result.now

pub loop-entry-preserved : goal.loop-entry-preserved
loop-entry-preserved c =
    some_step TypeBreaks c.types-entry-items.result.now c.loop-entry.entry-index c.entry-item.result c.loop-entry.found c.in_ok-first_in_type.field-0 c.earlier-found.result
    c.loop-entry-test.true c.entry-item.is c.earlier-found.ensures c.loop-entry.invariant c.in_ok-first_in_type.ensures

pub returns : goal.returns
returns c =
    subst (λ (z : List Type'). IsFirst (InSome z TypeBreaks) c.loop-entry.found) c.types-entry-items.ensures
    (some_all TypeBreaks c.types-entry-items.result.now c.loop-entry.entry-index c.loop-entry.found c.loop-entry-test.false c.loop-entry.invariant)

pub first_in_type-requires : goal.first_in_type-requires
first_in_type-requires c =
    type_owner_of c.args.index.now c.types-entry-items.result.now c.loop-entry.entry-index c.entry-item.result c.types-entry-items.ensures c.loop-entry-test.true c.entry-item.is
