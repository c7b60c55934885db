use Rattle.std.proofs.Common.{List, ap, subst, ◌∙◌}
use Rattle.ag_names.specs.Order.{IsFirst, InSome}
use Rattle.ag_aadl.specs.declared.packages.Sub.{Sub}
use Rattle.ag_names.specs.Broken.{SubcomponentBreaks}
use Rattle.ag_names.specs.Placed.{Implementation}
use Rattle.ag_names.proofs.First.{some_all, some_none, some_step}
use Rattle.ag_names.proofs.subs.first_in_subs.Goals as goal

pub loop-sub-init : goal.loop-sub-init
loop-sub-init c = some_none (SubcomponentBreaks c.args.index.now c.args.entry.now.owner) c.as_slice-sub-items.result.now

pub loop-sub-preserved : goal.loop-sub-preserved
loop-sub-preserved c =
    some_step (SubcomponentBreaks c.args.index.now c.args.entry.now.owner) c.as_slice-sub-items.result.now c.loop-sub.sub-index c.sub-item.result c.loop-sub.found c.first_in_sub.result c.earlier-found.result
    c.loop-sub-test.true c.sub-item.is c.earlier-found.ensures c.loop-sub.invariant c.first_in_sub.ensures

pub returns : goal.returns
returns c =
    subst (λ (z : List Sub). IsFirst (InSome z (SubcomponentBreaks c.args.index.now c.args.entry.now.owner)) c.loop-sub.found) (c.as_slice-sub-items.ensures ∙ ap (λ (i : Implementation). i.body.subs) c.entry.view_is)
    (some_all (SubcomponentBreaks c.args.index.now c.args.entry.now.owner) c.as_slice-sub-items.result.now c.loop-sub.sub-index c.loop-sub.found c.loop-sub-test.false c.loop-sub.invariant)
