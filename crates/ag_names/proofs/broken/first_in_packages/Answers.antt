use Rattle.std.proofs.Common.{List, subst}
use Rattle.ag_names.specs.Order.{IsFirst, InSome}
use Rattle.ag_aadl.specs.declared.packages.Package.{Package}
use Rattle.ag_names.specs.Passes.{DeclarationsBreak}
use Rattle.ag_names.proofs.First.{some_all, some_none, some_step}
use Rattle.ag_names.proofs.broken.first_in_packages.Goals as goal

pub loop-package-init : goal.loop-package-init
loop-package-init c = some_none (DeclarationsBreak c.args.index.now) c.packages-package-items.result.now

pub loop-package-preserved : goal.loop-package-preserved
loop-package-preserved c =
    some_step (DeclarationsBreak c.args.index.now) c.packages-package-items.result.now c.loop-package.package-index c.package-item.result c.loop-package.found c.in_ok-first_in_declarations.field-0 c.earlier-found.result
    c.loop-package-test.true c.package-item.is c.earlier-found.ensures c.loop-package.invariant c.in_ok-first_in_declarations.ensures

pub returns : goal.returns
returns c =
    subst (λ (z : List Package). IsFirst (InSome z (DeclarationsBreak c.args.index.now)) c.loop-package.found) c.packages-package-items.ensures
    (some_all (DeclarationsBreak c.args.index.now) c.packages-package-items.result.now c.loop-package.package-index c.loop-package.found c.loop-package-test.false c.loop-package.invariant)
