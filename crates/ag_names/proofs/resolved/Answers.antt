use Rattle.std.proofs.Common.{List, Option, None, subst}
use Rattle.ag_aadl.specs.declared.packages.Package.{Package}
use Rattle.ag_base.specs.declared.place.Refusal.{Refusal}
use Rattle.ag_names.specs.Broken.{Breaks}
use Rattle.ag_names.specs.Links.{AreLinks}
use Rattle.ag_names.specs.Order.{IsFirst}
use Rattle.ag_names.proofs.resolved.Goals as goal

pub returns-clause-links : goal.returns-clause-links
returns-clause-links c =
    let index = c.in_ok-index.index in (
      subst (λ (all : List Package). AreLinks all c.in_ok-links-in-None.field-0) c.in_ok-index.ensures c.in_ok-links-in-None.ensures,
      subst (λ (all : List Package). IsFirst (Breaks all) None) c.in_ok-index.ensures
          (subst (λ (r : Option Refusal). IsFirst (Breaks index) r) c.in-None.is c.in_ok-refusal.ensures),
    )
