use Rattle.std.proofs.Common.{List, Option, ap, subst, sym, ◌∙◌}
use Rattle.ag_aadl.specs.declared.packages.Package.{Package}
use Rattle.ag_base.specs.declared.place.Refusal.{Refusal}
use Rattle.ag_names.specs.Broken.{Breaks}
use Rattle.ag_names.specs.Order.{IsFirst, earlier}
use Rattle.ag_names.specs.Twice.{IsTwice, package_names}
use Rattle.ag_names.proofs.Breaks.{first_of_all}
use Rattle.ag_names.proofs.broken.first_broken.Goals as goal

pub returns : goal.returns
returns c =
    let all = c.args.index.now in
    let a = c.in_ok-names.names in
    let b = c.in_ok-packages.packages in
    let t = c.in_ok-types.types in
    let i = c.in_ok-implementations.implementations in
    let names = subst (λ (z : List Package). IsFirst (IsTwice (package_names z)) a) c.packages.ensures c.in_ok-names.ensures in
    let told = c.earlier-3.ensures ∙ ap (λ (x : Option Refusal). earlier x c.earlier-2.result) c.earlier.ensures ∙ ap (λ (x : Option Refusal). earlier (earlier a b) x) c.earlier-2.ensures in
    subst (IsFirst (Breaks all)) (sym told) (first_of_all all a b t i names c.in_ok-packages.ensures c.in_ok-types.ensures c.in_ok-implementations.ensures)
