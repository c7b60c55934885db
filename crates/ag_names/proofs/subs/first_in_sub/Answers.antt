use Rattle.std.proofs.Common.{◌≡◌, Option, Some, ap, subst, sym, ◌∙◌}
use Rattle.ag_base.specs.declared.place.Refusal.{Refusal}
use Rattle.ag_names.specs.Broken.{SubcomponentBreaks}
use Rattle.ag_names.specs.Found.{TypeName, named_type}
use Rattle.ag_names.specs.Graph.{number_as}
use Rattle.ag_names.specs.Order.{IsFirst, earlier}
use Rattle.ag_names.specs.Placed.{Implementation}
use Rattle.ag_names.specs.Tables.{missing_refusal, recursion_refusal}
use Rattle.ag_names.proofs.Uses.{first_of_sub}
use Rattle.ag_names.proofs.subs.first_in_sub.Goals as goal

pub returns : goal.returns
returns c =
    let all = c.args.index.now in
    let p = c.args.entry.now.owner in
    let s = c.args.sub.now in
    let path = c.in_ok-path.path.now in
    let flags = c.args.recursive.now in
    let is : s.of ≡ Some path = sym c.in_ok-path.ensures.value in
    let named : c.named-name.result ≡ named_type p s.category path =
    c.named-name.ensures ∙ ap (λ (i : Implementation). named_type i.owner s.category path) c.entry.view_is in
    let a = c.package_refusal-package.result in
    let b = c.classifier_refusal-classifier.result in
    let d = c.recursive_refusal-recursive.result in
    let missing = c.classifier_refusal-classifier.ensures ∙ ap (λ (n : TypeName). missing_refusal all n path) named in
    let recursion = c.recursive_refusal-recursive.ensures ∙ ap (λ (n : TypeName). recursion_refusal flags (number_as all n path.body) s.name.place) named in
    let told = c.earlier-2.ensures ∙ ap (λ (x : Option Refusal). earlier x d) c.earlier.ensures in
    subst (IsFirst (SubcomponentBreaks all p s)) (sym told) (first_of_sub all p s path is flags c.requires.circles a b d c.package_refusal-package.ensures missing recursion)
