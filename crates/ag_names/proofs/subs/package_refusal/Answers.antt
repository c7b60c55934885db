use Rattle.std.proofs.Common.{◌≡◌, Option, Some, ap, sym, ◌∙◌}
use Rattle.std.specs.Prelude.{slice_get}
use Rattle.ag_aadl.specs.declared.packages.Package.{Package}
use Rattle.ag_names.specs.Found.{is_package, may_use}
use Rattle.ag_names.specs.Placed.{Implementation}
use Rattle.ag_names.specs.Tables.{may_package_use}
use Rattle.ag_names.proofs.Uses.{first_not_there, first_unimported, first_used}
use Rattle.ag_names.proofs.subs.package_refusal.Goals as goal

pub returns-then-not-is_package : goal.returns-then-not-is_package
returns-then-not-is_package c =
    let name = c.in_ok-owner.owner.now in
    let is : c.args.path.now.«package» ≡ Some name = sym c.in_ok-owner.ensures.value in
    first_not_there c.args.index.now c.args.entry.now.owner c.args.path.now name is
    (ap (is_package c.args.index.now) (sym c.as_bytes-name.ensures) ∙ sym c.is_package.ensures ∙ c.if-not-is_package.true) c.refusal_at.result c.refusal_at.ensures

pub returns-then-not-may_use : goal.returns-then-not-may_use
returns-then-not-may_use c =
    let name = c.in_ok-owner.owner.now in
    let owner = c.args.entry.now.owner in
    let is : c.args.path.now.«package» ≡ Some name = sym c.in_ok-owner.ensures.value in
    let there = ap (is_package c.args.index.now) (sym c.as_bytes-name.ensures) ∙ sym c.is_package.ensures ∙ c.if-not-is_package.false in
    let uses : may_use owner name.text ≡ c.may_use.result =
    ap (may_use owner) (sym c.as_bytes-name.ensures) ∙ ap (λ (o : Option Package). may_package_use o c.as_bytes-name.result.now) (sym c.requires)
    ∙ ap (λ (i : Implementation). may_package_use (slice_get c.args.index.now i.at.0) c.as_bytes-name.result.now) (sym c.entry.view_is) ∙ sym c.may_use.ensures in
    first_unimported c.args.index.now owner c.args.path.now name is there (uses ∙ c.if-not-may_use.true) c.refusal_at-then-not-may_use.result c.refusal_at-then-not-may_use.ensures

pub returns : goal.returns
returns c =
    let name = c.in_ok-owner.owner.now in
    let owner = c.args.entry.now.owner in
    let is : c.args.path.now.«package» ≡ Some name = sym c.in_ok-owner.ensures.value in
    let there = ap (is_package c.args.index.now) (sym c.as_bytes-name.ensures) ∙ sym c.is_package.ensures ∙ c.if-not-is_package.false in
    let uses : may_use owner name.text ≡ c.may_use.result =
    ap (may_use owner) (sym c.as_bytes-name.ensures) ∙ ap (λ (o : Option Package). may_package_use o c.as_bytes-name.result.now) (sym c.requires)
    ∙ ap (λ (i : Implementation). may_package_use (slice_get c.args.index.now i.at.0) c.as_bytes-name.result.now) (sym c.entry.view_is) ∙ sym c.may_use.ensures in
    first_used c.args.index.now owner c.args.path.now name is there (uses ∙ c.if-not-may_use.false)
