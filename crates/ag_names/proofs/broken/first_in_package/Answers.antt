use Rattle.std.proofs.Common.{List, subst, sym}
use Rattle.ag_aadl.specs.declared.packages.Item.{Item}
use Rattle.ag_names.specs.Broken.{PackageBreaks}
use Rattle.ag_names.specs.Order.{IsFirst}
use Rattle.ag_names.specs.Twice.{IsTwice, type_names, implementation_names}
use Rattle.ag_names.proofs.Breaks.{first_of_package}
use Rattle.ag_names.proofs.broken.first_in_package.Goals as goal

pub returns : goal.returns
returns c =
    let p = c.args.«package».now in
    let e = c.as_slice-items.ensures in
    let types = subst (λ (z : List Item). IsFirst (IsTwice (type_names z)) c.in_ok-types.types) e c.in_ok-types.ensures in
    let implementations = subst (λ (z : List Item). IsFirst (IsTwice (implementation_names z)) c.in_ok-first_implementation_twice.field-0) e c.in_ok-first_implementation_twice.ensures in
    subst (IsFirst (PackageBreaks p)) (sym c.earlier.ensures) (first_of_package p c.in_ok-types.types c.in_ok-first_implementation_twice.field-0 types implementations)
