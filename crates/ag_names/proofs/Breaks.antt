-- What packages, implementations, subcomponents and connections break is what their parts break.
use Rattle.std.proofs.Common.{◌⊎◌, Option, List, inl, inr}
use Rattle.ag_base.specs.declared.place.Refusal.{Refusal}
use Rattle.ag_aadl.specs.declared.packages.Package.{Package}
use Rattle.ag_names.specs.Broken.{Breaks, package_twice, in_package, in_type, in_implementation, TypeBreaks, PackageBreaks, type_twice, implementation_twice, ImplementationBreaks, no_type, subcomponent_twice, connection_twice, in_subcomponent, in_connection, two_sources, SubcomponentBreaks, ConnectionBreaks, IsSecondSource, IsTypeless}
use Rattle.ag_names.specs.Order.{IsFirst, InSome, earlier}
use Rattle.ag_names.specs.Passes.{DeclarationsBreak, NamesAreTwice}
use Rattle.ag_names.specs.Placed.{Implementation, types, implementations}
use Rattle.ag_names.specs.Twice.{IsTwice, package_names, type_names, implementation_names}
use Rattle.ag_names.proofs.First.{first_joined, first_same}

-- ---- a package

package_together : (p : Package) (r : Refusal) → IsTwice (type_names p.items) r ⊎ IsTwice (implementation_names p.items) r → PackageBreaks p r
package_together p r (inl t) = type_twice t
package_together p r (inr t) = implementation_twice t

package_apart : (p : Package) (r : Refusal) → PackageBreaks p r → IsTwice (type_names p.items) r ⊎ IsTwice (implementation_names p.items) r
package_apart p r (type_twice t) = inl t
package_apart p r (implementation_twice t) = inr t

pub first_of_package : (p : Package) (a b : Option Refusal) → IsFirst (IsTwice (type_names p.items)) a → IsFirst (IsTwice (implementation_names p.items)) b → IsFirst (PackageBreaks p) (earlier a b)
first_of_package p a b h k =
    let P : Refusal → Type 0 = IsTwice (type_names p.items) in
    let Q : Refusal → Type 0 = IsTwice (implementation_names p.items) in
    first_same (λ r. P r ⊎ Q r) (PackageBreaks p) (earlier a b) (package_together p) (package_apart p) (first_joined P Q a b h k)

-- ---- an implementation

module _ (all : List Package) (i : Implementation) where
  abbrev ItsNames : Refusal → Type 0
  ItsNames r = IsTypeless all i r ⊎ NamesAreTwice i.body r

  abbrev ItsParts : Refusal → Type 0
  ItsParts r = ItsNames r ⊎ InSome i.body.subs (SubcomponentBreaks all i.owner) r

  abbrev ItsWires : Refusal → Type 0
  ItsWires r = InSome i.body.wires (ConnectionBreaks all i) r ⊎ IsSecondSource all i r

  implementation_together : (r : Refusal) → ItsParts r ⊎ ItsWires r → ImplementationBreaks all i r
  implementation_together r (inl (inl (inl t))) = no_type t
  implementation_together r (inl (inl (inr (inl t)))) = subcomponent_twice t
  implementation_together r (inl (inl (inr (inr t)))) = connection_twice t
  implementation_together r (inl (inr s)) = in_subcomponent s.0 s.1 s.2
  implementation_together r (inr (inl w)) = in_connection w.0 w.1 w.2
  implementation_together r (inr (inr t)) = two_sources t

  implementation_apart : (r : Refusal) → ImplementationBreaks all i r → ItsParts r ⊎ ItsWires r
  implementation_apart r (no_type t) = inl (inl (inl t))
  implementation_apart r (subcomponent_twice t) = inl (inl (inr (inl t)))
  implementation_apart r (connection_twice t) = inl (inl (inr (inr t)))
  implementation_apart r (in_subcomponent s c b) = inl (inr (s, c, b))
  implementation_apart r (in_connection w c b) = inr (inl (w, c, b))
  implementation_apart r (two_sources t) = inr (inr t)

  pub first_of_implementation : (a b c d e : Option Refusal) → IsFirst (IsTypeless all i) a → IsFirst (NamesAreTwice i.body) b → IsFirst (InSome i.body.subs (SubcomponentBreaks all i.owner)) c
      → IsFirst (InSome i.body.wires (ConnectionBreaks all i)) d → IsFirst (IsSecondSource all i) e
      → IsFirst (ImplementationBreaks all i) (earlier (earlier (earlier a b) c) (earlier d e))
  first_of_implementation a b c d e ha hb hc hd he =
      first_same (λ r. ItsParts r ⊎ ItsWires r) (ImplementationBreaks all i) (earlier (earlier (earlier a b) c) (earlier d e)) implementation_together implementation_apart
      (first_joined ItsParts ItsWires (earlier (earlier a b) c) (earlier d e)
      (first_joined ItsNames (InSome i.body.subs (SubcomponentBreaks all i.owner)) (earlier a b) c (first_joined (IsTypeless all i) (NamesAreTwice i.body) a b ha hb) hc)
      (first_joined (InSome i.body.wires (ConnectionBreaks all i)) (IsSecondSource all i) d e hd he))

-- ---- all packages

module _ (all : List Package) where
  abbrev InNames : Refusal → Type 0
  InNames r = IsTwice (package_names all) r ⊎ InSome all (DeclarationsBreak all) r

  abbrev InDeclared : Refusal → Type 0
  InDeclared r = InSome (types all) TypeBreaks r ⊎ InSome (implementations all) (ImplementationBreaks all) r

  all_together : (r : Refusal) → InNames r ⊎ InDeclared r → Breaks all r
  all_together r (inl (inl t)) = package_twice t
  all_together r (inl (inr p)) = in_package p.0 p.1 p.2.0 p.2.1
  all_together r (inr (inl t)) = in_type t.0 t.1 t.2
  all_together r (inr (inr i)) = in_implementation i.0 i.1 i.2

  all_apart : (r : Refusal) → Breaks all r → InNames r ⊎ InDeclared r
  all_apart r (package_twice t) = inl (inl t)
  all_apart r (in_package p c s b) = inl (inr (p, c, (s, b)))
  all_apart r (in_type t c b) = inr (inl (t, c, b))
  all_apart r (in_implementation i c b) = inr (inr (i, c, b))

  pub first_of_all : (a b c d : Option Refusal) → IsFirst (IsTwice (package_names all)) a → IsFirst (InSome all (DeclarationsBreak all)) b
      → IsFirst (InSome (types all) TypeBreaks) c → IsFirst (InSome (implementations all) (ImplementationBreaks all)) d
      → IsFirst (Breaks all) (earlier (earlier a b) (earlier c d))
  first_of_all a b c d ha hb hc hd =
      first_same (λ r. InNames r ⊎ InDeclared r) (Breaks all) (earlier (earlier a b) (earlier c d)) all_together all_apart
      (first_joined InNames InDeclared (earlier a b) (earlier c d)
      (first_joined (IsTwice (package_names all)) (InSome all (DeclarationsBreak all)) a b ha hb)
      (first_joined (InSome (types all) TypeBreaks) (InSome (implementations all) (ImplementationBreaks all)) c d hc hd))
