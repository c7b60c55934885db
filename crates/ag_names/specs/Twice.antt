-- Names that are declared a second time (SAE AS5506).
use Rattle.std.specs.Prelude.{◌≡◌, ℕ, ◌&&◌, Bool, true, List, [], ◌∷◌, map, Contains}
use Rattle.ag_base.specs.declared.place.Place.{Place}
use Rattle.ag_base.specs.declared.place.Refusal.{Refusal}
use Rattle.ag_base.specs.declared.place.Rule.TheVariants.{Twice}
use Rattle.ag_base.specs.Rules.{is_before}
use Rattle.ag_aadl.specs.declared.packages.Body.{Body}
use Rattle.ag_aadl.specs.declared.packages.Frame.{Frame}
use Rattle.ag_terms.specs.declared.names.Ident.{Ident}
use Rattle.ag_aadl.specs.declared.packages.Item.{Item}
use Rattle.ag_aadl.specs.declared.packages.Item.TheVariants as item
use Rattle.ag_aadl.specs.declared.packages.Package.{Package}
use Rattle.ag_terms.specs.Names.{same}

-- a declared name and its place; that of an implementation has two parts, of which the first is its type's
pub record Declared : Type 0 where
  pub type_name : List ℕ
  pub name : List ℕ
  pub place : Place

-- the name of anything but an implementation
abbrev pub simple : Ident → Declared
simple i = record { type_name = []; name = i.text; place = i.place }

-- the name of an implementation, at its second part
abbrev pub implementation_name : Body → Declared
implementation_name b = record { type_name = b.frame.text; name = b.name.text; place = b.name.place }

-- both parts differ in the case of letters at most
abbrev pub same_name : Declared → Declared → Bool
same_name a b = same a.type_name b.type_name && same a.name b.name

-- Of two names of one name space that are the same, the one whose place is later is refused there.
pub record IsTwice (names : List Declared) (r : Refusal) : Type 0 where
  pub first : Declared
  pub second : Declared
  pub one : Contains names first
  pub other : Contains names second
  pub same : same_name first second ≡ true
  pub later : is_before first.place second.place ≡ true
  pub refusal : r ≡ record { place = second.place; rule = Twice }

-- the name spaces: packages, the types of a package and its implementations, ports, subcomponents, connections

abbrev pub package_names : List Package → List Declared
package_names ps = map (λ p. simple p.name) ps

abbrev pub type_names : List Item → List Declared
type_names [] = []
type_names (item.Frame f ∷ items) = simple f.name ∷ type_names items
type_names (item.Body b ∷ items) = type_names items
type_names (item.Library t ∷ items) = type_names items

abbrev pub implementation_names : List Item → List Declared
implementation_names [] = []
implementation_names (item.Frame f ∷ items) = implementation_names items
implementation_names (item.Body b ∷ items) = implementation_name b ∷ implementation_names items
implementation_names (item.Library t ∷ items) = implementation_names items

abbrev pub port_names : Frame → List Declared
port_names f = map (λ p. simple p.name) f.ports

abbrev pub subcomponent_names : Body → List Declared
subcomponent_names b = map (λ s. simple s.name) b.subs

abbrev pub connection_names : Body → List Declared
connection_names b = map (λ w. simple w.name) b.wires
