-- What a use of a package, of a type or of an implementation finds (SAE AS5506): the first of that name, and of that
-- category.
use Rattle.std.specs.Prelude.{ℕ, ◌&&◌, Bool, true, false, List, ◌∷◌, Option, Some, None, find}
use Rattle.std.specs.List.{list_any}
use Rattle.ag_base.specs.declared.place.Place.{Place}
use Rattle.ag_aadl.specs.declared.packages.Body.{Body}
use Rattle.ag_aadl.specs.declared.packages.Category.{Category}
use Rattle.ag_aadl.specs.declared.packages.Category.TheVariants.{System, Process, Thread, Device, Abstract}
use Rattle.ag_terms.specs.declared.names.Ident.{Ident}
use Rattle.ag_aadl.specs.declared.packages.Package.{Package}
use Rattle.ag_terms.specs.declared.names.Path.{Path}
use Rattle.ag_aadl.specs.declared.packages.Sub.{Sub}
use Rattle.ag_terms.specs.Names.{same}
use Rattle.ag_names.specs.Placed.{Type', Implementation, types, implementations}

-- two categories are the same
abbrev pub same_category : Category → Category → Bool
same_category System System = true
same_category Process Process = true
same_category Thread Thread = true
same_category Device Device = true
same_category Abstract Abstract = true
same_category _ _ = false

-- a type as a use names it
pub record TypeName : Type 0 where
  pub «package» : List ℕ
  pub category : Category
  pub name : List ℕ

-- the type is of a package of that name, and has that category and that name
abbrev pub is_type : TypeName → Type' → Bool
is_type n t =
    same t.owner.name.text n.«package» && (same_category t.frame.category n.category && same t.frame.name.text n.name)

-- the implementation is one of a type so named, of its category, and has this name
abbrev pub is_implementation : TypeName → List ℕ → Implementation → Bool
is_implementation n name i =
    (same i.owner.name.text n.«package»
    && (same_category i.body.category n.category && same i.body.frame.text n.name))
    && same i.body.name.text name

abbrev pub type_named : List Package → TypeName → Option Type'
type_named all n = find (is_type n) (types all)

abbrev pub implementation_named : List Package → TypeName → List ℕ → Option Implementation
implementation_named all n name = find (is_implementation n name) (implementations all)

-- some file has a package of that name
abbrev pub is_package : List Package → List ℕ → Bool
is_package all name = list_any (λ p. same p.name.text name) all

-- a package may use a package of that name: itself, or one that it names by `with`
abbrev pub may_use : Package → List ℕ → Bool
may_use p name = list_any (λ i. same i.text name) (p.name ∷ p.imports)

-- the package that a use means: the one that it names, else the one in which it stands
abbrev pub owner_of : Package → Option Ident → List ℕ
owner_of p None = p.name.text
owner_of p (Some owner) = owner.text

-- the first place of a use
abbrev pub place_of : Path → Option Ident → Place
place_of path None = path.name.place
place_of path (Some owner) = owner.place

abbrev pub use_place : Path → Place
use_place path = place_of path path.«package»

-- the type of an implementation
abbrev pub own_type : Package → Body → TypeName
own_type p b = record { «package» = p.name.text; category = b.category; name = b.frame.text }

-- the type that a subcomponent of this category names by a path
abbrev pub named_type : Package → Category → Path → TypeName
named_type p category path =
    record { «package» = owner_of p path.«package»; category = category; name = path.name.text }

-- the type of a subcomponent
abbrev pub type_by : List Package → Package → Category → Option Path → Option Type'
type_by all p category None = None
type_by all p category (Some path) = type_named all (named_type p category path)

abbrev pub type_of : List Package → Package → Sub → Option Type'
type_of all p s = type_by all p s.category s.of

-- the implementation of a subcomponent, where it names one
abbrev pub implementation_as : List Package → TypeName → Option Ident → Option Implementation
implementation_as all n None = None
implementation_as all n (Some name) = implementation_named all n name.text

abbrev pub implementation_by : List Package → Package → Category → Option Path → Option Implementation
implementation_by all p category None = None
implementation_by all p category (Some path) = implementation_as all (named_type p category path) path.body

abbrev pub implementation_of : List Package → Package → Sub → Option Implementation
implementation_of all p s = implementation_by all p s.category s.of
