-- What is looked up of a package or a type at a position.
use Rattle.std.specs.Prelude.{◌≡◌, ℕ, Bool, false, ◌&&◌, ◌||◌, List, Option, None, Some, is_none, is_some, position, slice_index_or, if◌then◌else◌}
use Rattle.std.specs.BTreeSet.{BTreeSet, contains}
use Rattle.std.specs.Ordering.{nat_cmp}
use Rattle.ag_base.specs.declared.place.Place.{Place}
use Rattle.ag_base.specs.declared.place.Refusal.{Refusal}
use Rattle.ag_base.specs.declared.place.Rule.TheVariants.{NoClassifier, Recursive}
use Rattle.ag_aadl.specs.declared.packages.Package.{Package}
use Rattle.ag_aadl.specs.declared.packages.Sub.{Sub}
use Rattle.ag_aadl.specs.declared.packages.Wire.{Wire}
use Rattle.ag_terms.specs.declared.names.Path.{Path}
use Rattle.ag_terms.specs.Names.{same}
use Rattle.ag_names.specs.Ends.{EndPoint, end_point}
use Rattle.ag_names.specs.Found.{TypeName, may_use, own_type, type_named, type_of, implementation_as, use_place}
use Rattle.ag_names.specs.Links.{wire_link}
use Rattle.ag_names.specs.declared.links.WireLink.{WireLink}
use Rattle.ag_names.specs.Ports.{has_stream}
use Rattle.ag_names.specs.Placed.{Type', Implementation, is_set_aside}

-- the position of the first port of that name of a type, if there is the type
abbrev pub port_position : Option Type' → List ℕ → Option ℕ
port_position None name = None
port_position (Some t) name = position (λ p. same p.name.text name) t.frame.ports

-- a package, if there is one, may use one of that name
abbrev pub may_package_use : Option Package → List ℕ → Bool
may_package_use None name = false
may_package_use (Some p) name = may_use p name

-- the rule that a path breaks whose type or implementation isn't there
abbrev pub missing_refusal : List Package → TypeName → Path → Option Refusal
missing_refusal all n path =
    if is_none (type_named all n) || (is_some path.body && is_none (implementation_as all n path.body))
    then Some (record { place = use_place path; rule = NoClassifier }) else None

-- the rule that a subcomponent at a place breaks, whose implementation has that number
abbrev pub recursion_refusal : List Bool → Option ℕ → Place → Option Refusal
recursion_refusal recursive None place = None
recursion_refusal recursive (Some n) place =
    if slice_index_or recursive n false then Some (record { place = place; rule = Recursive }) else None

-- the port with a stream to which a connection with these ends leads, as positions
abbrev pub sourced_at : Option EndPoint → Option (Option ℕ × ℕ)
sourced_at None = None
sourced_at (Some target) = if has_stream target.port then Some (record { 0 = target.sub; 1 = target.at }) else None

abbrev pub sourced : Option EndPoint → Option EndPoint → Option (Option ℕ × ℕ)
sourced None target = None
sourced (Some source) target = sourced_at target

-- an implementation among all packages
pub record Component : Type 0 where
  pub all : List Package
  pub implementation : Implementation

-- its own type, and the type of a subcomponent of it
abbrev pub own_type_of : Component → Option Type'
own_type_of c = type_named c.all (own_type c.implementation.owner c.implementation.body)

abbrev pub sub_type : Component → Sub → Option Type'
sub_type c s = type_of c.all c.implementation.owner s

-- the link of a connection at a position of it
abbrev pub link_of_wire : Component → ℕ → Wire → List WireLink
link_of_wire c at w =
    wire_link c.implementation at (end_point c.all c.implementation w.from) (end_point c.all c.implementation w.to)

-- these are the files that are set aside
abbrev pub AreSetAside : List Package → BTreeSet ℕ → Type 0
AreSetAside all files = (file : ℕ) → contains nat_cmp files file ≡ is_set_aside all file
