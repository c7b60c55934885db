-- Which rules on names packages break, and where (SAE AS5506): each rule by itself, by what stands where.
use Rattle.std.specs.Prelude.{◌≡◌, ◌⊎◌, ◌++◌, ◌∷◌, true, false, List, Option, Some, None, Contains}
use Rattle.ag_base.specs.declared.place.Refusal.{Refusal}
use Rattle.ag_base.specs.declared.place.Rule.TheVariants.{NoPackage, NotImported, NoClassifier, NoPort, Direction, PortType, TwoSources, Recursive}
use Rattle.ag_aadl.specs.declared.packages.End.{End}
use Rattle.ag_terms.specs.declared.names.Ident.{Ident}
use Rattle.ag_aadl.specs.declared.packages.Package.{Package}
use Rattle.ag_terms.specs.declared.names.Path.{Path}
use Rattle.ag_aadl.specs.declared.packages.Port.{Port}
use Rattle.ag_aadl.specs.declared.packages.Sub.{Sub}
use Rattle.ag_aadl.specs.declared.packages.Wire.{Wire}
use Rattle.ag_names.specs.Containing.{IsInsideItself}
use Rattle.ag_names.specs.Ends.{EndPoint, end_point, end_place, is_allowed, same_port}
use Rattle.ag_names.specs.Found.{is_package, may_use, own_type, type_named, type_of, implementation_of, use_place}
use Rattle.ag_names.specs.Placed.{Type', Implementation, types, implementations, is_set_aside}
use Rattle.ag_names.specs.Ports.{stream_of, same_stream, has_stream}
use Rattle.ag_names.specs.Twice.{IsTwice, package_names, type_names, implementation_names, port_names, subcomponent_names, connection_names}

-- There is a path, and it names this package.
abbrev pub UsesPackage : Option Path → Ident → Type 0
UsesPackage path name = (p : Path) × (path ≡ Some p) × (p.«package» ≡ Some name)

-- The type of a port is of a package that isn't named by `with`. Whether that package is there isn't asked.
pub record PortBreaks (t : Type') (port : Port) (r : Refusal) : Type 0 where
  pub name : Ident
  pub uses : UsesPackage port.carries name
  pub not_imported : may_use t.owner name.text ≡ false
  pub refusal : r ≡ record { place = name.place; rule = NotImported }

-- what a type breaks
pub data TypeBreaks (t : Type') (r : Refusal) : Type 0 where
  -- two ports of one name
  port_twice : IsTwice (port_names t.frame) r → TypeBreaks t r
  in_port : (port : Port) → Contains t.frame.ports port → PortBreaks t port r → TypeBreaks t r

-- what a subcomponent names isn't there, in that package and of that category
pub data IsMissing (all : List Package) (p : Package) (s : Sub) (path : Path) : Type 0 where
  no_type : type_of all p s ≡ None → IsMissing all p s path
  no_implementation : (name : Ident) → path.body ≡ Some name → implementation_of all p s ≡ None
      → IsMissing all p s path

-- what the use of a package by a subcomponent breaks
pub data UseBreaks (all : List Package) (p : Package) (path : Option Path) (r : Refusal) : Type 0 where
  -- it isn't there
  no_package : (name : Ident) → UsesPackage path name → is_package all name.text ≡ false
      → r ≡ record { place = name.place; rule = NoPackage } → UseBreaks all p path r
  -- it isn't named by `with`
  not_imported : (name : Ident) → UsesPackage path name → may_use p name.text ≡ false
      → r ≡ record { place = name.place; rule = NotImported } → UseBreaks all p path r

-- what a subcomponent of an implementation in a package breaks
pub data SubcomponentBreaks (all : List Package) (p : Package) (s : Sub) (r : Refusal) : Type 0 where
  in_use : UseBreaks all p s.of r → SubcomponentBreaks all p s r
  -- the type or the implementation that it names isn't there
  no_classifier : (path : Path) → s.of ≡ Some path → IsMissing all p s path
      → r ≡ record { place = use_place path; rule = NoClassifier } → SubcomponentBreaks all p s r
  -- its implementation is inside itself
  recursive : (i : Implementation) → implementation_of all p s ≡ Some i → IsInsideItself all i
      → r ≡ record { place = s.name.place; rule = Recursive } → SubcomponentBreaks all p s r

-- Both ends of a connection are there.
pub record HasBothEnds (all : List Package) (i : Implementation) (w : Wire) : Type 0 where
  pub source : EndPoint
  pub target : EndPoint
  pub from : end_point all i w.from ≡ Some source
  pub to : end_point all i w.to ≡ Some target

-- Of two connections whose ends are there, the later one leads to the same port as the earlier, and that has a stream.
pub record IsSecondSource (all : List Package) (i : Implementation) (r : Refusal) : Type 0 where
  pub before : List Wire
  pub first : Wire
  pub second : Wire
  pub behind : List Wire
  pub parts : i.body.wires ≡ before ++ second ∷ behind
  pub earlier : Contains before first
  pub one : HasBothEnds all i first
  pub other : HasBothEnds all i second
  pub same : same_port one.target other.target ≡ true
  pub carries : has_stream other.target.port ≡ true
  pub refusal : r ≡ record { place = second.name.place; rule = TwoSources }

-- what a connection breaks whose ends are there
pub data ConnectedBreaks (w : Wire) (source target : EndPoint) (r : Refusal) : Type 0 where
  -- it leads where no connection may
  direction : is_allowed source target ≡ false
      → r ≡ record { place = end_place w.from; rule = Direction } → ConnectedBreaks w source target r
  -- its ends carry different things
  port_type : same_stream (stream_of source.port) (stream_of target.port) ≡ false
      → r ≡ record { place = end_place w.from; rule = PortType } → ConnectedBreaks w source target r

-- what a connection of an implementation breaks
pub data ConnectionBreaks (all : List Package) (i : Implementation) (w : Wire) (r : Refusal) : Type 0 where
  -- an end of it, or the end's subcomponent, isn't there
  no_port : (e : End) → (e ≡ w.from) ⊎ (e ≡ w.to) → end_point all i e ≡ None
      → r ≡ record { place = end_place e; rule = NoPort } → ConnectionBreaks all i w r
  joined : (j : HasBothEnds all i w) → ConnectedBreaks w j.source j.target r → ConnectionBreaks all i w r

-- The type of an implementation isn't there, in its package and of its category.
pub record IsTypeless (all : List Package) (i : Implementation) (r : Refusal) : Type 0 where
  pub missing : type_named all (own_type i.owner i.body) ≡ None
  pub refusal : r ≡ record { place = i.body.frame.place; rule = NoClassifier }

-- what an implementation breaks
pub data ImplementationBreaks (all : List Package) (i : Implementation) (r : Refusal) : Type 0 where
  -- its type isn't there
  no_type : IsTypeless all i r → ImplementationBreaks all i r
  -- two subcomponents of one name
  subcomponent_twice : IsTwice (subcomponent_names i.body) r → ImplementationBreaks all i r
  -- two connections of one name
  connection_twice : IsTwice (connection_names i.body) r → ImplementationBreaks all i r
  in_subcomponent : (s : Sub) → Contains i.body.subs s → SubcomponentBreaks all i.owner s r
      → ImplementationBreaks all i r
  in_connection : (w : Wire) → Contains i.body.wires w → ConnectionBreaks all i w r → ImplementationBreaks all i r
  -- a port with a stream gets a second source
  two_sources : IsSecondSource all i r → ImplementationBreaks all i r

-- what a package breaks by its declarations
pub data PackageBreaks (p : Package) (r : Refusal) : Type 0 where
  -- two types of one name, of whatever category
  type_twice : IsTwice (type_names p.items) r → PackageBreaks p r
  -- two implementations of one type and of one name
  implementation_twice : IsTwice (implementation_names p.items) r → PackageBreaks p r

-- What the packages of all files break. Of a file that has `Base_Types` only the names of packages are looked at.
pub data Breaks (all : List Package) (r : Refusal) : Type 0 where
  -- two packages of one name
  package_twice : IsTwice (package_names all) r → Breaks all r
  in_package : (p : Package) → Contains all p → is_set_aside all p.name.place.file ≡ false → PackageBreaks p r
      → Breaks all r
  in_type : (t : Type') → Contains (types all) t → TypeBreaks t r → Breaks all r
  in_implementation : (i : Implementation) → Contains (implementations all) i → ImplementationBreaks all i r
      → Breaks all r
