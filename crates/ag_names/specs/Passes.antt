-- What the passes over packages, implementations and connections seek.
use Rattle.std.specs.Prelude.{◌≡◌, ◌⊎◌, false, List, Option}
use Rattle.ag_base.specs.declared.place.Refusal.{Refusal}
use Rattle.ag_aadl.specs.declared.packages.Body.{Body}
use Rattle.ag_aadl.specs.declared.packages.End.{End}
use Rattle.ag_aadl.specs.declared.packages.Package.{Package}
use Rattle.ag_names.specs.Broken.{ConnectionBreaks, IsSecondSource, IsTypeless, PackageBreaks}
use Rattle.ag_names.specs.Ends.{EndPoint, end_point}
use Rattle.ag_names.specs.Order.{InSome}
use Rattle.ag_names.specs.Placed.{is_set_aside}
use Rattle.ag_names.specs.Tables.{Component}
use Rattle.ag_names.specs.Twice.{IsTwice, connection_names, subcomponent_names}

-- what a package breaks by its declarations, in a file that is looked at
abbrev pub DeclarationsBreak : List Package → Package → Refusal → Type 0
DeclarationsBreak all p r = (is_set_aside all p.name.place.file ≡ false) × PackageBreaks p r

-- the type of an implementation isn't there
abbrev pub TypeIsMissing : Component → Refusal → Type 0
TypeIsMissing c = IsTypeless c.all c.implementation

-- two subcomponents or two connections of one name
abbrev pub NamesAreTwice : Body → Refusal → Type 0
NamesAreTwice b r = IsTwice (subcomponent_names b) r ⊎ IsTwice (connection_names b) r

-- what the connections of an implementation break, each by itself
abbrev pub WiresBreak : Component → Refusal → Type 0
WiresBreak c = InSome c.implementation.body.wires (ConnectionBreaks c.all c.implementation)

-- a port with a stream gets a second source
abbrev pub HasSecondSource : Component → Refusal → Type 0
HasSecondSource c = IsSecondSource c.all c.implementation

-- the end of a connection of an implementation, if it is there
abbrev pub end_of : Component → End → Option EndPoint
end_of c e = end_point c.all c.implementation e
