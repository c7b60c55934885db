-- Which implementations are inside which (SAE AS5506).
use Rattle.std.specs.Prelude.{◌≡◌, List, Some, Contains}
use Rattle.ag_aadl.specs.declared.packages.Package.{Package}
use Rattle.ag_aadl.specs.declared.packages.Sub.{Sub}
use Rattle.ag_names.specs.Found.{implementation_of}
use Rattle.ag_names.specs.Placed.{Implementation}

-- an implementation is inside another: that has a subcomponent with it, or with one that it is inside
pub data IsInside (all : List Package) : Implementation → Implementation → Type 0 where
  at_once : (j i : Implementation) (s : Sub) → Contains i.body.subs s → implementation_of all i.owner s ≡ Some j
      → IsInside all j i
  through : (k j i : Implementation) → IsInside all k j → IsInside all j i → IsInside all k i

-- it is inside itself
abbrev pub IsInsideItself : List Package → Implementation → Type 0
IsInsideItself all i = IsInside all i i
