-- The types and implementations of all files but those that have the predeclared types, each with its position (SAE
-- AS5506).
use Rattle.std.specs.Prelude.{ℕ, ◌+◌, ◌==◌, ◌&&◌, Bool, List, [], ◌∷◌, ◌++◌, codes, if◌then◌else◌}
use Rattle.std.specs.List.{list_any}
use Rattle.ag_aadl.specs.declared.packages.Body.{Body}
use Rattle.ag_aadl.specs.declared.packages.Frame.{Frame}
use Rattle.ag_aadl.specs.declared.packages.Item.{Item}
use Rattle.ag_aadl.specs.declared.packages.Item.TheVariants as item
use Rattle.ag_aadl.specs.declared.packages.Package.{Package}
use Rattle.ag_terms.specs.Names.{same}

-- the package of the predeclared types (SAE AS5506)
abbrev pub is_base_types : Package → Bool
is_base_types p = same p.name.text (codes "Base_Types")

-- A file with that package is set aside: what its packages declare is no type and no implementation here.
abbrev pub is_set_aside : List Package → ℕ → Bool
is_set_aside all file = list_any (λ p. is_base_types p && p.name.place.file == file) all

-- a type: the position of its package among all and its own among what that declares, the package, and itself
pub record Type' : Type 0 where
  pub at : ℕ × ℕ
  pub owner : Package
  pub frame : Frame

-- an implementation, with the same three
pub record Implementation : Type 0 where
  pub at : ℕ × ℕ
  pub owner : Package
  pub body : Body

-- the types among declarations from a position on
abbrev pub types_among : ℕ → Package → ℕ → List Item → List Type'
types_among p owner at [] = []
types_among p owner at (item.Frame f ∷ items) =
    record { at = record { 0 = p; 1 = at }; owner = owner; frame = f } ∷ types_among p owner (at + 1) items
types_among p owner at (item.Body b ∷ items) = types_among p owner (at + 1) items
types_among p owner at (item.Library t ∷ items) = types_among p owner (at + 1) items

-- the implementations among them
abbrev pub implementations_among : ℕ → Package → ℕ → List Item → List Implementation
implementations_among p owner at [] = []
implementations_among p owner at (item.Frame f ∷ items) = implementations_among p owner (at + 1) items
implementations_among p owner at (item.Body b ∷ items) =
    record { at = record { 0 = p; 1 = at }; owner = owner; body = b } ∷ implementations_among p owner (at + 1) items
implementations_among p owner at (item.Library t ∷ items) = implementations_among p owner (at + 1) items

-- the type that a declaration at a position is, if it is one, and the implementation
abbrev pub type_at : ℕ × ℕ → Package → Item → List Type'
type_at at owner item = types_among at.0 owner at.1 (item ∷ [])

abbrev pub implementation_at : ℕ × ℕ → Package → Item → List Implementation
implementation_at at owner item = implementations_among at.0 owner at.1 (item ∷ [])

-- the types and implementations of the package at a position
abbrev pub types_in : ℕ → Package → List Type'
types_in at p = types_among at p 0 p.items

abbrev pub implementations_in : ℕ → Package → List Implementation
implementations_in at p = implementations_among at p 0 p.items

-- the types of these packages, of which the first has that position; none of a file that is set aside
abbrev pub types_from : List Package → ℕ → List Package → List Type'
types_from all at [] = []
types_from all at (p ∷ ps) =
    (if is_set_aside all p.name.place.file then [] else types_in at p) ++ types_from all (at + 1) ps

-- the implementations of these packages, likewise
abbrev pub implementations_from : List Package → ℕ → List Package → List Implementation
implementations_from all at [] = []
implementations_from all at (p ∷ ps) =
    (if is_set_aside all p.name.place.file then [] else implementations_in at p)
    ++ implementations_from all (at + 1) ps

-- all types, in their order
abbrev pub types : List Package → List Type'
types all = types_from all 0 all

-- all implementations, in their order
abbrev pub implementations : List Package → List Implementation
implementations all = implementations_from all 0 all
