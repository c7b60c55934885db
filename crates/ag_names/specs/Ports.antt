-- Which streams ports have (SAE AS5506).
use Rattle.std.specs.Prelude.{ℕ, Bool, true, false, not, List, [], ◌∷◌, Option, Some, None, codes, if◌then◌else◌}
use Rattle.std.specs.List.{list_any}
use Rattle.ag_terms.specs.declared.names.Ident.{Ident}
use Rattle.ag_terms.specs.declared.names.Path.{Path}
use Rattle.ag_aadl.specs.declared.packages.Port.{Port}
use Rattle.ag_aadl.specs.declared.packages.PortKind.{PortKind}
use Rattle.ag_aadl.specs.declared.packages.PortKind.TheVariants.{Event}
use Rattle.ag_terms.specs.Names.{same}
use Rattle.ag_names.specs.declared.ports.PortStream.{PortStream}
use Rattle.ag_names.specs.declared.ports.PortStream.TheVariants as stream

-- the predeclared types whose values are integers
unfoldable pub integer_types : List (List ℕ)
integer_types =
    codes "Integer" ∷ codes "Natural" ∷
    codes "Integer_8" ∷ codes "Integer_16" ∷ codes "Integer_32" ∷ codes "Integer_64" ∷
    codes "Unsigned_8" ∷ codes "Unsigned_16" ∷ codes "Unsigned_32" ∷ codes "Unsigned_64" ∷ []

-- the stream of a port of this type of `Base_Types`
abbrev pub stream_by_name : List ℕ → PortStream
stream_by_name name =
    if same name (codes "Boolean") then stream.Bool
    else (if list_any (λ t. same name t) integer_types then stream.Int else stream.Absent)

-- the stream of a port of this type, which only those of `Base_Types` give
abbrev pub stream_named : Option Ident → List ℕ → Option Ident → PortStream
stream_named (Some owner) name None =
    if same owner.text (codes "Base_Types") then stream_by_name name else stream.Absent
stream_named _ name _ = stream.Absent

abbrev pub stream_by_kind : PortKind → Option Path → PortStream
stream_by_kind Event path = stream.Absent
stream_by_kind _ None = stream.Absent
stream_by_kind _ (Some path) = stream_named path.«package» path.name.text path.body

-- A port has a stream of integers, one of Booleans, or none. Data ports and event data ports are alike here, and event
-- ports have none.
abbrev pub stream_of : Port → PortStream
stream_of p = stream_by_kind p.kind p.carries

-- both are of integers, both of Booleans, or neither is there
abbrev pub same_stream : PortStream → PortStream → Bool
same_stream stream.Int stream.Int = true
same_stream stream.Bool stream.Bool = true
same_stream stream.Absent stream.Absent = true
same_stream _ _ = false

-- the port has a stream
abbrev pub has_stream : Port → Bool
has_stream p = not (same_stream (stream_of p) stream.Absent)
