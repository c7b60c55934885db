-- What the ends of connections are, and which connections are allowed (SAE AS5506).
use Rattle.std.specs.Prelude.{ℕ, ◌==◌, ◌&&◌, Bool, true, false, not, List, Option, Some, None, position, slice_get, option_and_then}
use Rattle.std.specs.Option.{option_map}
use Rattle.ag_base.specs.declared.place.Place.{Place}
use Rattle.ag_aadl.specs.declared.packages.End.{End}
use Rattle.ag_terms.specs.declared.names.Ident.{Ident}
use Rattle.ag_aadl.specs.declared.packages.Package.{Package}
use Rattle.ag_aadl.specs.declared.packages.Port.{Port}
use Rattle.ag_terms.specs.Names.{same}
use Rattle.ag_names.specs.Found.{own_type, type_named, type_of}
use Rattle.ag_names.specs.Placed.{Type', Implementation}

-- an end that is there: the subcomponent's position, or none for an own port, the port's position, and the port
pub record EndPoint : Type 0 where
  pub sub : Option ℕ
  pub at : ℕ
  pub port : Port

-- the port of that name that a type has, at this subcomponent's end or at an own one
abbrev pub port_in : Option ℕ → Option Type' → List ℕ → Option EndPoint
port_in sub of name =
    option_and_then (λ t. option_and_then
    (λ at. option_map (λ port. record { sub = sub; at = at; port = port }) (slice_get t.frame.ports at))
    (position (λ p. same p.name.text name) t.frame.ports)) of

-- the port of that name of the subcomponent at a position, which has those of its type, and none without one
abbrev pub port_under : List Package → Implementation → Option ℕ → List ℕ → Option EndPoint
port_under all i at name =
    option_and_then
    (λ n. option_and_then (λ s. port_in (Some n) (type_of all i.owner s) name) (slice_get i.body.subs n)) at

-- an end of a connection of an implementation: a port of its own type, or of the subcomponent of that name
abbrev pub end_from : List Package → Implementation → Option Ident → List ℕ → Option EndPoint
end_from all i None name = port_in None (type_named all (own_type i.owner i.body)) name
end_from all i (Some sub) name = port_under all i (position (λ s. same s.name.text sub.text) i.body.subs) name

abbrev pub end_point : List Package → Implementation → End → Option EndPoint
end_point all i e = end_from all i e.sub e.port.text

-- the place of an end: that of its first name
abbrev pub place_by : Option Ident → Ident → Place
place_by None port = port.place
place_by (Some sub) port = sub.place

abbrev pub end_place : End → Place
end_place e = place_by e.sub e.port

-- Inputs pass inwards and outputs outwards, and between two subcomponents an output feeds an input; an own input may
-- also be passed to an own output. No subcomponent feeds itself.
abbrev pub may_connect : Option ℕ → Bool → Option ℕ → Bool → Bool
may_connect None outward None to_outward = not outward && to_outward
may_connect None outward (Some t) to_outward = not outward && not to_outward
may_connect (Some s) outward None to_outward = outward && to_outward
may_connect (Some s) outward (Some t) to_outward = not (s == t) && (outward && not to_outward)

abbrev pub is_allowed : EndPoint → EndPoint → Bool
is_allowed a b = may_connect a.sub a.port.outward b.sub b.port.outward

-- two ends are at the same subcomponent, or at none
abbrev pub same_component : Option ℕ → Option ℕ → Bool
same_component None None = true
same_component (Some s) (Some t) = s == t
same_component _ _ = false

-- two ends are the same port
abbrev pub same_port : EndPoint → EndPoint → Bool
same_port a b = same_component a.sub b.sub && a.at == b.at
