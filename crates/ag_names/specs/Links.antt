-- The positions that names stand for.
use Rattle.std.specs.Prelude.{◌≡◌, ℕ, ◌+◌, List, [], ◌∷◌, ◌++◌, Option, Some}
use Rattle.std.specs.List.{flat_map}
use Rattle.std.specs.Option.{option_map}
use Rattle.ag_aadl.specs.declared.packages.Package.{Package}
use Rattle.ag_aadl.specs.declared.packages.Sub.{Sub}
use Rattle.ag_aadl.specs.declared.packages.Wire.{Wire}
use Rattle.ag_names.specs.Ends.{EndPoint, end_point}
use Rattle.ag_names.specs.Found.{type_of, implementation_of}
use Rattle.ag_names.specs.Placed.{Implementation, implementations}
use Rattle.ag_names.specs.declared.links.Links.{Links}
use Rattle.ag_names.specs.declared.links.SubLink.{SubLink}
use Rattle.ag_names.specs.declared.links.WireLink.{WireLink}

-- the link of a subcomponent: where its type and its implementation stand, each if it names one
abbrev pub sub_link : List Package → Implementation → ℕ → Sub → SubLink
sub_link all i at s = record {
  «package» = i.at.0;
  item = i.at.1;
  sub = at;
  frame = option_map (λ t. t.at) (type_of all i.owner s);
  body = option_map (λ j. j.at) (implementation_of all i.owner s);
}

abbrev pub sub_links_from : List Package → Implementation → ℕ → List Sub → List SubLink
sub_links_from all i at [] = []
sub_links_from all i at (s ∷ subs) = sub_link all i at s ∷ sub_links_from all i (at + 1) subs

-- an end as positions: of the subcomponent, if there is one, and of the port
abbrev pub end_link : EndPoint → Option ℕ × ℕ
end_link j = record { 0 = j.sub; 1 = j.at }

-- the link of a connection whose ends are there
abbrev pub wire_link : Implementation → ℕ → Option EndPoint → Option EndPoint → List WireLink
wire_link i at (Some source) (Some target) =
    record { «package» = i.at.0; item = i.at.1; wire = at; from = end_link source; to = end_link target } ∷ []
wire_link i at _ _ = []

abbrev pub wire_links_from : List Package → Implementation → ℕ → List Wire → List WireLink
wire_links_from all i at [] = []
wire_links_from all i at (w ∷ wires) =
    wire_link i at (end_point all i w.from) (end_point all i w.to) ++ wire_links_from all i (at + 1) wires

-- the links of all subcomponents of an implementation, and of all its connections
abbrev pub sub_links : List Package → Implementation → List SubLink
sub_links all i = sub_links_from all i 0 i.body.subs

abbrev pub wire_links : List Package → Implementation → List WireLink
wire_links all i = wire_links_from all i 0 i.body.wires

-- Each subcomponent and each connection of each implementation has its link, in order, and there are no others.
pub record AreLinks (all : List Package) (links : Links) : Type 0 where
  pub subs : links.subs ≡ flat_map (λ i. sub_links all i) (implementations all)
  pub wires : links.wires ≡ flat_map (λ i. wire_links all i) (implementations all)
