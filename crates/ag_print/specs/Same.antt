-- When two lists of packages are the same but for the places of their names and for their annexes, and when those state the same.
use Rattle.std.specs.Prelude.{◌≡◌, Bool, true, false, List, [], ◌∷◌, map, Option, Some, None}
use Rattle.ag_lex.specs.declared.token.Token.{Token}
use Rattle.ag_lex.specs.declared.token.TokenKind.TheVariants.{Name}
use Rattle.ag_terms.specs.declared.names.Path.{Path}
use Rattle.ag_aadl.specs.declared.packages.Port.{Port}
use Rattle.ag_aadl.specs.declared.packages.Frame.{Frame}
use Rattle.ag_aadl.specs.declared.packages.Sub.{Sub}
use Rattle.ag_aadl.specs.declared.packages.End.{End}
use Rattle.ag_aadl.specs.declared.packages.Wire.{Wire}
use Rattle.ag_aadl.specs.declared.packages.Body.{Body}
use Rattle.ag_aadl.specs.declared.packages.Item.{Item}
use Rattle.ag_aadl.specs.declared.packages.Item.TheVariants as item
use Rattle.ag_aadl.specs.declared.packages.Package.{Package}
use Rattle.ag_unparse.specs.Same.{nowhere, bare_ident, bare_option, bare_path, bare_clause}
use Rattle.ag_print.specs.Annexes.{Stated, item_annexes}

-- one token that stands for all
abbrev pub no_token : Token
no_token = record { kind = Name; start = 0; end = 0; place = nowhere }

-- the use of a classifier that may be missing, without places
abbrev pub bare_class : Option Path → Option Path
bare_class None = None
bare_class (Some p) = Some (bare_path p)

-- a port without places
abbrev pub bare_port : Port → Port
bare_port p = record { name = bare_ident p.name; outward = p.outward; kind = p.kind; carries = bare_class p.carries }

-- a component type without places and annexes
abbrev pub bare_frame : Frame → Frame
bare_frame f = record { category = f.category; name = bare_ident f.name; ports = map bare_port f.ports; annexes = [] }

-- a subcomponent without places
abbrev pub bare_sub : Sub → Sub
bare_sub s = record { name = bare_ident s.name; category = s.category; of = bare_class s.of }

-- a connection's end without places
abbrev pub bare_end : End → End
bare_end e = record { sub = bare_option e.sub; port = bare_ident e.port }

-- a connection without places
abbrev pub bare_wire : Wire → Wire
bare_wire w = record { name = bare_ident w.name; from = bare_end w.from; to = bare_end w.to }

-- an implementation without places and annexes
abbrev pub bare_body : Body → Body
bare_body b = record {
  category = b.category;
  frame = bare_ident b.frame;
  name = bare_ident b.name;
  subs = map bare_sub b.subs;
  wires = map bare_wire b.wires;
  annexes = [];
}

-- a declaration without places; of an annex nothing is left but that it stands there
abbrev pub bare_item : Item → Item
bare_item (item.Frame f) = item.Frame (bare_frame f)
bare_item (item.Body b) = item.Body (bare_body b)
bare_item (item.Library t) = item.Library no_token

-- a package without places and annexes
abbrev pub bare_package : Package → Package
bare_package p = record { name = bare_ident p.name; imports = map bare_ident p.imports; items = map bare_item p.items }

-- the same packages in the same order: all but places and annexes is equal
abbrev pub SamePackages : List Package → List Package → Type 0
SamePackages ps qs = map bare_package ps ≡ map bare_package qs

-- the same clauses for each declaration: all but places is equal
abbrev pub SameStated : Stated → Stated → Type 0
SameStated found stated = map (map (map bare_clause)) found ≡ map (map (map bare_clause)) stated

abbrev pub is_any : {A : Type 0} → List A → Bool
is_any [] = false
is_any (x ∷ xs) = true

-- for each declaration whether it has an annex
abbrev pub annexed : Package → List Bool
annexed p = map (λ i. is_any (item_annexes i)) p.items

-- the same declarations have annexes, however many
abbrev pub SameAnnexed : List Package → List Package → Type 0
SameAnnexed ps qs = map annexed ps ≡ map annexed qs
