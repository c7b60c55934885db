-- What the marked tokens of a file declare.
use Rattle.std.specs.Prelude.{ℕ, Bool, true, false, ◌==◌, ◌&&◌, ◌++◌, List, [], ◌∷◌, Option, Some, None, map, take, length, slice_index_or, codes, if◌then◌else◌}
use Rattle.std.specs.List.{filter, filter_map, list_any}
use Rattle.ag_lex.specs.declared.token.Token.{Token}
use Rattle.ag_aadl.specs.declared.marked.Marked.{Marked}
use Rattle.ag_terms.specs.declared.names.Ident.{Ident}
use Rattle.ag_terms.specs.declared.names.Path.{Path}
use Rattle.ag_aadl.specs.declared.packages.Category.{Category}
use Rattle.ag_aadl.specs.declared.packages.Category.TheVariants.{System, Process, Thread, Device, Abstract}
use Rattle.ag_aadl.specs.declared.packages.PortKind.{PortKind}
use Rattle.ag_aadl.specs.declared.packages.PortKind.TheVariants as port_kind
use Rattle.ag_aadl.specs.declared.packages.Port.{Port}
use Rattle.ag_aadl.specs.declared.packages.Frame.{Frame}
use Rattle.ag_aadl.specs.declared.packages.Sub.{Sub}
use Rattle.ag_aadl.specs.declared.packages.End.{End}
use Rattle.ag_aadl.specs.declared.packages.Wire.{Wire}
use Rattle.ag_aadl.specs.declared.packages.Body.{Body}
use Rattle.ag_aadl.specs.declared.packages.Item.{Item}
use Rattle.ag_aadl.specs.declared.packages.Item.TheVariants as item
use Rattle.ag_aadl.specs.declared.packages.Package.{Package}
use Rattle.ag_aadl.specs.Marked.{own, under, has_mark, first_of, segments}
use Rattle.ag_aadl.specs.Marks.{package_mark, part_mark, import_mark, item_mark, owner_mark, declared_mark, feature_mark, direction_mark, event_mark, data_mark, class_body_mark, sub_mark, kind_mark, connection_mark, spot_mark, spot_port_mark, annex_name_mark, annex_text_mark, end_mark}
use Rattle.ag_aadl.specs.Terminals.{process_word, thread_word, device_word, abstract_word, out_word}
use Rattle.ag_terms.specs.Names.{same}

-- Names.

-- a token as a name
abbrev pub ident : List ℕ → Token → Ident
ident bytes t = record { text = own bytes t; place = t.place }

-- the first name under a mark
abbrev pub ident_under : List ℕ → ℕ → List Marked → Ident
ident_under bytes mark ms = ident bytes (first_of (under mark ms))

-- the parts of a package's name, apart by `::`
abbrev pub joined : List ℕ → List Token → List ℕ
joined bytes [] = []
joined bytes (t ∷ []) = own bytes t
joined bytes (t ∷ u ∷ ts) = own bytes t ++ (codes "::" ++ joined bytes (u ∷ ts))

-- the name that some parts make, at the place of the first
abbrev pub ident_of : List ℕ → List Token → Ident
ident_of bytes parts = record { text = joined bytes parts; place = (first_of parts).place }

-- the ident of some parts, if there are any
abbrev pub some_ident : List ℕ → List Token → Option Ident
some_ident bytes [] = None
some_ident bytes (t ∷ ts) = Some (ident_of bytes (t ∷ ts))

-- the last part is a classifier's name, and those before are its package's
abbrev pub path_of : List ℕ → List Token → List Token → Option Path
path_of bytes [] bodies = None
path_of bytes (t ∷ ts) bodies = Some (record {
  «package» = some_ident bytes (take (length ts) (t ∷ ts));
  name = ident bytes (slice_index_or (t ∷ ts) (length ts) t);
  body = some_ident bytes (take 1 bodies);
})

-- the classifier that a port or a subcomponent names
abbrev pub class_of : List ℕ → List Marked → Option Path
class_of bytes ms = path_of bytes (under part_mark ms) (under class_body_mark ms)

-- the category that a word names
abbrev pub category_of : ℕ → Category
category_of terminal =
    if terminal == process_word then Process
    else (if terminal == thread_word then Thread
    else (if terminal == device_word then Device
    else (if terminal == abstract_word then Abstract
    else System)))

-- the category that the first token under a mark names
abbrev pub category_under : ℕ → List Marked → Category
category_under mark [] = System
category_under mark (m ∷ ms) = if m.mark == mark then category_of m.terminal else category_under mark ms

-- Ports: the features that have a direction.

-- the kind of a port that has `event` or not, and `data` or not
abbrev pub kind_of : Bool → Bool → PortKind
kind_of true true = port_kind.EventPlain
kind_of true false = port_kind.Event
kind_of false _ = port_kind.Plain

-- the direction is `out`
abbrev pub is_outward : List Marked → Bool
is_outward ms = list_any (λ m. m.mark == direction_mark && m.terminal == out_word) ms

-- a port, by the tokens from its name on
abbrev pub port_of : List ℕ → List Marked → Port
port_of bytes ms = record {
  name = ident_under bytes feature_mark ms;
  outward = is_outward ms;
  kind = kind_of (has_mark event_mark ms) (has_mark data_mark ms);
  carries = class_of bytes ms;
}

-- the ports among some tokens, in order
abbrev pub ports_of : List ℕ → List Marked → List Port
ports_of bytes ms = map (port_of bytes) (filter (has_mark direction_mark) (segments (feature_mark ∷ []) ms))

-- Subcomponents: those that have a category.

-- a subcomponent, by the tokens from its name on
abbrev pub sub_of : List ℕ → List Marked → Sub
sub_of bytes ms = record { name = ident_under bytes sub_mark ms; category = category_under kind_mark ms; of = class_of bytes ms }

-- the subcomponents among some tokens, in order
abbrev pub subs_of : List ℕ → List Marked → List Sub
subs_of bytes ms = map (sub_of bytes) (filter (has_mark kind_mark) (segments (sub_mark ∷ []) ms))

-- Connections: those that have ends.

-- an own port, or a subcomponent and its port
abbrev pub end_of : List ℕ → List Marked → End
end_of bytes ms =
    if has_mark spot_port_mark ms then record { sub = Some (ident_under bytes spot_mark ms); port = ident_under bytes spot_port_mark ms }
    else record { sub = None; port = ident_under bytes spot_mark ms }

-- the part at a position, and nothing past the last
abbrev pub part_at : List (List Marked) → ℕ → List Marked
part_at parts i = slice_index_or parts i []

-- a connection, by the tokens from its name on: its ends are the first two
abbrev pub wire_of : List ℕ → List Marked → Wire
wire_of bytes ms =
    let spots = segments (spot_mark ∷ []) ms in
    record { name = ident_under bytes connection_mark ms; from = end_of bytes (part_at spots 0); to = end_of bytes (part_at spots 1) }

-- the connections of ports among some tokens, in order
abbrev pub wires_of : List ℕ → List Marked → List Wire
wires_of bytes ms = map (wire_of bytes) (filter (has_mark spot_mark) (segments (connection_mark ∷ []) ms))

-- Annexes: the texts of those whose name is `agree`.

-- an annex has the name `agree`, in any case
abbrev pub is_agree : List ℕ → List Marked → Bool
is_agree bytes ms = same (own bytes (first_of (under annex_name_mark ms))) (codes "agree")

-- the text of an annex
abbrev pub annex_of : List Marked → Token
annex_of ms = first_of (under annex_text_mark ms)

-- the texts of the `agree` annexes among some tokens, in order
abbrev pub annexes_of : List ℕ → List Marked → List Token
annexes_of bytes ms = map annex_of (filter (is_agree bytes) (segments (annex_name_mark ∷ []) ms))

-- Declarations: implementations have the name of their type besides their own, and annexes of a package have none.

-- a component type, by the tokens from its category on
abbrev pub frame_of : List ℕ → List Marked → Frame
frame_of bytes ms = record { category = category_under item_mark ms; name = ident_under bytes declared_mark ms; ports = ports_of bytes ms; annexes = annexes_of bytes ms }

-- an implementation, by the tokens from its category on
abbrev pub body_of : List ℕ → List Marked → Body
body_of bytes ms = record {
  category = category_under item_mark ms;
  frame = ident_under bytes owner_mark ms;
  name = ident_under bytes declared_mark ms;
  subs = subs_of bytes ms;
  wires = wires_of bytes ms;
  annexes = annexes_of bytes ms;
}

-- a declaration, by the tokens from its first word on; other annexes are none
abbrev pub item_of : List ℕ → List Marked → Option Item
item_of bytes ms =
    if has_mark owner_mark ms then Some (item.Body (body_of bytes ms))
    else (if has_mark declared_mark ms then Some (item.Frame (frame_of bytes ms))
    else (if is_agree bytes ms then Some (item.Library (annex_of ms)) else None))

-- Packages: a package's name, the names of those that it imports, and its declarations stand one behind the other.

-- the first token has the mark
abbrev pub begins_with : ℕ → List Marked → Bool
begins_with mark [] = false
begins_with mark (m ∷ ms) = m.mark == mark

-- the parts that a package consists of, each from the word that it begins with
abbrev pub parts_of_package : List Marked → List (List Marked)
parts_of_package ms = segments (package_mark ∷ import_mark ∷ item_mark ∷ end_mark ∷ []) ms

-- the name of a package among some tokens
abbrev pub name_of : List ℕ → List Marked → Ident
name_of bytes ms = ident_of bytes (under part_mark ms)

-- the packages that are imported, in order
abbrev pub imports_in : List ℕ → List (List Marked) → List Ident
imports_in bytes parts = map (name_of bytes) (filter (begins_with import_mark) parts)

-- the declarations, in order
abbrev pub items_in : List ℕ → List (List Marked) → List Item
items_in bytes parts = filter_map (item_of bytes) (filter (begins_with item_mark) parts)

-- a package, by the tokens from its word on
abbrev pub package_of : List ℕ → List Marked → Package
package_of bytes ms =
    let parts = parts_of_package ms in
    record {
      name = name_of bytes (part_at parts 0);
      imports = imports_in bytes parts;
      items = items_in bytes parts;
    }

-- the packages of a file's tokens, in order
abbrev pub packages_of : List ℕ → List Marked → List Package
packages_of bytes ms = map (package_of bytes) (segments (package_mark ∷ []) ms)
