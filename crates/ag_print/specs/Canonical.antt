-- The canonical text of packages: its lines, word by word, each under the mark that the grammar gives it there.
use Rattle.std.specs.Prelude.{ℕ, Bool, true, false, List, [], ◌∷◌, ◌++◌, map, Option, Some, None, codes}
use Rattle.ag_lex.specs.declared.token.Token.{Token}
use Rattle.ag_lex.specs.declared.token.TokenKind.TheVariants.{Name, Annex, Symbol}
use Rattle.ag_terms.specs.declared.names.Path.{Path}
use Rattle.ag_aadl.specs.declared.packages.Category.{Category}
use Rattle.ag_aadl.specs.declared.packages.Category.TheVariants.{System, Process, Thread, Device, Abstract}
use Rattle.ag_terms.specs.declared.names.Ident.{Ident}
use Rattle.ag_aadl.specs.declared.packages.PortKind.{PortKind}
use Rattle.ag_aadl.specs.declared.packages.PortKind.TheVariants as port_kind
use Rattle.ag_aadl.specs.declared.packages.Port.{Port}
use Rattle.ag_aadl.specs.declared.packages.Frame.{Frame}
use Rattle.ag_aadl.specs.declared.packages.Sub.{Sub}
use Rattle.ag_aadl.specs.declared.packages.End.{End}
use Rattle.ag_aadl.specs.declared.packages.Wire.{Wire}
use Rattle.ag_aadl.specs.declared.packages.Body.{Body}
use Rattle.ag_aadl.specs.declared.packages.Item.{Item}
use Rattle.ag_aadl.specs.declared.packages.Item.TheVariants as item
use Rattle.ag_aadl.specs.declared.packages.Package.{Package}
use Rattle.ag_aadl.specs.Names.{name_parts}
use Rattle.ag_aadl.specs.Marks.{unmarked, package_mark, part_mark, join_mark, import_mark, item_mark, owner_mark, declared_mark, feature_mark, direction_mark, event_mark, data_mark, class_body_mark, sub_mark, kind_mark, connection_mark, spot_mark, spot_port_mark, annex_name_mark, annex_text_mark, end_mark, end_owner_mark, end_name_mark, close_mark, features_mark, subcomponents_mark, connections_mark}
use Rattle.ag_terms.specs.declared.clauses.Clause.{Clause}
use Rattle.ag_unparse.specs.Canonical.{inside_text}
use Rattle.ag_print.specs.Annexes.{Stated}
use Rattle.ag_print.specs.Layout.{Word, text_bytes}

-- a word and its mark
pub record Spelled : Type 0 where
  pub mark : ℕ
  pub word : Word

abbrev pub name_at : ℕ → List ℕ → Spelled
name_at mark own = record { mark = mark; word = record { kind = Name; own = own } }

abbrev pub sign_at : ℕ → List ℕ → Spelled
sign_at mark own = record { mark = mark; word = record { kind = Symbol; own = own } }

abbrev pub word : List ℕ → Spelled
word own = name_at unmarked own

abbrev pub sign : List ℕ → Spelled
sign own = sign_at unmarked own

-- ---- names

-- the parts of a package's name, apart by `::`
abbrev pub more_parts : List (List ℕ) → List Spelled
more_parts [] = []
more_parts (part ∷ parts) = sign_at join_mark (codes "::") ∷ name_at part_mark part ∷ more_parts parts

abbrev pub parts_words : List (List ℕ) → List Spelled
parts_words [] = []
parts_words (part ∷ parts) = name_at part_mark part ∷ more_parts parts

abbrev pub pname_words : Ident → List Spelled
pname_words i = parts_words (name_parts i.text)

-- a classifier: its package, its name, its body
abbrev pub body_words : Option Ident → List Spelled
body_words None = []
body_words (Some i) = sign (codes ".") ∷ name_at class_body_mark i.text ∷ []

abbrev pub package_parts : Option Ident → List (List ℕ)
package_parts None = []
package_parts (Some i) = name_parts i.text

abbrev pub class_words : Option Path → List Spelled
class_words None = []
class_words (Some p) = parts_words (package_parts p.«package» ++ p.name.text ∷ []) ++ body_words p.body

abbrev pub category_word : Category → List ℕ
category_word System = codes "system"
category_word Process = codes "process"
category_word Thread = codes "thread"
category_word Device = codes "device"
category_word Abstract = codes "abstract"

abbrev pub semicolon : List Spelled
semicolon = sign (codes ";") ∷ []

-- ---- lines

-- items on lines of their own, under the word of their section; nothing where there are none
abbrev pub section : Spelled → List (List Spelled) → List (List Spelled)
section head [] = []
section head (line ∷ lines) = (head ∷ []) ∷ line ∷ lines

abbrev pub direction_word : Bool → List ℕ
direction_word true = codes "out"
direction_word false = codes "in"

abbrev pub kind_words : PortKind → List Spelled
kind_words port_kind.Plain = name_at data_mark (codes "data") ∷ []
kind_words port_kind.EventPlain = name_at event_mark (codes "event") ∷ name_at data_mark (codes "data") ∷ []
kind_words port_kind.Event = name_at event_mark (codes "event") ∷ []

abbrev pub port_line : Port → List Spelled
port_line p =
    name_at feature_mark p.name.text ∷ sign (codes ":") ∷ name_at direction_mark (direction_word p.outward)
    ∷ (kind_words p.kind ++ (word (codes "port") ∷ (class_words p.carries ++ semicolon)))

abbrev pub sub_line : Sub → List Spelled
sub_line s = name_at sub_mark s.name.text ∷ sign (codes ":") ∷ name_at kind_mark (category_word s.category) ∷ (class_words s.of ++ semicolon)

-- an own port, or a subcomponent and its port
abbrev pub spot_words : Option Ident → Ident → List Spelled
spot_words None port = name_at spot_mark port.text ∷ []
spot_words (Some sub) port = name_at spot_mark sub.text ∷ sign (codes ".") ∷ name_at spot_port_mark port.text ∷ []

abbrev pub end_words : End → List Spelled
end_words e = spot_words e.sub e.port

abbrev pub wire_line : Wire → List Spelled
wire_line w =
    name_at connection_mark w.name.text ∷ sign (codes ":") ∷ word (codes "port")
    ∷ (end_words w.from ++ (sign (codes "->") ∷ (end_words w.to ++ semicolon)))

-- the bytes of an annex that states these clauses
abbrev pub annex_bytes : List Clause → List ℕ
annex_bytes clauses = codes "{**" ++ (inside_text clauses ++ codes "**}")

abbrev pub annex_word : List Clause → Spelled
annex_word clauses = record { mark = annex_text_mark; word = record { kind = Annex; own = annex_bytes clauses } }

-- an annex, with the mark of the word that it begins with
abbrev pub annex_line : ℕ → List Clause → List Spelled
annex_line mark clauses = name_at mark (codes "annex") ∷ name_at annex_name_mark (codes "agree") ∷ annex_word clauses ∷ semicolon

-- all annexes of a component as one, if it has any
abbrev pub annex_lines : List Token → List Clause → List (List Spelled)
annex_lines [] clauses = []
annex_lines (t ∷ ts) clauses = annex_line unmarked clauses ∷ []

-- a component type whose annexes state these clauses
abbrev pub frame_lines : Frame → List Clause → List (List Spelled)
frame_lines f clauses =
    (name_at item_mark (category_word f.category) ∷ name_at declared_mark f.name.text ∷ [])
    ∷ (section (name_at features_mark (codes "features")) (map port_line f.ports)
    ++ (annex_lines f.annexes clauses
    ++ (word (codes "end") ∷ name_at end_name_mark f.name.text ∷ semicolon) ∷ []))

-- an implementation whose annexes state these clauses
abbrev pub body_lines : Body → List Clause → List (List Spelled)
body_lines b clauses =
    (name_at item_mark (category_word b.category) ∷ word (codes "implementation") ∷ name_at owner_mark b.frame.text ∷ sign (codes ".") ∷ name_at declared_mark b.name.text ∷ [])
    ∷ (section (name_at subcomponents_mark (codes "subcomponents")) (map sub_line b.subs)
    ++ (section (name_at connections_mark (codes "connections")) (map wire_line b.wires)
    ++ (annex_lines b.annexes clauses
    ++ (word (codes "end") ∷ name_at end_owner_mark b.frame.text ∷ sign (codes ".") ∷ name_at end_name_mark b.name.text ∷ semicolon) ∷ [])))

-- a declaration whose annexes state these clauses
abbrev pub item_lines : Item → List Clause → List (List Spelled)
item_lines (item.Frame f) clauses = frame_lines f clauses
item_lines (item.Body b) clauses = body_lines b clauses
item_lines (item.Library t) clauses = annex_line item_mark clauses ∷ []

-- the first of some lists, and nothing where there is none
abbrev pub first_list : {A : Type 0} → List (List A) → List A
first_list [] = []
first_list (xs ∷ more) = xs

-- those behind it
abbrev pub other_lists : {A : Type 0} → List (List A) → List (List A)
other_lists [] = []
other_lists (xs ∷ more) = more

-- declarations, and for each the clauses that its annexes state
abbrev pub items_lines : List Item → List (List Clause) → List (List Spelled)
items_lines [] stated = []
items_lines (i ∷ items) stated = item_lines i (first_list stated) ++ items_lines items (other_lists stated)

abbrev pub import_line : Ident → List Spelled
import_line i = name_at import_mark (codes "with") ∷ (pname_words i ++ semicolon)

abbrev pub package_lines : Package → List (List Clause) → List (List Spelled)
package_lines p stated =
    (name_at package_mark (codes "package") ∷ pname_words p.name)
    ∷ (word (codes "public") ∷ [])
    ∷ (map import_line p.imports
    ++ (items_lines p.items stated
    ++ (name_at end_mark (codes "end") ∷ (pname_words p.name ++ sign_at close_mark (codes ";") ∷ [])) ∷ []))

-- packages, and what the annexes of each state
abbrev pub canonical_lines : List Package → Stated → List (List Spelled)
canonical_lines [] stated = []
canonical_lines (p ∷ packages) stated = package_lines p (first_list stated) ++ canonical_lines packages (other_lists stated)

abbrev pub canonical_text : List Package → Stated → List ℕ
canonical_text packages stated = text_bytes (map (map (λ s. s.word)) (canonical_lines packages stated))
