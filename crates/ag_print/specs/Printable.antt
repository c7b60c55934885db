-- Which packages, and what their annexes state, have a canonical text: those whose names are names, and that hold what the
-- text can tell.
use Rattle.std.specs.Prelude.{◌≡◌, ℕ, Bool, true, false, ◌==◌, ◌&&◌, List, [], ◌∷◌, Option, Some, None, length, nat_le}
use Rattle.std.specs.List.{AllZip, list_all}
use Rattle.ag_lex.specs.declared.token.Token.{Token}
use Rattle.ag_lex.specs.declared.token.TokenKind.TheVariants.{Name}
use Rattle.ag_lex.specs.Spelling.{is_name}
use Rattle.ag_terms.specs.declared.names.Path.{Path}
use Rattle.ag_terms.specs.declared.names.Ident.{Ident}
use Rattle.ag_aadl.specs.declared.packages.PortKind.{PortKind}
use Rattle.ag_aadl.specs.declared.packages.PortKind.TheVariants as port_kind
use Rattle.ag_aadl.specs.declared.packages.Port.{Port}
use Rattle.ag_aadl.specs.declared.packages.Frame.{Frame}
use Rattle.ag_aadl.specs.declared.packages.Sub.{Sub}
use Rattle.ag_aadl.specs.declared.packages.End.{End}
use Rattle.ag_aadl.specs.declared.packages.Wire.{Wire}
use Rattle.ag_aadl.specs.declared.packages.Body.{Body}
use Rattle.ag_aadl.specs.declared.packages.Item.{Item}
use Rattle.ag_aadl.specs.declared.packages.Item.TheVariants as item
use Rattle.ag_aadl.specs.declared.packages.Package.{Package}
use Rattle.ag_terms.specs.declared.clauses.Clause.{Clause}
use Rattle.ag_unparse.specs.Printable.{AreLabelsText}
use Rattle.ag_unparse.specs.Rereading.{MayBePrinted}
use Rattle.ag_print.specs.Annexes.{Stated, item_annexes, item_site}
use Rattle.ag_aadl.specs.Terminals.{name}
use Rattle.ag_aadl.specs.Words.{terminal_of}
use Rattle.ag_aadl.specs.Names.{name_parts}

-- a name of at most 255 bytes, and no reserved word
abbrev pub is_plain_name : List ℕ → Bool
is_plain_name own = is_name own && (nat_le (length own) 255 && terminal_of Name own == name)

abbrev pub is_printable_ident : Ident → Bool
is_printable_ident i = is_plain_name i.text

abbrev pub is_printable_option : Option Ident → Bool
is_printable_option None = true
is_printable_option (Some i) = is_plain_name i.text

-- each part of a package's name is a name
abbrev pub is_printable_package_name : Ident → Bool
is_printable_package_name i = list_all is_plain_name (name_parts i.text)

abbrev pub is_printable_owner : Option Ident → Bool
is_printable_owner None = true
is_printable_owner (Some i) = is_printable_package_name i

abbrev pub is_printable_class : Option Path → Bool
is_printable_class None = true
is_printable_class (Some p) = is_printable_owner p.«package» && (is_printable_ident p.name && is_printable_option p.body)

abbrev pub is_nothing : {A : Type 0} → Option A → Bool
is_nothing None = true
is_nothing (Some x) = false

-- an event port carries no data
abbrev pub may_carry : PortKind → Option Path → Bool
may_carry port_kind.Plain carries = is_printable_class carries
may_carry port_kind.EventPlain carries = is_printable_class carries
may_carry port_kind.Event carries = is_nothing carries

abbrev pub is_printable_port : Port → Bool
is_printable_port p = is_printable_ident p.name && may_carry p.kind p.carries

abbrev pub is_printable_sub : Sub → Bool
is_printable_sub s = is_printable_ident s.name && is_printable_class s.of

abbrev pub is_printable_end : End → Bool
is_printable_end e = is_printable_option e.sub && is_printable_ident e.port

abbrev pub is_printable_wire : Wire → Bool
is_printable_wire w = is_printable_ident w.name && (is_printable_end w.from && is_printable_end w.to)

abbrev pub is_printable_frame : Frame → Bool
is_printable_frame f = is_printable_ident f.name && list_all is_printable_port f.ports

abbrev pub is_printable_body : Body → Bool
is_printable_body b =
    is_printable_ident b.frame
    && (is_printable_ident b.name
    && (list_all is_printable_sub b.subs
    && list_all is_printable_wire b.wires))

abbrev pub is_printable_item : Item → Bool
is_printable_item (item.Frame f) = is_printable_frame f
is_printable_item (item.Body b) = is_printable_body b
is_printable_item (item.Library t) = true

abbrev pub is_printable_package : Package → Bool
is_printable_package p = is_printable_package_name p.name && (list_all is_printable_package_name p.imports && list_all is_printable_item p.items)

abbrev pub are_printable : List Package → Bool
are_printable packages = list_all is_printable_package packages

-- ---- what annexes state

-- where there are no annexes there are no clauses
abbrev pub NoneWithout : List Token → List Clause → Type 0
NoneWithout [] clauses = clauses ≡ []
NoneWithout (t ∷ ts) clauses = Unit {0}

-- the annexes of the declaration may state these clauses, and these have a canonical text
pub record ItemMayState (i : Item) (clauses : List Clause) : Type 0 where
  pub printable : MayBePrinted (item_site i) clauses
  pub labels : AreLabelsText clauses
  pub none : NoneWithout (item_annexes i) clauses

abbrev pub PackageMayState : Package → List (List Clause) → Type 0
PackageMayState p stated = AllZip ItemMayState p.items stated

-- so it is with those of all packages
abbrev pub StatedMayBePrinted : List Package → Stated → Type 0
StatedMayBePrinted packages stated = AllZip PackageMayState packages stated
