-- Packages that are read from canonical text are printable again.
use Rattle.std.proofs.Common.{◌≡◌, Bool, true, ◌&&◌, List, [], ◌∷◌, map, refl, sym, ap, ◌∙◌}
use Rattle.std.specs.Prelude.{Option, Some, None}
use Rattle.std.specs.List.{list_all}
use Rattle.ag_terms.specs.declared.names.Path.{Path}
use Rattle.ag_terms.specs.declared.names.Ident.{Ident}
use Rattle.ag_aadl.specs.declared.packages.PortKind.{PortKind}
use Rattle.ag_aadl.specs.declared.packages.PortKind.TheVariants as port_kind
use Rattle.ag_aadl.specs.declared.packages.Port.{Port}
use Rattle.ag_aadl.specs.declared.packages.Sub.{Sub}
use Rattle.ag_aadl.specs.declared.packages.End.{End}
use Rattle.ag_aadl.specs.declared.packages.Wire.{Wire}
use Rattle.ag_aadl.specs.declared.packages.Item.{Item}
use Rattle.ag_aadl.specs.declared.packages.Item.TheVariants as item
use Rattle.ag_aadl.specs.declared.packages.Package.{Package}
use Rattle.ag_print.specs.Printable.{is_printable_ident, is_printable_option, is_printable_package_name, is_printable_owner, is_printable_class, is_nothing, may_carry, is_printable_port, is_printable_sub, is_printable_end, is_printable_wire, is_printable_item, is_printable_package, are_printable}
use Rattle.ag_unparse.specs.Same.{bare_ident, bare_option}
use Rattle.ag_print.specs.Same.{bare_class, bare_port, bare_sub, bare_end, bare_wire, bare_item, bare_package, SamePackages}
use Rattle.ag_print.proofs.RereadingSeen.{two}

-- ---- places don't matter

option_prints : (o : Option Ident) → is_printable_option (bare_option o) ≡ is_printable_option o
option_prints None = refl
option_prints (Some i) = refl

owner_prints : (o : Option Ident) → is_printable_owner (bare_option o) ≡ is_printable_owner o
owner_prints None = refl
owner_prints (Some i) = refl

class_prints : (c : Option Path) → is_printable_class (bare_class c) ≡ is_printable_class c
class_prints None = refl
class_prints (Some p) = two (λ (x y : Bool). x && (is_printable_ident p.name && y)) (owner_prints p.«package») (option_prints p.body)

nothing_prints : (c : Option Path) → is_nothing (bare_class c) ≡ is_nothing c
nothing_prints None = refl
nothing_prints (Some p) = refl

carries_prints : (k : PortKind) (c : Option Path) → may_carry k (bare_class c) ≡ may_carry k c
carries_prints port_kind.Plain c = class_prints c
carries_prints port_kind.EventPlain c = class_prints c
carries_prints port_kind.Event c = nothing_prints c

port_prints : (p : Port) → is_printable_port (bare_port p) ≡ is_printable_port p
port_prints p = ap (λ (x : Bool). is_printable_ident p.name && x) (carries_prints p.kind p.carries)

sub_prints : (s : Sub) → is_printable_sub (bare_sub s) ≡ is_printable_sub s
sub_prints s = ap (λ (x : Bool). is_printable_ident s.name && x) (class_prints s.of)

end_prints : (e : End) → is_printable_end (bare_end e) ≡ is_printable_end e
end_prints e = ap (λ (x : Bool). x && is_printable_ident e.port) (option_prints e.sub)

wire_prints : (w : Wire) → is_printable_wire (bare_wire w) ≡ is_printable_wire w
wire_prints w = two (λ (x y : Bool). is_printable_ident w.name && (x && y)) (end_prints w.from) (end_prints w.to)

all_print : {A : Type 0} (test : A → Bool) (bare : A → A) → ((x : A) → test (bare x) ≡ test x) → (xs : List A) → list_all test (map bare xs) ≡ list_all test xs
all_print test bare e [] = refl
all_print test bare e (x ∷ xs) = two (λ (y z : Bool). y && z) (e x) (all_print test bare e xs)

item_prints : (i : Item) → is_printable_item (bare_item i) ≡ is_printable_item i
item_prints (item.Frame f) = ap (λ (x : Bool). is_printable_ident f.name && x) (all_print is_printable_port bare_port port_prints f.ports)
item_prints (item.Body b) =
    two (λ (x y : Bool). is_printable_ident b.frame && (is_printable_ident b.name && (x && y))) (all_print is_printable_sub bare_sub sub_prints b.subs) (all_print is_printable_wire bare_wire wire_prints b.wires)
item_prints (item.Library t) = refl

package_prints : (p : Package) → is_printable_package (bare_package p) ≡ is_printable_package p
package_prints p =
    two (λ (x y : Bool). is_printable_package_name p.name && (x && y)) (all_print is_printable_package_name bare_ident (λ (i : Ident). refl) p.imports) (all_print is_printable_item bare_item item_prints p.items)

-- packages that are the same as printable ones are printable
pub same_printable : (found ps : List Package) → are_printable ps ≡ true → SamePackages found ps → are_printable found ≡ true
same_printable found ps h same =
    sym (all_print is_printable_package bare_package package_prints found) ∙ ap are_printable same ∙ all_print is_printable_package bare_package package_prints ps ∙ h
