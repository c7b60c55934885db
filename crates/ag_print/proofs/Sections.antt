-- Ports, subcomponents and connections, line by line.
use Rattle.std.proofs.Common.{◌≡◌, Bool, true, false, ◌&&◌, List, [], ◌∷◌, ◌++◌, map, Option, Some, None, refl, codes}
use Rattle.std.specs.List.{list_all}
use Rattle.std.proofs.lemmas.Bool.{and_parts}
use Rattle.ag_grammar.specs.declared.grammar.Symbol.TheVariants.{Terminal, Nonterminal}
use Rattle.ag_lex.specs.declared.token.TokenKind.TheVariants.{Name}
use Rattle.ag_terms.specs.declared.names.Path.{Path}
use Rattle.ag_aadl.specs.declared.packages.Category.{Category}
use Rattle.ag_aadl.specs.declared.packages.Category.TheVariants.{System, Process, Thread, Device, Abstract}
use Rattle.ag_terms.specs.declared.names.Ident.{Ident}
use Rattle.ag_aadl.specs.declared.packages.PortKind.{PortKind}
use Rattle.ag_aadl.specs.declared.packages.PortKind.TheVariants as port_kind
use Rattle.ag_aadl.specs.declared.packages.Port.{Port}
use Rattle.ag_aadl.specs.declared.packages.Sub.{Sub}
use Rattle.ag_aadl.specs.declared.packages.End.{End}
use Rattle.ag_aadl.specs.declared.packages.Wire.{Wire}
use Rattle.ag_aadl.specs.Marks.{unmarked, feature_mark, direction_mark, event_mark, data_mark, sub_mark, kind_mark, connection_mark, spot_mark, spot_port_mark, features_mark, subcomponents_mark, connections_mark}
use Rattle.ag_aadl.specs.Nonterminals.{frame_sections, body_sections, features, feature_list, feature_items, feature, direction, port, event_port, data_port, subcomponents, sub_list, sub_items, sub, sub_category, connections, wire_list, wire_items, wire, place, some_port}
use Rattle.ag_aadl.specs.Terminals.{name, colon, semicolon, dot, arrow, port_word, in_word, out_word, event_word, data_word, system_word, process_word, thread_word, device_word, abstract_word, features_word, subcomponents_word, connections_word}
use Rattle.ag_print.specs.Canonical.{Spelled, word, name_at, section, class_words, category_word, direction_word, kind_words, port_line, sub_line, spot_words, end_words, wire_line}
use Rattle.ag_print.specs.Canonical as canonical
use Rattle.ag_print.specs.Printable.{is_printable_ident, is_printable_option, is_printable_class, may_carry, is_printable_port, is_printable_sub, is_printable_end, is_printable_wire}
use Rattle.ag_print.specs.Spelling.{all_words}
use Rattle.ag_print.proofs.Spells.{Spells, nothing, join, beside, by_line, by_word, by_name, by_sign}
use Rattle.ag_print.proofs.Words.{is_system, is_process, is_thread, is_device, is_abstract, is_data, is_features, is_subcomponents, is_connections, is_in, is_out, is_event, is_port, is_semicolon, is_colon, is_dot, is_arrow}
use Rattle.ag_print.proofs.Names.{class_spells, no_braces_spell}

-- `;` at a line's end
semicolon_spells : Spells (Terminal semicolon unmarked ∷ []) canonical.semicolon
semicolon_spells = by_sign semicolon unmarked (codes ";") is_semicolon nothing

-- ---- ports

direction_spells : (outward : Bool) → Spells (Nonterminal direction ∷ []) (name_at direction_mark (direction_word outward) ∷ [])
direction_spells true = by_line direction 1 refl (by_word out_word direction_mark Name (codes "out") is_out nothing)
direction_spells false = by_line direction 0 refl (by_word in_word direction_mark Name (codes "in") is_in nothing)

data_spells : (o : Option Path) → is_printable_class o ≡ true → Spells (Nonterminal data_port ∷ []) (name_at data_mark (codes "data") ∷ word (codes "port") ∷ (class_words o ++ canonical.semicolon))
data_spells o h =
    by_line data_port 0 refl
    (by_word data_word data_mark Name (codes "data") is_data (by_word port_word unmarked Name (codes "port") is_port (beside (class_spells o h) (beside no_braces_spell semicolon_spells))))

port_spells : (k : PortKind) (o : Option Path) → may_carry k o ≡ true → Spells (Nonterminal port ∷ []) (kind_words k ++ (word (codes "port") ∷ (class_words o ++ canonical.semicolon)))
port_spells port_kind.Plain o h = by_line port 1 refl (data_spells o h)
port_spells port_kind.EventPlain o h = by_line port 0 refl (by_word event_word event_mark Name (codes "event") is_event (by_line event_port 0 refl (data_spells o h)))
port_spells port_kind.Event None h =
    by_line port 0 refl (by_word event_word event_mark Name (codes "event") is_event (by_line event_port 1 refl (by_word port_word unmarked Name (codes "port") is_port (beside no_braces_spell semicolon_spells))))
port_spells port_kind.Event (Some p) h = absurd cc

port_line_spells : (p : Port) → is_printable_port p ≡ true → Spells (Terminal name feature_mark ∷ Terminal colon unmarked ∷ Nonterminal feature ∷ []) (port_line p)
port_line_spells p h =
    let both = and_parts (is_printable_ident p.name) (may_carry p.kind p.carries) h in
    by_name feature_mark p.name.text both.0 (by_sign colon unmarked (codes ":") is_colon (by_line feature 0 refl (beside (direction_spells p.outward) (port_spells p.kind p.carries both.1))))

ports_spell : (ports : List Port) → list_all is_printable_port ports ≡ true → Spells (Nonterminal feature_items ∷ []) (all_words (map port_line ports))
ports_spell [] h = by_line feature_items 1 refl nothing
ports_spell (p ∷ ports) h =
    let both = and_parts (is_printable_port p) (list_all is_printable_port ports) h in
    by_line feature_items 0 refl (join (port_line_spells p both.0) (ports_spell ports both.1))

-- the section of ports, if there are some, before further sections
pub ports_section_spells : (ports : List Port) {ws : List Spelled} → list_all is_printable_port ports ≡ true → Spells (Nonterminal frame_sections ∷ []) ws
    → Spells (Nonterminal frame_sections ∷ []) (all_words (section (name_at features_mark (codes "features")) (map port_line ports)) ++ ws)
ports_section_spells [] h rest = rest
ports_section_spells (p ∷ ports) h rest =
    by_line frame_sections 0 refl
    (beside (by_line features 0 refl (by_word features_word features_mark Name (codes "features") is_features (by_line feature_list 1 refl (ports_spell (p ∷ ports) h)))) rest)

-- ---- subcomponents

category_spells : (c : Category) → Spells (Nonterminal sub_category ∷ []) (name_at kind_mark (category_word c) ∷ [])
category_spells System = by_line sub_category 0 refl (by_word system_word kind_mark Name (codes "system") is_system nothing)
category_spells Process = by_line sub_category 1 refl (by_word process_word kind_mark Name (codes "process") is_process nothing)
category_spells Thread = by_line sub_category 2 refl (by_word thread_word kind_mark Name (codes "thread") is_thread nothing)
category_spells Device = by_line sub_category 3 refl (by_word device_word kind_mark Name (codes "device") is_device nothing)
category_spells Abstract = by_line sub_category 4 refl (by_word abstract_word kind_mark Name (codes "abstract") is_abstract nothing)

sub_line_spells : (s : Sub) → is_printable_sub s ≡ true → Spells (Terminal name sub_mark ∷ Terminal colon unmarked ∷ Nonterminal sub ∷ []) (sub_line s)
sub_line_spells s h =
    let both = and_parts (is_printable_ident s.name) (is_printable_class s.of) h in
    by_name sub_mark s.name.text both.0
    (by_sign colon unmarked (codes ":") is_colon (by_line sub 0 refl (beside (category_spells s.category) (beside (class_spells s.of both.1) (beside no_braces_spell semicolon_spells)))))

subs_spell : (subs : List Sub) → list_all is_printable_sub subs ≡ true → Spells (Nonterminal sub_items ∷ []) (all_words (map sub_line subs))
subs_spell [] h = by_line sub_items 1 refl nothing
subs_spell (s ∷ subs) h =
    let both = and_parts (is_printable_sub s) (list_all is_printable_sub subs) h in
    by_line sub_items 0 refl (join (sub_line_spells s both.0) (subs_spell subs both.1))

pub subs_section_spells : (subs : List Sub) {ws : List Spelled} → list_all is_printable_sub subs ≡ true → Spells (Nonterminal body_sections ∷ []) ws
    → Spells (Nonterminal body_sections ∷ []) (all_words (section (name_at subcomponents_mark (codes "subcomponents")) (map sub_line subs)) ++ ws)
subs_section_spells [] h rest = rest
subs_section_spells (s ∷ subs) h rest =
    by_line body_sections 0 refl
    (beside (by_line subcomponents 0 refl (by_word subcomponents_word subcomponents_mark Name (codes "subcomponents") is_subcomponents (by_line sub_list 1 refl (subs_spell (s ∷ subs) h)))) rest)

-- ---- connections

spot_spells : (o : Option Ident) (p : Ident) → is_printable_option o ≡ true → is_printable_ident p ≡ true → Spells (Nonterminal place ∷ []) (spot_words o p)
spot_spells None p h k = by_line place 0 refl (by_name spot_mark p.text k (by_line some_port 1 refl nothing))
spot_spells (Some s) p h k = by_line place 0 refl (by_name spot_mark s.text h (by_line some_port 0 refl (by_sign dot unmarked (codes ".") is_dot (by_name spot_port_mark p.text k nothing))))

end_spells : (e : End) → is_printable_end e ≡ true → Spells (Nonterminal place ∷ []) (end_words e)
end_spells e h =
    let both = and_parts (is_printable_option e.sub) (is_printable_ident e.port) h in
    spot_spells e.sub e.port both.0 both.1

wire_line_spells : (w : Wire) → is_printable_wire w ≡ true → Spells (Terminal name connection_mark ∷ Terminal colon unmarked ∷ Nonterminal wire ∷ []) (wire_line w)
wire_line_spells w h =
    let both = and_parts (is_printable_ident w.name) (is_printable_end w.from && is_printable_end w.to) h in
    let ends = and_parts (is_printable_end w.from) (is_printable_end w.to) both.1 in
    let rest = by_sign arrow unmarked (codes "->") is_arrow (beside (end_spells w.to ends.1) (beside no_braces_spell semicolon_spells)) in
    by_name connection_mark w.name.text both.0
    (by_sign colon unmarked (codes ":") is_colon (by_line wire 0 refl (by_word port_word unmarked Name (codes "port") is_port (beside (end_spells w.from ends.0) rest))))

wires_spell : (wires : List Wire) → list_all is_printable_wire wires ≡ true → Spells (Nonterminal wire_items ∷ []) (all_words (map wire_line wires))
wires_spell [] h = by_line wire_items 1 refl nothing
wires_spell (w ∷ wires) h =
    let both = and_parts (is_printable_wire w) (list_all is_printable_wire wires) h in
    by_line wire_items 0 refl (join (wire_line_spells w both.0) (wires_spell wires both.1))

pub wires_section_spells : (wires : List Wire) {ws : List Spelled} → list_all is_printable_wire wires ≡ true → Spells (Nonterminal body_sections ∷ []) ws
    → Spells (Nonterminal body_sections ∷ []) (all_words (section (name_at connections_mark (codes "connections")) (map wire_line wires)) ++ ws)
wires_section_spells [] h rest = rest
wires_section_spells (w ∷ wires) h rest =
    by_line body_sections 1 refl
    (beside (by_line connections 0 refl (by_word connections_word connections_mark Name (codes "connections") is_connections (by_line wire_list 1 refl (wires_spell (w ∷ wires) h)))) rest)
