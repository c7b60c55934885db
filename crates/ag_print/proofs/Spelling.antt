-- The words of canonical lines are a text of the grammar, each under its mark.
use Rattle.std.proofs.Common.{◌≡◌, true, ◌&&◌, List, [], ◌∷◌, ◌++◌, map, refl, sym, ap, subst, ◌∙◌, codes, IsTrue, append_assoc}
use Rattle.std.specs.List.{list_all}
use Rattle.std.proofs.lemmas.Bool.{and_parts}
use Rattle.std.proofs.lemmas.Grind.{flat_map-append}
use Rattle.std.proofs.lemmas.List.{append-nil}
use Rattle.ag_grammar.specs.declared.grammar.Symbol.TheVariants.{Terminal, Nonterminal}
use Rattle.ag_grammar.specs.declared.grammar.Step.{Step}
use Rattle.ag_lex.specs.declared.token.Token.{Token}
use Rattle.ag_lex.specs.declared.token.TokenKind.TheVariants.{Name, Annex}
use Rattle.ag_aadl.specs.declared.packages.Category.{Category}
use Rattle.ag_aadl.specs.declared.packages.Category.TheVariants.{System, Process, Thread, Device, Abstract}
use Rattle.ag_terms.specs.declared.names.Ident.{Ident}
use Rattle.ag_aadl.specs.declared.packages.Frame.{Frame}
use Rattle.ag_aadl.specs.declared.packages.Body.{Body}
use Rattle.ag_aadl.specs.declared.packages.Item.{Item}
use Rattle.ag_aadl.specs.declared.packages.Item.TheVariants as item
use Rattle.ag_aadl.specs.declared.packages.Package.{Package}
use Rattle.ag_aadl.specs.Marks.{unmarked, package_mark, import_mark, item_mark, owner_mark, declared_mark, annex_name_mark, annex_text_mark, end_mark, end_owner_mark, end_name_mark, close_mark, features_mark, subcomponents_mark, connections_mark}
use Rattle.ag_aadl.specs.Nonterminals.{packages, package_unit, pname, withs, more_imports, declarations, package_properties, category, component, frame_or_body, frame_sections, body_sections, annex}
use Rattle.ag_aadl.specs.Terminals.{name, package_word, public_word, with_word, end_word, system_word, process_word, thread_word, device_word, abstract_word, implementation_word, annex_word, annex_text, dot, semicolon}
use Rattle.ag_terms.specs.declared.clauses.Clause.{Clause}
use Rattle.ag_print.specs.Annexes.{Stated}
use Rattle.ag_print.specs.Canonical.{Spelled, word, name_at, sign, sign_at, section, pname_words, category_word, port_line, sub_line, wire_line, annex_bytes, annex_line, annex_lines, frame_lines, body_lines, item_lines, first_list, other_lists, items_lines, import_line, package_lines, canonical_lines}
use Rattle.ag_print.specs.Printable.{is_printable_ident, is_printable_package_name, is_printable_port, is_printable_sub, is_printable_wire, is_printable_frame, is_printable_body, is_printable_item, is_printable_package, are_printable}
use Rattle.ag_print.specs.Spelling.{all_words, canonical_words, IsSpelling}
use Rattle.ag_print.proofs.Spells.{Spells, nothing, join, beside, by_line, by_word, by_name, by_sign}
use Rattle.ag_print.proofs.Words.{is_package, is_public, is_with, is_end, is_system, is_process, is_thread, is_device, is_abstract, is_implementation, is_annex, is_agree, is_dot, is_semicolon}
use Rattle.ag_print.proofs.Names.{pname_spells}
use Rattle.ag_print.proofs.Sections.{ports_section_spells, subs_section_spells, wires_section_spells}

-- ---- the words of lines behind lines

all_words-append : (lines more : List (List Spelled)) → all_words (lines ++ more) ≡ all_words lines ++ all_words more
all_words-append lines more = flat_map-append (λ (line : List Spelled). line) lines more

all_words-last : (lines : List (List Spelled)) (line : List Spelled) → all_words (lines ++ line ∷ []) ≡ all_words lines ++ line
all_words-last lines line = all_words-append lines (line ∷ []) ∙ ap (λ (z : List Spelled). all_words lines ++ z) (append-nil line)

-- ---- categories, and the ends of sections

category_spells : (c : Category) → Spells (Nonterminal category ∷ []) (name_at item_mark (category_word c) ∷ [])
category_spells System = by_line category 0 refl (by_word system_word item_mark Name (codes "system") is_system nothing)
category_spells Process = by_line category 1 refl (by_word process_word item_mark Name (codes "process") is_process nothing)
category_spells Thread = by_line category 2 refl (by_word thread_word item_mark Name (codes "thread") is_thread nothing)
category_spells Device = by_line category 3 refl (by_word device_word item_mark Name (codes "device") is_device nothing)
category_spells Abstract = by_line category 4 refl (by_word abstract_word item_mark Name (codes "abstract") is_abstract nothing)

no_frame_section : Spells (Nonterminal frame_sections ∷ []) []
no_frame_section = by_line frame_sections 4 refl nothing

no_body_section : Spells (Nonterminal body_sections ∷ []) []
no_body_section = by_line body_sections 5 refl nothing

-- ---- annexes

annex_spells : (clauses : List Clause) → Spells (Nonterminal annex ∷ []) (annex_line unmarked clauses)
annex_spells clauses =
    by_line annex 0 refl (by_word annex_word unmarked Name (codes "annex") is_annex (by_word name annex_name_mark Name (codes "agree") is_agree
    (by_word annex_text annex_text_mark Annex (annex_bytes clauses) refl (by_sign semicolon unmarked (codes ";") is_semicolon nothing))))

frame_annexes_spell : (ts : List Token) (clauses : List Clause) → Spells (Nonterminal frame_sections ∷ []) (all_words (annex_lines ts clauses))
frame_annexes_spell [] clauses = no_frame_section
frame_annexes_spell (t ∷ ts) clauses = by_line frame_sections 3 refl (beside (annex_spells clauses) no_frame_section)

body_annexes_spell : (ts : List Token) (clauses : List Clause) → Spells (Nonterminal body_sections ∷ []) (all_words (annex_lines ts clauses))
body_annexes_spell [] clauses = no_body_section
body_annexes_spell (t ∷ ts) clauses = by_line body_sections 4 refl (beside (annex_spells clauses) no_body_section)

-- ---- types

frame_words : Frame → List Clause → List Spelled
frame_words f clauses =
    name_at item_mark (category_word f.category) ∷ name_at declared_mark f.name.text
    ∷ ((all_words (section (name_at features_mark (codes "features")) (map port_line f.ports)) ++ all_words (annex_lines f.annexes clauses)) ++ (word (codes "end") ∷ name_at end_name_mark f.name.text ∷ sign (codes ";") ∷ []))

frame_words_are : (f : Frame) (clauses : List Clause) → all_words (frame_lines f clauses) ≡ frame_words f clauses
unfolding frame_words
frame_words_are f clauses =
    let sections = section (name_at features_mark (codes "features")) (map port_line f.ports) in
    let annexes = annex_lines f.annexes clauses in
    let last = word (codes "end") ∷ name_at end_name_mark f.name.text ∷ sign (codes ";") ∷ [] in
    let first = all_words-append sections (annexes ++ last ∷ []) in
    let second = ap (λ (z : List Spelled). all_words sections ++ z) (all_words-last annexes last) in
    let grouped = sym (append_assoc (all_words sections) (all_words annexes) last) in
    ap (λ (z : List Spelled). name_at item_mark (category_word f.category) ∷ name_at declared_mark f.name.text ∷ z) (first ∙ second ∙ grouped)

frame_spells : (f : Frame) (clauses : List Clause) → is_printable_frame f ≡ true → Spells (Nonterminal component ∷ []) (all_words (frame_lines f clauses))
unfolding frame_words
frame_spells f clauses h =
    let both = and_parts (is_printable_ident f.name) (list_all is_printable_port f.ports) h in
    let last = by_word end_word unmarked Name (codes "end") is_end (by_name end_name_mark f.name.text both.0 (by_sign semicolon unmarked (codes ";") is_semicolon nothing)) in
    subst (λ (ws : List Spelled). Spells (Nonterminal component ∷ []) ws) (sym (frame_words_are f clauses))
    (by_line component 0 refl (beside (category_spells f.category) (by_line frame_or_body 0 refl
    (by_name declared_mark f.name.text both.0 (beside (ports_section_spells f.ports both.1 (frame_annexes_spell f.annexes clauses)) last)))))

-- ---- implementations

body_last : Body → List Spelled
body_last b = word (codes "end") ∷ name_at end_owner_mark b.frame.text ∷ sign (codes ".") ∷ name_at end_name_mark b.name.text ∷ sign (codes ";") ∷ []

body_words : Body → List Clause → List Spelled
body_words b clauses =
    name_at item_mark (category_word b.category) ∷ word (codes "implementation") ∷ name_at owner_mark b.frame.text ∷ sign (codes ".") ∷ name_at declared_mark b.name.text
    ∷ ((all_words (section (name_at subcomponents_mark (codes "subcomponents")) (map sub_line b.subs))
    ++ (all_words (section (name_at connections_mark (codes "connections")) (map wire_line b.wires)) ++ all_words (annex_lines b.annexes clauses))) ++ body_last b)

body_words_are : (b : Body) (clauses : List Clause) → all_words (body_lines b clauses) ≡ body_words b clauses
unfolding body_words body_last
body_words_are b clauses =
    let subs = section (name_at subcomponents_mark (codes "subcomponents")) (map sub_line b.subs) in
    let wires = section (name_at connections_mark (codes "connections")) (map wire_line b.wires) in
    let annexes = annex_lines b.annexes clauses in
    let last = body_last b in
    let first = all_words-append subs (wires ++ (annexes ++ last ∷ [])) in
    let inner = all_words-append wires (annexes ++ last ∷ []) ∙ ap (λ (z : List Spelled). all_words wires ++ z) (all_words-last annexes last) ∙ sym (append_assoc (all_words wires) (all_words annexes) last) in
    let second = ap (λ (z : List Spelled). all_words subs ++ z) inner in
    let grouped = sym (append_assoc (all_words subs) (all_words wires ++ all_words annexes) last) in
    ap (λ (z : List Spelled). name_at item_mark (category_word b.category) ∷ word (codes "implementation") ∷ name_at owner_mark b.frame.text ∷ sign (codes ".") ∷ name_at declared_mark b.name.text ∷ z)
    (first ∙ second ∙ grouped)

body_spells : (b : Body) (clauses : List Clause) → is_printable_body b ≡ true → Spells (Nonterminal component ∷ []) (all_words (body_lines b clauses))
unfolding body_words body_last
body_spells b clauses h =
    let framed = and_parts (is_printable_ident b.frame) (is_printable_ident b.name && (list_all is_printable_sub b.subs && list_all is_printable_wire b.wires)) h in
    let named = and_parts (is_printable_ident b.name) (list_all is_printable_sub b.subs && list_all is_printable_wire b.wires) framed.1 in
    let parts = and_parts (list_all is_printable_sub b.subs) (list_all is_printable_wire b.wires) named.1 in
    let last =
    by_word end_word unmarked Name (codes "end") is_end (by_name end_owner_mark b.frame.text framed.0 (by_sign dot unmarked (codes ".") is_dot
    (by_name end_name_mark b.name.text named.0 (by_sign semicolon unmarked (codes ";") is_semicolon nothing)))) in
    let sections = subs_section_spells b.subs parts.0 (wires_section_spells b.wires parts.1 (body_annexes_spell b.annexes clauses)) in
    subst (λ (ws : List Spelled). Spells (Nonterminal component ∷ []) ws) (sym (body_words_are b clauses))
    (by_line component 0 refl (beside (category_spells b.category) (by_line frame_or_body 1 refl
    (by_word implementation_word unmarked Name (codes "implementation") is_implementation (by_name owner_mark b.frame.text framed.0 (by_sign dot unmarked (codes ".") is_dot
    (by_name declared_mark b.name.text named.0 (beside sections last))))))))

-- ---- declarations and imports

-- a declaration before others
item_spells : (i : Item) (clauses : List Clause) {ws : List Spelled} → is_printable_item i ≡ true → Spells (Nonterminal declarations ∷ []) ws → Spells (Nonterminal declarations ∷ []) (all_words (item_lines i clauses) ++ ws)
item_spells (item.Frame f) clauses h rest = by_line declarations 0 refl (beside (frame_spells f clauses h) rest)
item_spells (item.Body b) clauses h rest = by_line declarations 0 refl (beside (body_spells b clauses h) rest)
item_spells (item.Library t) clauses h rest =
    by_line declarations 2 refl (by_word annex_word item_mark Name (codes "annex") is_annex (by_word name annex_name_mark Name (codes "agree") is_agree
    (by_word annex_text annex_text_mark Annex (annex_bytes clauses) refl (by_sign semicolon unmarked (codes ";") is_semicolon rest))))

items_spell : (items : List Item) (stated : List (List Clause)) → list_all is_printable_item items ≡ true → Spells (Nonterminal declarations ∷ []) (all_words (items_lines items stated))
items_spell [] stated h = by_line declarations 3 refl nothing
items_spell (i ∷ items) stated h =
    let both = and_parts (is_printable_item i) (list_all is_printable_item items) h in
    subst (λ (ws : List Spelled). Spells (Nonterminal declarations ∷ []) ws) (sym (all_words-append (item_lines i (first_list stated)) (items_lines items (other_lists stated))))
    (item_spells i (first_list stated) both.0 (items_spell items (other_lists stated) both.1))

import_spells : (i : Ident) → is_printable_package_name i ≡ true → Spells (Terminal with_word import_mark ∷ Nonterminal pname ∷ Nonterminal more_imports ∷ Terminal semicolon unmarked ∷ []) (import_line i)
import_spells i h =
    let rest = beside (by_line more_imports 1 refl nothing) (by_sign semicolon unmarked (codes ";") is_semicolon nothing) in
    by_word with_word import_mark Name (codes "with") is_with (beside (pname_spells i h) rest)

imports_spell : (imports : List Ident) → list_all is_printable_package_name imports ≡ true → Spells (Nonterminal withs ∷ []) (all_words (map import_line imports))
imports_spell [] h = by_line withs 1 refl nothing
imports_spell (i ∷ imports) h =
    let both = and_parts (is_printable_package_name i) (list_all is_printable_package_name imports) h in
    by_line withs 0 refl (join (import_spells i both.0) (imports_spell imports both.1))

-- ---- packages

package_words : Package → List (List Clause) → List Spelled
package_words p stated =
    name_at package_mark (codes "package") ∷ (pname_words p.name ++ (word (codes "public")
    ∷ (all_words (map import_line p.imports) ++ (all_words (items_lines p.items stated)
    ++ (name_at end_mark (codes "end") ∷ (pname_words p.name ++ sign_at close_mark (codes ";") ∷ []))))))

package_words_are : (p : Package) (stated : List (List Clause)) → all_words (package_lines p stated) ≡ package_words p stated
unfolding package_words
package_words_are p stated =
    let imports = map import_line p.imports in
    let items = items_lines p.items stated in
    let last = name_at end_mark (codes "end") ∷ (pname_words p.name ++ sign_at close_mark (codes ";") ∷ []) in
    ap (λ (z : List Spelled). name_at package_mark (codes "package") ∷ (pname_words p.name ++ (word (codes "public") ∷ z)))
    (all_words-append imports (items ++ last ∷ []) ∙ ap (λ (z : List Spelled). all_words imports ++ z) (all_words-last items last))

package_spells : (p : Package) (stated : List (List Clause)) → is_printable_package p ≡ true → Spells (Nonterminal package_unit ∷ []) (all_words (package_lines p stated))
unfolding package_words
package_spells p stated h =
    let named = and_parts (is_printable_package_name p.name) (list_all is_printable_package_name p.imports && list_all is_printable_item p.items) h in
    let parts = and_parts (list_all is_printable_package_name p.imports) (list_all is_printable_item p.items) named.1 in
    let last = by_word end_word end_mark Name (codes "end") is_end (beside (pname_spells p.name named.0) (by_sign semicolon close_mark (codes ";") is_semicolon nothing)) in
    let no_properties = by_line package_properties 1 refl nothing in
    let inside = beside (imports_spell p.imports parts.0) (beside (items_spell p.items stated parts.1) (beside no_properties last)) in
    subst (λ (ws : List Spelled). Spells (Nonterminal package_unit ∷ []) ws) (sym (package_words_are p stated))
    (by_line package_unit 0 refl
    (by_word package_word package_mark Name (codes "package") is_package (beside (pname_spells p.name named.0) (by_word public_word unmarked Name (codes "public") is_public inside))))

packages_spell : (ps : List Package) (stated : Stated) → are_printable ps ≡ true → Spells (Nonterminal packages ∷ []) (canonical_words ps stated)
packages_spell [] stated h = by_line packages 1 refl nothing
packages_spell (p ∷ ps) stated h =
    let both = and_parts (is_printable_package p) (are_printable ps) h in
    subst (λ (ws : List Spelled). Spells (Nonterminal packages ∷ []) ws) (sym (all_words-append (package_lines p (first_list stated)) (canonical_lines ps (other_lists stated))))
    (by_line packages 0 refl (beside (package_spells p (first_list stated) both.0) (packages_spell ps (other_lists stated) both.1)))

-- ---- the law

pub spells : (ps : List Package) (stated : Stated) → IsTrue (are_printable ps) → (steps : List Step) × IsSpelling (canonical_words ps stated) steps
spells ps stated h =
    let whole = packages_spell ps stated h in
    (whole.steps, (whole.derives, whole.marks))
