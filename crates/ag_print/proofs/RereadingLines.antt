-- The words of canonical lines in a row, and which marks stand in them.
use Rattle.std.proofs.Common.{◌≡◌, ℕ, Bool, true, List, [], ◌∷◌, ◌++◌, map, refl, sym, ap, ◌∙◌}
use Rattle.std.specs.Prelude.{Option, Some, None, codes}
use Rattle.std.specs.List.{flat_map, list_all}
use Rattle.std.proofs.lemmas.Grind.{flat_map-append}
use Rattle.std.proofs.lemmas.List.{append_assoc, append-nil, map-append}
use Rattle.std.proofs.lemmas.List.Folds.{list_all-map}
use Rattle.ag_terms.specs.declared.names.Path.{Path}
use Rattle.ag_terms.specs.declared.names.Ident.{Ident}
use Rattle.ag_aadl.specs.declared.packages.PortKind.{PortKind}
use Rattle.ag_aadl.specs.declared.packages.PortKind.TheVariants as port_kind
use Rattle.ag_aadl.specs.declared.packages.Port.{Port}
use Rattle.ag_aadl.specs.declared.packages.Frame.{Frame}
use Rattle.ag_aadl.specs.declared.packages.Sub.{Sub}
use Rattle.ag_aadl.specs.declared.packages.Wire.{Wire}
use Rattle.ag_aadl.specs.declared.packages.Body.{Body}
use Rattle.ag_aadl.specs.declared.packages.Item.{Item}
use Rattle.ag_aadl.specs.declared.packages.Item.TheVariants as item
use Rattle.ag_aadl.specs.declared.packages.Package.{Package}
use Rattle.ag_aadl.specs.Marks.{unmarked, package_mark, part_mark, join_mark, import_mark, item_mark, owner_mark, declared_mark, feature_mark, direction_mark, event_mark, data_mark, class_body_mark, sub_mark, kind_mark, connection_mark, spot_mark, spot_port_mark, annex_name_mark, annex_text_mark, end_mark, end_owner_mark, end_name_mark, close_mark, features_mark, subcomponents_mark, connections_mark}
use Rattle.ag_aadl.specs.Words.{terminal_of}
use Rattle.ag_lex.specs.declared.token.Token.{Token}
use Rattle.ag_terms.specs.declared.clauses.Clause.{Clause}
use Rattle.ag_print.specs.Annexes.{Stated}
use Rattle.ag_print.specs.Canonical.{Spelled, name_at, sign_at, word, sign, more_parts, parts_words, pname_words, body_words, package_parts, class_words, category_word, semicolon, section, kind_words, port_line, sub_line, spot_words, end_words, wire_line, annex_line, annex_lines, frame_lines, body_lines, item_lines, first_list, other_lists, items_lines, import_line, package_lines, canonical_lines}
use Rattle.ag_print.proofs.RereadingSeen.{Seen, two}
use Rattle.ag_print.proofs.RereadingPieces.{among, within, within_passes, all_both}

-- what is seen of a word
abbrev pub seen : Spelled → Seen
seen s = record { mark = s.mark; terminal = terminal_of s.word.kind s.word.own; text = s.word.own }

abbrev pub behind_first : {A : Type 0} → List A → List A
behind_first [] = []
behind_first (x ∷ xs) = xs

-- ---- the words of lines in a row

abbrev pub flat : List (List Spelled) → List Spelled
flat lines = flat_map (λ line. line) lines

abbrev pub section_words : {A : Type 0} → Spelled → (A → List Spelled) → List A → List Spelled
section_words head line [] = []
section_words head line (x ∷ xs) = head ∷ flat_map line (x ∷ xs)

-- things, each with what is stated of it
abbrev pub paired : {A B : Type 0} → List A → List (List B) → List (A × List B)
paired [] stated = []
paired (x ∷ xs) stated = (x, first_list stated) ∷ paired xs (other_lists stated)

abbrev pub annex_words : List Token → List Clause → List Spelled
annex_words [] clauses = []
annex_words (t ∷ ts) clauses = annex_line unmarked clauses

abbrev pub frame_end : Frame → List Spelled
frame_end f = word (codes "end") ∷ name_at end_name_mark f.name.text ∷ semicolon

abbrev pub features : Frame → List Spelled
features f = section_words (name_at features_mark (codes "features")) port_line f.ports

abbrev pub frame_tail : Frame → List Clause → List Spelled
frame_tail f clauses = annex_words f.annexes clauses ++ frame_end f

abbrev pub frame_words : Frame → List Clause → List Spelled
frame_words f clauses = name_at item_mark (category_word f.category) ∷ name_at declared_mark f.name.text ∷ (features f ++ frame_tail f clauses)

abbrev pub body_end : Body → List Spelled
body_end b = word (codes "end") ∷ name_at end_owner_mark b.frame.text ∷ sign (codes ".") ∷ name_at end_name_mark b.name.text ∷ semicolon

abbrev pub subcomponents : Body → List Spelled
subcomponents b = section_words (name_at subcomponents_mark (codes "subcomponents")) sub_line b.subs

abbrev pub connections : Body → List Spelled
connections b = section_words (name_at connections_mark (codes "connections")) wire_line b.wires

abbrev pub body_rest : Body → List Clause → List Spelled
body_rest b clauses = annex_words b.annexes clauses ++ body_end b

abbrev pub implementation_words : Body → List Clause → List Spelled
implementation_words b clauses =
    name_at item_mark (category_word b.category) ∷ word (codes "implementation") ∷ name_at owner_mark b.frame.text ∷ sign (codes ".") ∷ name_at declared_mark b.name.text
    ∷ (subcomponents b ++ (connections b ++ body_rest b clauses))

abbrev pub words_of_item : Item → List Clause → List Spelled
words_of_item (item.Frame f) clauses = frame_words f clauses
words_of_item (item.Body b) clauses = implementation_words b clauses
words_of_item (item.Library t) clauses = annex_line item_mark clauses

-- a declaration, and what its annexes state
abbrev pub item_words : Item × List Clause → List Spelled
item_words x = words_of_item x.0 x.1

abbrev pub head_words : Package → List Spelled
head_words p = name_at package_mark (codes "package") ∷ (pname_words p.name ++ word (codes "public") ∷ [])

abbrev pub close_words : Package → List Spelled
close_words p = name_at end_mark (codes "end") ∷ (pname_words p.name ++ sign_at close_mark (codes ";") ∷ [])

-- a package, and what the annexes of its declarations state
abbrev pub items_of : Package × List (List Clause) → List (Item × List Clause)
items_of q = paired q.0.items q.1

abbrev pub package_words : Package × List (List Clause) → List Spelled
package_words q = head_words q.0 ++ (flat_map import_line q.0.imports ++ (flat_map item_words (items_of q) ++ close_words q.0))

flat_lines : {A : Type 0} (line : A → List Spelled) (xs : List A) → flat (map line xs) ≡ flat_map line xs
flat_lines line [] = refl
flat_lines line (x ∷ xs) = ap (λ (z : List Spelled). line x ++ z) (flat_lines line xs)

flat_section : {A : Type 0} (head : Spelled) (line : A → List Spelled) (xs : List A) → flat (section head (map line xs)) ≡ section_words head line xs
flat_section head line [] = refl
flat_section head line (x ∷ xs) = ap (λ (z : List Spelled). head ∷ (line x ++ z)) (flat_lines line xs)

flat_annexes : (ts : List Token) (clauses : List Clause) → flat (annex_lines ts clauses) ≡ annex_words ts clauses
flat_annexes [] clauses = refl
flat_annexes (t ∷ ts) clauses = append-nil (annex_line unmarked clauses)

-- the annexes' lines and one more
flat_tail : (ts : List Token) (clauses : List Clause) (end : List Spelled) → flat (annex_lines ts clauses ++ end ∷ []) ≡ annex_words ts clauses ++ end
flat_tail ts clauses end =
    flat_map-append (λ (line : List Spelled). line) (annex_lines ts clauses) (end ∷ []) ∙ two (λ (y z : List Spelled). y ++ z) (flat_annexes ts clauses) (append-nil end)

flat_frame : (f : Frame) (clauses : List Clause) → flat (frame_lines f clauses) ≡ frame_words f clauses
flat_frame f clauses =
    ap (λ (z : List Spelled). name_at item_mark (category_word f.category) ∷ name_at declared_mark f.name.text ∷ z)
    (flat_map-append (λ (line : List Spelled). line) (section (name_at features_mark (codes "features")) (map port_line f.ports)) (annex_lines f.annexes clauses ++ frame_end f ∷ [])
    ∙ two (λ (y z : List Spelled). y ++ z) (flat_section (name_at features_mark (codes "features")) port_line f.ports) (flat_tail f.annexes clauses (frame_end f)))

flat_body : (b : Body) (clauses : List Clause) → flat (body_lines b clauses) ≡ implementation_words b clauses
flat_body b clauses =
    let subs = section (name_at subcomponents_mark (codes "subcomponents")) (map sub_line b.subs) in
    let wires = section (name_at connections_mark (codes "connections")) (map wire_line b.wires) in
    let rest = annex_lines b.annexes clauses ++ body_end b ∷ [] in
    ap (λ (z : List Spelled). name_at item_mark (category_word b.category) ∷ word (codes "implementation") ∷ name_at owner_mark b.frame.text ∷ sign (codes ".") ∷ name_at declared_mark b.name.text ∷ z)
    (flat_map-append (λ (line : List Spelled). line) subs (wires ++ rest)
    ∙ two (λ (y z : List Spelled). y ++ z) (flat_section (name_at subcomponents_mark (codes "subcomponents")) sub_line b.subs)
    (flat_map-append (λ (line : List Spelled). line) wires rest
    ∙ two (λ (y z : List Spelled). y ++ z) (flat_section (name_at connections_mark (codes "connections")) wire_line b.wires) (flat_tail b.annexes clauses (body_end b))))

flat_item : (i : Item) (clauses : List Clause) → flat (item_lines i clauses) ≡ words_of_item i clauses
flat_item (item.Frame f) clauses = flat_frame f clauses
flat_item (item.Body b) clauses = flat_body b clauses
flat_item (item.Library t) clauses = append-nil (annex_line item_mark clauses)

flat_items : (items : List Item) (stated : List (List Clause)) → flat (items_lines items stated) ≡ flat_map item_words (paired items stated)
flat_items [] stated = refl
flat_items (i ∷ items) stated =
    flat_map-append (λ (line : List Spelled). line) (item_lines i (first_list stated)) (items_lines items (other_lists stated))
    ∙ two (λ (y z : List Spelled). y ++ z) (flat_item i (first_list stated)) (flat_items items (other_lists stated))

flat_package : (p : Package) (stated : List (List Clause)) → flat (package_lines p stated) ≡ package_words (p, stated)
flat_package p stated =
    let close = name_at end_mark (codes "end") ∷ (pname_words p.name ++ sign_at close_mark (codes ";") ∷ []) in
    let items = flat_map item_words (paired p.items stated) in
    let rest = flat_map import_line p.imports ++ (items ++ close) in
    let inner : flat (items_lines p.items stated ++ close ∷ []) ≡ items ++ close =
    flat_map-append (λ (line : List Spelled). line) (items_lines p.items stated) (close ∷ []) ∙ two (λ (y z : List Spelled). y ++ z) (flat_items p.items stated) (append-nil close) in
    let tail : flat (map import_line p.imports ++ (items_lines p.items stated ++ close ∷ [])) ≡ rest =
    flat_map-append (λ (line : List Spelled). line) (map import_line p.imports) (items_lines p.items stated ++ close ∷ [])
    ∙ two (λ (y z : List Spelled). y ++ z) (flat_lines import_line p.imports) inner in
    ap (λ (z : List Spelled). name_at package_mark (codes "package") ∷ (pname_words p.name ++ (word (codes "public") ∷ z))) tail
    ∙ ap (λ (z : List Spelled). name_at package_mark (codes "package") ∷ z) (sym (append_assoc (pname_words p.name) (word (codes "public") ∷ []) rest))

pub flat_packages : (ps : List Package) (stated : Stated) → flat (canonical_lines ps stated) ≡ flat_map package_words (paired ps stated)
flat_packages [] stated = refl
flat_packages (p ∷ ps) stated =
    flat_map-append (λ (line : List Spelled). line) (package_lines p (first_list stated)) (canonical_lines ps (other_lists stated))
    ∙ two (λ (y z : List Spelled). y ++ z) (flat_package p (first_list stated)) (flat_packages ps (other_lists stated))

pub map_flat : {A : Type 0} (line : A → List Spelled) (xs : List A) → map seen (flat_map line xs) ≡ flat_map (λ x. map seen (line x)) xs
map_flat line [] = refl
map_flat line (x ∷ xs) = map-append seen (line x) (flat_map line xs) ∙ ap (λ (z : List Seen). map seen (line x) ++ z) (map_flat line xs)

-- ---- the marks in them

abbrev pub marks_within : List ℕ → List Spelled → Bool
marks_within ks ws = list_all (λ s. among ks s.mark) ws

pub seen_within : (ks : List ℕ) (ws : List Spelled) → marks_within ks ws ≡ true → within ks (map seen ws) ≡ true
seen_within ks ws h = list_all-map (λ (s : Seen). among ks s.mark) seen ws ∙ h

pub seen_all : (ks : List ℕ) (p : ℕ → Bool) (ws : List Spelled) → list_all p ks ≡ true → marks_within ks ws ≡ true → list_all (λ s. p s.mark) (map seen ws) ≡ true
seen_all ks p ws all h = list_all-map (λ (s : Seen). p s.mark) seen ws ∙ within_passes (λ (s : Spelled). s.mark) ks p ws all h

pub wider : (js ks : List ℕ) (ws : List Spelled) → list_all (among ks) js ≡ true → marks_within js ws ≡ true → marks_within ks ws ≡ true
wider js ks ws all h = within_passes (λ (s : Spelled). s.mark) js (among ks) ws all h

pub join_marks : (ks : List ℕ) (a b : List Spelled) → marks_within ks a ≡ true → marks_within ks b ≡ true → marks_within ks (a ++ b) ≡ true
join_marks ks a b l r = all_both (λ (s : Spelled). among ks s.mark) a b l r

flat_marks : {A : Type 0} (ks : List ℕ) (line : A → List Spelled) → ((x : A) → marks_within ks (line x) ≡ true) → (xs : List A) → marks_within ks (flat_map line xs) ≡ true
flat_marks ks line h [] = refl
flat_marks ks line h (x ∷ xs) = join_marks ks (line x) (flat_map line xs) (h x) (flat_marks ks line h xs)

abbrev pub name_set : List ℕ
name_set = part_mark ∷ join_mark ∷ []

abbrev pub class_set : List ℕ
class_set = unmarked ∷ class_body_mark ∷ name_set

abbrev pub port_set : List ℕ
port_set = direction_mark ∷ event_mark ∷ data_mark ∷ class_set

abbrev pub sub_set : List ℕ
sub_set = kind_mark ∷ class_set

abbrev pub wire_set : List ℕ
wire_set = unmarked ∷ spot_mark ∷ spot_port_mark ∷ []

abbrev pub wires_set : List ℕ
wires_set = connection_mark ∷ connections_mark ∷ wire_set

abbrev pub annex_set : List ℕ
annex_set = unmarked ∷ annex_name_mark ∷ annex_text_mark ∷ []

abbrev pub end_set : List ℕ
end_set = end_owner_mark ∷ end_name_mark ∷ annex_set

abbrev pub ports_set : List ℕ
ports_set = feature_mark ∷ features_mark ∷ port_set

abbrev pub subs_set : List ℕ
subs_set = sub_mark ∷ subcomponents_mark ∷ sub_set

-- what stands in a declaration behind its first word
abbrev pub inner_set : List ℕ
inner_set =
    unmarked ∷ part_mark ∷ join_mark ∷ owner_mark ∷ declared_mark ∷ feature_mark ∷ direction_mark ∷ event_mark ∷ data_mark ∷ class_body_mark ∷ sub_mark ∷ kind_mark
    ∷ connection_mark ∷ spot_mark ∷ spot_port_mark ∷ annex_name_mark ∷ annex_text_mark ∷ end_owner_mark ∷ end_name_mark ∷ features_mark ∷ subcomponents_mark ∷ connections_mark ∷ []

-- what stands in a package behind its first word
abbrev pub package_set : List ℕ
package_set = import_mark ∷ item_mark ∷ end_mark ∷ close_mark ∷ inner_set

more_marks : (ps : List (List ℕ)) → marks_within name_set (more_parts ps) ≡ true
more_marks [] = refl
more_marks (p ∷ ps) = more_marks ps

pub parts_marks : (ps : List (List ℕ)) → marks_within name_set (parts_words ps) ≡ true
parts_marks [] = refl
parts_marks (p ∷ ps) = more_marks ps

body_marks : (b : Option Ident) → marks_within class_set (body_words b) ≡ true
body_marks None = refl
body_marks (Some i) = refl

pub class_marks : (c : Option Path) → marks_within class_set (class_words c ++ semicolon) ≡ true
class_marks None = refl
class_marks (Some p) =
    let parts = parts_words (package_parts p.«package» ++ p.name.text ∷ []) in
    join_marks class_set (parts ++ body_words p.body) semicolon
    (join_marks class_set parts (body_words p.body) (wider name_set class_set parts refl (parts_marks (package_parts p.«package» ++ p.name.text ∷ []))) (body_marks p.body)) refl

kind_marks : (k : PortKind) → marks_within port_set (kind_words k) ≡ true
kind_marks port_kind.Plain = refl
kind_marks port_kind.EventPlain = refl
kind_marks port_kind.Event = refl

pub port_marks : (p : Port) → marks_within port_set (behind_first (port_line p)) ≡ true
port_marks p =
    join_marks port_set (kind_words p.kind) (word (codes "port") ∷ (class_words p.carries ++ semicolon)) (kind_marks p.kind)
    (wider class_set port_set (class_words p.carries ++ semicolon) refl (class_marks p.carries))

pub sub_marks : (s : Sub) → marks_within sub_set (behind_first (sub_line s)) ≡ true
sub_marks s = wider class_set sub_set (class_words s.of ++ semicolon) refl (class_marks s.of)

spot_marks : (s : Option Ident) (port : Ident) → marks_within wire_set (spot_words s port) ≡ true
spot_marks None port = refl
spot_marks (Some s) port = refl

pub wire_marks : (w : Wire) → marks_within wire_set (behind_first (wire_line w)) ≡ true
wire_marks w =
    join_marks wire_set (end_words w.from) (sign (codes "->") ∷ (end_words w.to ++ semicolon)) (spot_marks w.from.sub w.from.port)
    (join_marks wire_set (end_words w.to) semicolon (spot_marks w.to.sub w.to.port) refl)

section_marks : {A : Type 0} (ks : List ℕ) (head : Spelled) (line : A → List Spelled) → among ks head.mark ≡ true → ((x : A) → marks_within ks (line x) ≡ true) → (xs : List A) → marks_within ks (section_words head line xs) ≡ true
section_marks ks head line h e [] = refl
section_marks ks head line h e (x ∷ xs) = rw h (flat_marks ks line e (x ∷ xs))

pub features_marks : (f : Frame) → marks_within ports_set (features f) ≡ true
features_marks f =
    section_marks ports_set (name_at features_mark (codes "features")) port_line refl (λ (p : Port). wider port_set ports_set (behind_first (port_line p)) refl (port_marks p)) f.ports

pub subcomponents_marks : (b : Body) → marks_within subs_set (subcomponents b) ≡ true
subcomponents_marks b =
    section_marks subs_set (name_at subcomponents_mark (codes "subcomponents")) sub_line refl (λ (s : Sub). wider sub_set subs_set (behind_first (sub_line s)) refl (sub_marks s)) b.subs

pub connections_marks : (b : Body) → marks_within wires_set (connections b) ≡ true
connections_marks b =
    section_marks wires_set (name_at connections_mark (codes "connections")) wire_line refl (λ (w : Wire). wider wire_set wires_set (behind_first (wire_line w)) refl (wire_marks w)) b.wires

pub annexes_marks : (ts : List Token) (clauses : List Clause) → marks_within annex_set (annex_words ts clauses) ≡ true
annexes_marks [] clauses = refl
annexes_marks (t ∷ ts) clauses = refl

pub frame_tail_marks : (f : Frame) (clauses : List Clause) → marks_within end_set (frame_tail f clauses) ≡ true
frame_tail_marks f clauses = join_marks end_set (annex_words f.annexes clauses) (frame_end f) (wider annex_set end_set (annex_words f.annexes clauses) refl (annexes_marks f.annexes clauses)) refl

pub body_rest_marks : (b : Body) (clauses : List Clause) → marks_within end_set (body_rest b clauses) ≡ true
body_rest_marks b clauses = join_marks end_set (annex_words b.annexes clauses) (body_end b) (wider annex_set end_set (annex_words b.annexes clauses) refl (annexes_marks b.annexes clauses)) refl

pub item_marks : (i : Item) (clauses : List Clause) → marks_within inner_set (behind_first (words_of_item i clauses)) ≡ true
item_marks (item.Frame f) clauses =
    join_marks inner_set (features f) (frame_tail f clauses) (wider ports_set inner_set (features f) refl (features_marks f)) (wider end_set inner_set (frame_tail f clauses) refl (frame_tail_marks f clauses))
item_marks (item.Body b) clauses =
    join_marks inner_set (subcomponents b) (connections b ++ body_rest b clauses) (wider subs_set inner_set (subcomponents b) refl (subcomponents_marks b))
    (join_marks inner_set (connections b) (body_rest b clauses) (wider wires_set inner_set (connections b) refl (connections_marks b)) (wider end_set inner_set (body_rest b clauses) refl (body_rest_marks b clauses)))
item_marks (item.Library t) clauses = refl

all_of_item : (i : Item) (clauses : List Clause) → marks_within package_set (words_of_item i clauses) ≡ true
all_of_item (item.Frame f) clauses = wider inner_set package_set (behind_first (frame_words f clauses)) refl (item_marks (item.Frame f) clauses)
all_of_item (item.Body b) clauses = wider inner_set package_set (behind_first (implementation_words b clauses)) refl (item_marks (item.Body b) clauses)
all_of_item (item.Library t) clauses = refl

pub import_marks : (i : Ident) → marks_within class_set (behind_first (import_line i)) ≡ true
import_marks i = join_marks class_set (pname_words i) semicolon (wider name_set class_set (pname_words i) refl (parts_marks (package_parts (Some i)))) refl

pub head_marks : (p : Package) → marks_within class_set (behind_first (head_words p)) ≡ true
head_marks p = join_marks class_set (pname_words p.name) (word (codes "public") ∷ []) (wider name_set class_set (pname_words p.name) refl (parts_marks (package_parts (Some p.name)))) refl

pub close_marks : (p : Package) → marks_within (close_mark ∷ name_set) (behind_first (close_words p)) ≡ true
close_marks p =
    join_marks (close_mark ∷ name_set) (pname_words p.name) (sign_at close_mark (codes ";") ∷ [])
    (wider name_set (close_mark ∷ name_set) (pname_words p.name) refl (parts_marks (package_parts (Some p.name)))) refl

pub package_marks : (q : Package × List (List Clause)) → marks_within package_set (behind_first (package_words q)) ≡ true
package_marks q =
    let p = q.0 in
    let imports = flat_map import_line p.imports in
    let items = flat_map item_words (items_of q) in
    join_marks package_set (behind_first (head_words p)) (imports ++ (items ++ close_words p)) (wider class_set package_set (behind_first (head_words p)) refl (head_marks p))
    (join_marks package_set imports (items ++ close_words p)
    (flat_marks package_set import_line (λ (i : Ident). wider class_set package_set (behind_first (import_line i)) refl (import_marks i)) p.imports)
    (join_marks package_set items (close_words p) (flat_marks package_set item_words (λ (x : Item × List Clause). all_of_item x.0 x.1) (items_of q))
    (wider (close_mark ∷ name_set) package_set (behind_first (close_words p)) refl (close_marks p))))
