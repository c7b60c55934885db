-- The words of canonical lines keep the rules on names, on sections and on timing.
use Rattle.std.proofs.Common.{◌≡◌, ℕ, Bool, true, false, List, [], ◌∷◌, ◌++◌, map, refl, sym, ap, ◌∙◌}
use Rattle.std.specs.Prelude.{◌==◌, Option, Some, None, codes}
use Rattle.std.specs.List.{flat_map, list_any, list_all}
use Rattle.std.proofs.lemmas.List.{append_assoc, append-nil, map-append}
use Rattle.std.proofs.lemmas.List.Folds.{list_all-map}
use Rattle.ag_aadl.specs.declared.names.Naming.{Naming}
use Rattle.ag_aadl.specs.declared.names.Naming.TheVariants as naming
use Rattle.ag_terms.specs.declared.names.Path.{Path}
use Rattle.ag_terms.specs.declared.names.Ident.{Ident}
use Rattle.ag_aadl.specs.declared.packages.PortKind.{PortKind}
use Rattle.ag_aadl.specs.declared.packages.PortKind.TheVariants as port_kind
use Rattle.ag_aadl.specs.declared.packages.Port.{Port}
use Rattle.ag_aadl.specs.declared.packages.Frame.{Frame}
use Rattle.ag_aadl.specs.declared.packages.Sub.{Sub}
use Rattle.ag_aadl.specs.declared.packages.Wire.{Wire}
use Rattle.ag_aadl.specs.declared.packages.Body.{Body}
use Rattle.ag_aadl.specs.declared.packages.Item.{Item}
use Rattle.ag_aadl.specs.declared.packages.Item.TheVariants as item
use Rattle.ag_aadl.specs.declared.packages.Package.{Package}
use Rattle.ag_aadl.specs.Marks.{import_mark, feature_mark, sub_mark, connection_mark, close_mark, features_mark, subcomponents_mark, connections_mark}
use Rattle.ag_aadl.specs.Words.{reserved_words, known_symbols}
use Rattle.ag_terms.specs.Names.{same}
use Rattle.ag_aadl.specs.Names.{name_parts}
use Rattle.ag_lex.specs.declared.token.Token.{Token}
use Rattle.ag_terms.specs.declared.clauses.Clause.{Clause}
use Rattle.ag_print.specs.Canonical.{Spelled, name_at, sign_at, sign, word, more_parts, parts_words, pname_words, body_words, package_parts, class_words, semicolon, kind_words, port_line, sub_line, spot_words, end_words, wire_line, import_line}
use Rattle.ag_print.proofs.RereadingSeen.{Seen}
use Rattle.ag_print.proofs.RereadingPieces.{among, both, all_both}
use Rattle.ag_print.proofs.RereadingLines.{seen, behind_first, section_words, annex_words, frame_end, frame_tail, features, frame_words, body_end, subcomponents, connections, body_rest, implementation_words, words_of_item, item_words, items_of, head_words, close_words, package_words, marks_within, seen_all, wider, name_set, class_set, port_set, sub_set, wire_set, wires_set, subs_set, ports_set, annex_set, annexes_marks, port_marks, sub_marks, wire_marks, features_marks, subcomponents_marks, connections_marks, import_marks, head_marks, close_marks}
use Rattle.ag_print.proofs.RereadingRules.{Told, with_names, names_hold, sections_hold, is_quiet, calm_set, calm_names, silent_set, silent_sections, same_selves}

-- a package and a declaration, each with what its annexes state
abbrev Told_package : Type 0
Told_package = Package × List (List Clause)

abbrev Told_item : Type 0
Told_item = Item × List Clause

-- ---- names

calm_words : (p d e : List (List ℕ)) (ks : List ℕ) (ws : List Spelled) (t : List Seen) → list_all (among calm_set) ks ≡ true → marks_within ks ws ≡ true
    → names_hold (with_names naming.Nothing p d e) (map seen ws ++ t) ≡ names_hold (with_names naming.Nothing p d e) t
calm_words p d e ks ws t all h = calm_names p d e (map seen ws) t (seen_all ks (among calm_set) ws all h)

more_head : (p d e ps : List (List ℕ)) (t : List Seen) → names_hold (with_names naming.Head p d e) (map seen (more_parts ps) ++ t) ≡ names_hold (with_names naming.Head (p ++ ps) d e) t
more_head p d e [] t = ap (λ (z : List (List ℕ)). names_hold (with_names naming.Head z d e) t) (sym (append-nil p))
more_head p d e (q ∷ ps) t = more_head (p ++ q ∷ []) d e ps t ∙ ap (λ (z : List (List ℕ)). names_hold (with_names naming.Head z d e) t) (append_assoc p (q ∷ []) ps)

parts_head : (d e ps : List (List ℕ)) (t : List Seen) → names_hold (with_names naming.Head [] d e) (map seen (parts_words ps) ++ t) ≡ names_hold (with_names naming.Head ps d e) t
parts_head d e [] t = refl
parts_head d e (q ∷ ps) t = more_head (q ∷ []) d e ps t

more_end : (p d e ps : List (List ℕ)) (t : List Seen) → names_hold (with_names naming.End p d e) (map seen (more_parts ps) ++ t) ≡ names_hold (with_names naming.End p d (e ++ ps)) t
more_end p d e [] t = ap (λ (z : List (List ℕ)). names_hold (with_names naming.End p d z) t) (sym (append-nil e))
more_end p d e (q ∷ ps) t = more_end p d (e ++ q ∷ []) ps t ∙ ap (λ (z : List (List ℕ)). names_hold (with_names naming.End p d z) t) (append_assoc e (q ∷ []) ps)

parts_end : (p d ps : List (List ℕ)) (t : List Seen) → names_hold (with_names naming.End p d []) (map seen (parts_words ps) ++ t) ≡ names_hold (with_names naming.End p d ps) t
parts_end p d [] t = refl
parts_end p d (q ∷ ps) t = more_end p d (q ∷ []) ps t

-- words in two parts, and what stands behind them
in_two : (a b : List Spelled) (t : List Seen) → map seen (a ++ b) ++ t ≡ map seen a ++ (map seen b ++ t)
in_two a b t = ap (λ (z : List Seen). z ++ t) (map-append seen a b) ∙ append_assoc (map seen a) (map seen b) t

-- whatever declaration is open, and whatever was read behind `end`
abbrev HoldsBehind : List (List ℕ) → List Seen → Type 0
HoldsBehind p t = (x : Naming) (d e : List (List ℕ)) → names_hold (with_names x p d e) t ≡ true

frame_names : (p : List (List ℕ)) (f : Frame) (clauses : List Clause) (t : List Seen) → HoldsBehind p t → HoldsBehind p (map seen (frame_words f clauses) ++ t)
frame_names p f clauses t h x d e =
    let n = f.name.text ∷ [] in
    let state = with_names naming.Nothing p n [] in
    let annexes = annex_words f.annexes clauses in
    ap (names_hold state) (in_two (features f) (frame_tail f clauses) t)
    ∙ calm_words p n [] ports_set (features f) (map seen (frame_tail f clauses) ++ t) refl (features_marks f)
    ∙ ap (names_hold state) (in_two annexes (frame_end f) t)
    ∙ calm_words p n [] annex_set annexes (map seen (frame_end f) ++ t) refl (annexes_marks f.annexes clauses)
    ∙ rw (same_selves n) (h naming.Nothing n n)

body_names : (p : List (List ℕ)) (b : Body) (clauses : List Clause) (t : List Seen) → HoldsBehind p t → HoldsBehind p (map seen (implementation_words b clauses) ++ t)
body_names p b clauses t h x d e =
    let n = b.frame.text ∷ b.name.text ∷ [] in
    let state = with_names naming.Nothing p n [] in
    let tail = connections b ++ body_rest b clauses in
    let annexes = annex_words b.annexes clauses in
    ap (names_hold state) (in_two (subcomponents b) tail t)
    ∙ calm_words p n [] subs_set (subcomponents b) (map seen tail ++ t) refl (subcomponents_marks b)
    ∙ ap (names_hold state) (in_two (connections b) (body_rest b clauses) t)
    ∙ calm_words p n [] wires_set (connections b) (map seen (body_rest b clauses) ++ t) refl (connections_marks b)
    ∙ ap (names_hold state) (in_two annexes (body_end b) t)
    ∙ calm_words p n [] annex_set annexes (map seen (body_end b) ++ t) refl (annexes_marks b.annexes clauses)
    ∙ rw (same_selves n) (h naming.Nothing n n)

item_names : (p : List (List ℕ)) (i : Item) (clauses : List Clause) (t : List Seen) → HoldsBehind p t → HoldsBehind p (map seen (words_of_item i clauses) ++ t)
item_names p (item.Frame f) clauses t h = frame_names p f clauses t h
item_names p (item.Body b) clauses t h = body_names p b clauses t h
item_names p (item.Library a) clauses t h = λ x d e. h naming.Nothing [] []

import_names : (p : List (List ℕ)) (i : Ident) (t : List Seen) → HoldsBehind p t → HoldsBehind p (map seen (import_line i) ++ t)
import_names p i t h x d e = calm_words p d e class_set (behind_first (import_line i)) t refl (import_marks i) ∙ h naming.Nothing d e

flat_names : {A : Type 0} (p : List (List ℕ)) (line : A → List Spelled) → ((a : A) (t : List Seen) → HoldsBehind p t → HoldsBehind p (map seen (line a) ++ t))
    → (t : List Seen) → HoldsBehind p t → (xs : List A) → HoldsBehind p (map seen (flat_map line xs) ++ t)
flat_names p line each t h [] x d e = h x d e
flat_names p line each t h (a ∷ xs) x d e =
    ap (names_hold (with_names x p d e)) (in_two (line a) (flat_map line xs) t)
    ∙ each a (map seen (flat_map line xs) ++ t) (flat_names p line each t h xs) x d e

close_names : (q : Package) (t : List Seen) → ((n : Told) → names_hold n t ≡ true) → HoldsBehind (name_parts q.name.text) (map seen (close_words q) ++ t)
close_names q t h x d e =
    let ps = name_parts q.name.text in
    let close = sign_at close_mark (codes ";") ∷ [] in
    ap (names_hold (with_names naming.End ps d [])) (in_two (pname_words q.name) close t)
    ∙ parts_end ps d ps (map seen close ++ t)
    ∙ rw (same_selves ps) (h (with_names naming.Nothing ps d ps))

package_names : (q : Told_package) (t : List Seen) → ((n : Told) → names_hold n t ≡ true) → (n : Told) → names_hold n (map seen (package_words q) ++ t) ≡ true
package_names q t h n =
    let ps = name_parts q.0.name.text in
    let imports = flat_map import_line q.0.imports in
    let items = flat_map item_words (items_of q) in
    let close = map seen (close_words q.0) ++ t in
    let behind_items = flat_names ps item_words (λ (x : Told_item). item_names ps x.0 x.1) close (close_names q.0 t h) (items_of q) in
    let behind_imports = flat_names ps import_line (import_names ps) (map seen items ++ close) behind_items q.0.imports in
    let public = word (codes "public") ∷ [] in
    ap (names_hold n) (in_two (head_words q.0) (imports ++ (items ++ close_words q.0)) t
    ∙ ap (λ (z : List Seen). map seen (head_words q.0) ++ z) (in_two imports (items ++ close_words q.0) t ∙ ap (λ (z : List Seen). map seen imports ++ z) (in_two items (close_words q.0) t)))
    ∙ ap (names_hold (with_names naming.Head [] n.declaration n.end)) (in_two (pname_words q.0.name) public (map seen imports ++ (map seen items ++ close)))
    ∙ parts_head n.declaration n.end ps (map seen public ++ (map seen imports ++ (map seen items ++ close)))
    ∙ behind_imports naming.Head n.declaration n.end

pub names_kept : (qs : List Told_package) (n : Told) → names_hold n (map seen (flat_map package_words qs)) ≡ true
names_kept [] n = refl
names_kept (q ∷ qs) n =
    ap (names_hold n) (map-append seen (package_words q) (flat_map package_words qs)) ∙ package_names q (map seen (flat_map package_words qs)) (names_kept qs) n

-- ---- sections

silent_words : (before ks : List ℕ) (ws : List Spelled) (t : List Seen) → list_all (among silent_set) ks ≡ true → marks_within ks ws ≡ true → sections_hold before (map seen ws ++ t) ≡ sections_hold before t
silent_words before ks ws t all h = silent_sections before (map seen ws) t (seen_all ks (among silent_set) ws all h)

-- whatever sections are open
abbrev HoldsAnyway : List Seen → Type 0
HoldsAnyway t = (before : List ℕ) → sections_hold before t ≡ true

flat_silent : {A : Type 0} (before ks : List ℕ) (line : A → List Spelled) → list_all (among silent_set) ks ≡ true → ((a : A) → marks_within ks (line a) ≡ true) → (t : List Seen) → (xs : List A)
    → sections_hold before (map seen (flat_map line xs) ++ t) ≡ sections_hold before t
flat_silent before ks line all h t [] = refl
flat_silent before ks line all h t (a ∷ xs) =
    ap (sections_hold before) (in_two (line a) (flat_map line xs) t) ∙ silent_words before ks (line a) (map seen (flat_map line xs) ++ t) all (h a) ∙ flat_silent before ks line all h t xs

features_sections : (f : Frame) (t : List Seen) → sections_hold [] t ≡ true → sections_hold (features_mark ∷ []) t ≡ true → sections_hold [] (map seen (features f) ++ t) ≡ true
features_sections f t none some = step f.ports
  where
    step : (xs : List Port) → sections_hold [] (map seen (section_words (name_at features_mark (codes "features")) port_line xs) ++ t) ≡ true
    step [] = none
    step (p ∷ xs) =
        flat_silent (features_mark ∷ []) (feature_mark ∷ port_set) port_line refl (λ (q : Port). wider port_set (feature_mark ∷ port_set) (behind_first (port_line q)) refl (port_marks q)) t (p ∷ xs)
        ∙ some

subs_sections : (b : Body) (t : List Seen) → sections_hold [] t ≡ true → sections_hold (subcomponents_mark ∷ []) t ≡ true → sections_hold [] (map seen (subcomponents b) ++ t) ≡ true
subs_sections b t none some = step b.subs
  where
    step : (xs : List Sub) → sections_hold [] (map seen (section_words (name_at subcomponents_mark (codes "subcomponents")) sub_line xs) ++ t) ≡ true
    step [] = none
    step (s ∷ xs) =
        flat_silent (subcomponents_mark ∷ []) (sub_mark ∷ sub_set) sub_line refl (λ (q : Sub). wider sub_set (sub_mark ∷ sub_set) (behind_first (sub_line q)) refl (sub_marks q)) t (s ∷ xs)
        ∙ some

wires_sections : (before : List ℕ) (b : Body) (t : List Seen) → list_any (λ j. j == connections_mark) before ≡ false → HoldsAnyway t → sections_hold before (map seen (connections b) ++ t) ≡ true
wires_sections before b t fresh h = step b.wires
  where
    step : (xs : List Wire) → sections_hold before (map seen (section_words (name_at connections_mark (codes "connections")) wire_line xs) ++ t) ≡ true
    step [] = h before
    step (w ∷ xs) =
        rw fresh
        (flat_silent (before ++ connections_mark ∷ []) (connection_mark ∷ wire_set) wire_line refl (λ (q : Wire). wider wire_set (connection_mark ∷ wire_set) (behind_first (wire_line q)) refl (wire_marks q)) t (w ∷ xs)
        ∙ h (before ++ connections_mark ∷ []))

item_sections : (i : Item) (clauses : List Clause) (t : List Seen) → HoldsAnyway t → HoldsAnyway (map seen (words_of_item i clauses) ++ t)
item_sections (item.Frame f) clauses t h before =
    let annexes = annex_words f.annexes clauses in
    let ends = λ (c : List ℕ). ap (sections_hold c) (in_two annexes (frame_end f) t) ∙ silent_words c annex_set annexes (map seen (frame_end f) ++ t) refl (annexes_marks f.annexes clauses) ∙ h [] in
    ap (sections_hold []) (in_two (features f) (frame_tail f clauses) t) ∙ features_sections f (map seen (frame_tail f clauses) ++ t) (ends []) (ends (features_mark ∷ []))
item_sections (item.Body b) clauses t h before =
    let tail = connections b ++ body_rest b clauses in
    let annexes = annex_words b.annexes clauses in
    let ends : HoldsAnyway (map seen (body_rest b clauses) ++ t) =
    λ (c : List ℕ). ap (sections_hold c) (in_two annexes (body_end b) t) ∙ silent_words c annex_set annexes (map seen (body_end b) ++ t) refl (annexes_marks b.annexes clauses) ∙ h [] in
    let wires = λ (c : List ℕ) (fresh : list_any (λ j. j == connections_mark) c ≡ false).
    ap (sections_hold c) (in_two (connections b) (body_rest b clauses) t) ∙ wires_sections c b (map seen (body_rest b clauses) ++ t) fresh ends in
    ap (sections_hold []) (in_two (subcomponents b) tail t) ∙ subs_sections b (map seen tail ++ t) (wires [] refl) (wires (subcomponents_mark ∷ []) refl)
item_sections (item.Library a) clauses t h before = h []

flat_sections : (t : List Seen) → HoldsAnyway t → (xs : List Told_item) → HoldsAnyway (map seen (flat_map item_words xs) ++ t)
flat_sections t h [] before = h before
flat_sections t h (x ∷ xs) before =
    ap (sections_hold before) (in_two (item_words x) (flat_map item_words xs) t) ∙ item_sections x.0 x.1 (map seen (flat_map item_words xs) ++ t) (flat_sections t h xs) before

package_sections : (q : Told_package) (t : List Seen) → HoldsAnyway t → HoldsAnyway (map seen (package_words q) ++ t)
package_sections q t h before =
    let p = q.0 in
    let imports = flat_map import_line p.imports in
    let items = flat_map item_words (items_of q) in
    let close = map seen (close_words p) ++ t in
    let of_close : HoldsAnyway close =
    λ (c : List ℕ). silent_words c (close_mark ∷ name_set) (behind_first (close_words p)) t refl (close_marks p) ∙ h c in
    ap (sections_hold before) (in_two (head_words p) (imports ++ (items ++ close_words p)) t
    ∙ ap (λ (z : List Seen). map seen (head_words p) ++ z) (in_two imports (items ++ close_words p) t ∙ ap (λ (z : List Seen). map seen imports ++ z) (in_two items (close_words p) t)))
    ∙ silent_words [] class_set (behind_first (head_words p)) (map seen imports ++ (map seen items ++ close)) refl (head_marks p)
    ∙ flat_silent [] (import_mark ∷ class_set) import_line refl (λ (i : Ident). wider class_set (import_mark ∷ class_set) (behind_first (import_line i)) refl (import_marks i)) (map seen items ++ close) p.imports
    ∙ flat_sections close of_close (items_of q) []

pub sections_kept : (qs : List Told_package) → HoldsAnyway (map seen (flat_map package_words qs))
sections_kept [] before = refl
sections_kept (q ∷ qs) before =
    ap (sections_hold before) (map-append seen (package_words q) (flat_map package_words qs)) ∙ package_sections q (map seen (flat_map package_words qs)) (sections_kept qs) before

-- ---- timing

abbrev quiet : List Spelled → Bool
quiet ws = list_all (λ s. is_quiet (seen s)) ws

quiet_both : (a b : List Spelled) → quiet a ≡ true → quiet b ≡ true → quiet (a ++ b) ≡ true
quiet_both a b l r = all_both (λ (s : Spelled). is_quiet (seen s)) a b l r

quiet_more : (ps : List (List ℕ)) → quiet (more_parts ps) ≡ true
quiet_more [] = refl
quiet_more (p ∷ ps) = quiet_more ps

quiet_parts : (ps : List (List ℕ)) → quiet (parts_words ps) ≡ true
quiet_parts [] = refl
quiet_parts (p ∷ ps) = quiet_more ps

quiet_body : (b : Option Ident) → quiet (body_words b ++ semicolon) ≡ true
unfolding same known_symbols
quiet_body None = refl
quiet_body (Some i) = refl

quiet_class : (c : Option Path) → quiet (class_words c ++ semicolon) ≡ true
unfolding same known_symbols
quiet_class None = refl
quiet_class (Some p) =
    let parts = parts_words (package_parts p.«package» ++ p.name.text ∷ []) in
    ap quiet (append_assoc parts (body_words p.body) semicolon) ∙ quiet_both parts (body_words p.body ++ semicolon) (quiet_parts (package_parts p.«package» ++ p.name.text ∷ [])) (quiet_body p.body)

quiet_kind : (k : PortKind) → quiet (kind_words k) ≡ true
quiet_kind port_kind.Plain = refl
quiet_kind port_kind.EventPlain = refl
quiet_kind port_kind.Event = refl

quiet_port : (p : Port) → quiet (port_line p) ≡ true
unfolding same known_symbols reserved_words
quiet_port p = quiet_both (kind_words p.kind) (word (codes "port") ∷ (class_words p.carries ++ semicolon)) (quiet_kind p.kind) (quiet_class p.carries)

quiet_sub : (s : Sub) → quiet (sub_line s) ≡ true
unfolding same known_symbols
quiet_sub s = quiet_class s.of

quiet_spot : (s : Option Ident) (port : Ident) → quiet (spot_words s port) ≡ true
unfolding same known_symbols
quiet_spot None port = refl
quiet_spot (Some s) port = refl

quiet_wire : (w : Wire) → quiet (wire_line w) ≡ true
unfolding same known_symbols reserved_words
quiet_wire w =
    quiet_both (end_words w.from) (sign (codes "->") ∷ (end_words w.to ++ semicolon)) (quiet_spot w.from.sub w.from.port)
    (quiet_both (end_words w.to) semicolon (quiet_spot w.to.sub w.to.port) refl)

quiet_flat : {A : Type 0} (line : A → List Spelled) → ((a : A) → quiet (line a) ≡ true) → (xs : List A) → quiet (flat_map line xs) ≡ true
quiet_flat line h [] = refl
quiet_flat line h (a ∷ xs) = quiet_both (line a) (flat_map line xs) (h a) (quiet_flat line h xs)

quiet_section : {A : Type 0} (head : Spelled) (line : A → List Spelled) → is_quiet (seen head) ≡ true → ((a : A) → quiet (line a) ≡ true) → (xs : List A) → quiet (section_words head line xs) ≡ true
quiet_section head line e h [] = refl
quiet_section head line e h (a ∷ xs) = both e (quiet_flat line h (a ∷ xs))

quiet_annexes : (ts : List Token) (clauses : List Clause) → quiet (annex_words ts clauses) ≡ true
unfolding same known_symbols reserved_words
quiet_annexes [] clauses = refl
quiet_annexes (t ∷ ts) clauses = refl

quiet_item : (i : Item) (clauses : List Clause) → quiet (words_of_item i clauses) ≡ true
unfolding same known_symbols reserved_words
quiet_item (item.Frame f) clauses =
    quiet_both (features f) (frame_tail f clauses) (quiet_section (name_at features_mark (codes "features")) port_line refl quiet_port f.ports)
    (quiet_both (annex_words f.annexes clauses) (frame_end f) (quiet_annexes f.annexes clauses) refl)
quiet_item (item.Body b) clauses =
    quiet_both (subcomponents b) (connections b ++ body_rest b clauses) (quiet_section (name_at subcomponents_mark (codes "subcomponents")) sub_line refl quiet_sub b.subs)
    (quiet_both (connections b) (body_rest b clauses) (quiet_section (name_at connections_mark (codes "connections")) wire_line refl quiet_wire b.wires)
    (quiet_both (annex_words b.annexes clauses) (body_end b) (quiet_annexes b.annexes clauses) refl))
quiet_item (item.Library t) clauses = refl

quiet_import : (i : Ident) → quiet (import_line i) ≡ true
unfolding same known_symbols
quiet_import i = quiet_both (pname_words i) semicolon (quiet_parts (name_parts i.text)) refl

quiet_head : (q : Package) → quiet (head_words q) ≡ true
unfolding same reserved_words
quiet_head q = quiet_both (pname_words q.name) (word (codes "public") ∷ []) (quiet_parts (name_parts q.name.text)) refl

quiet_close : (q : Package) → quiet (close_words q) ≡ true
quiet_close q = quiet_both (pname_words q.name) (sign_at close_mark (codes ";") ∷ []) (quiet_parts (name_parts q.name.text)) refl

quiet_package : (q : Told_package) → quiet (package_words q) ≡ true
quiet_package q =
    let p = q.0 in
    let imports = flat_map import_line p.imports in
    let items = flat_map item_words (items_of q) in
    quiet_both (head_words p) (imports ++ (items ++ close_words p)) (quiet_head p)
    (quiet_both imports (items ++ close_words p) (quiet_flat import_line quiet_import p.imports)
    (quiet_both items (close_words p) (quiet_flat item_words (λ (x : Told_item). quiet_item x.0 x.1) (items_of q)) (quiet_close p)))

pub timing_kept : (qs : List Told_package) → list_all is_quiet (map seen (flat_map package_words qs)) ≡ true
timing_kept qs = list_all-map is_quiet seen (flat_map package_words qs) ∙ quiet_flat package_words quiet_package qs
