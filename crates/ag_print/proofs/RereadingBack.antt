-- The words of canonical lines declare the packages that they are made of.
use Rattle.std.proofs.Common.{◌≡◌, ℕ, Bool, true, false, not, cond, List, [], ◌∷◌, ◌++◌, map, refl, sym, ap, ◌∙◌}
use Rattle.std.specs.Prelude.{◌==◌, Option, Some, None, codes}
use Rattle.std.specs.List.{filter, filter_map, flat_map, list_all}
use Rattle.std.proofs.lemmas.Bool.{and_parts}
use Rattle.std.proofs.lemmas.List.{append-nil, map-append}
use Rattle.ag_terms.specs.declared.names.Path.{Path}
use Rattle.ag_aadl.specs.declared.packages.Category.{Category}
use Rattle.ag_aadl.specs.declared.packages.Category.TheVariants.{System, Process, Thread, Device, Abstract}
use Rattle.ag_terms.specs.declared.names.Ident.{Ident}
use Rattle.ag_aadl.specs.declared.packages.PortKind.{PortKind}
use Rattle.ag_aadl.specs.declared.packages.PortKind.TheVariants as port_kind
use Rattle.ag_aadl.specs.declared.packages.Port.{Port}
use Rattle.ag_aadl.specs.declared.packages.Frame.{Frame}
use Rattle.ag_aadl.specs.declared.packages.Sub.{Sub}
use Rattle.ag_aadl.specs.declared.packages.End.{End}
use Rattle.ag_aadl.specs.declared.packages.Wire.{Wire}
use Rattle.ag_aadl.specs.declared.packages.Body.{Body}
use Rattle.ag_aadl.specs.declared.packages.Item.{Item}
use Rattle.ag_aadl.specs.declared.packages.Item.TheVariants as item
use Rattle.ag_aadl.specs.declared.packages.Package.{Package}
use Rattle.ag_aadl.specs.Marks.{package_mark, part_mark, join_mark, import_mark, item_mark, owner_mark, declared_mark, feature_mark, direction_mark, event_mark, data_mark, class_body_mark, sub_mark, kind_mark, connection_mark, spot_mark, spot_port_mark, annex_name_mark, annex_text_mark, end_mark, end_owner_mark, end_name_mark, close_mark, features_mark, subcomponents_mark, connections_mark}
use Rattle.ag_aadl.specs.Meaning.{kind_of}
use Rattle.ag_aadl.specs.Words.{reserved_words}
use Rattle.ag_terms.specs.Names.{same}
use Rattle.ag_aadl.specs.Names.{name_parts}
use Rattle.ag_print.specs.Canonical.{Spelled, name_at, word, pname_words, class_words, category_word, semicolon, port_line, sub_line, wire_line, annex_line, first_list, other_lists, import_line}
use Rattle.ag_terms.specs.declared.clauses.Clause.{Clause}
use Rattle.ag_print.specs.Annexes.{Stated}
use Rattle.ag_unparse.specs.Same.{bare_ident}
use Rattle.ag_print.specs.Same.{bare_class, bare_port, bare_frame, bare_sub, bare_wire, bare_body, bare_item, bare_package}
use Rattle.ag_print.proofs.RereadingSeen.{Seen, texts, has, until, pieces, named, join, class_in, category_in, outward_in, port_in, listed_in, sub_in, wire_in, frame_in, body_in, item_in, begins, package_name_in, parts_in, package_of_parts, package_in, packages_in, two, three, four}
use Rattle.ag_print.proofs.RereadingPieces.{among, within, free, all_both, seen_passes, texts_lacking, has_lacking, outward_lacking, pieces_free, until_within, BeginsAlone, piece_of, flat_pieces, listed_back}
use Rattle.ag_print.proofs.RereadingLines.{seen, behind_first, section_words, paired, frame_tail, features, frame_words, subcomponents, connections, body_rest, implementation_words, words_of_item, item_words, items_of, head_words, close_words, package_words, map_flat, marks_within, seen_within, seen_all, wider, join_marks, name_set, class_set, port_set, sub_set, wire_set, wires_set, subs_set, ports_set, end_set, inner_set, package_set, class_marks, port_marks, sub_marks, wire_marks, connections_marks, subcomponents_marks, features_marks, frame_tail_marks, body_rest_marks, item_marks, import_marks, head_marks, close_marks, package_marks}
use Rattle.ag_print.proofs.RereadingNames.{join_parts, texts_parts, texts_before, class_back}

-- ---- ports

-- what stands behind the lines of a section: the other section, and the end
abbrev tail_set : List ℕ
tail_set = annex_name_mark ∷ annex_text_mark ∷ end_owner_mark ∷ end_name_mark ∷ wires_set

-- a classifier, and what stands behind it
abbrev class_tail : Option Path → List Seen → List Seen
class_tail c t = map seen (class_words c ++ semicolon) ++ t

abbrev class_tail_set : List ℕ
class_tail_set = class_body_mark ∷ part_mark ∷ join_mark ∷ tail_set

class_tail_within : (c : Option Path) (t : List Seen) → within tail_set t ≡ true → within class_tail_set (class_tail c t) ≡ true
class_tail_within c t w =
    all_both (λ (s : Seen). among class_tail_set s.mark) (map seen (class_words c ++ semicolon)) t
    (seen_all class_set (among class_tail_set) (class_words c ++ semicolon) refl (class_marks c)) (seen_passes tail_set (among class_tail_set) t refl w)

abbrev port_words : Ident → Bool → PortKind → Option Path → List Spelled
port_words n o k c = port_line (record { name = n; outward = o; kind = k; carries = c })

outward_back : (n : Ident) (o : Bool) (k : PortKind) (c : Option Path) (t : List Seen) → outward_in (class_tail c t) ≡ false → outward_in (map seen (port_words n o k c) ++ t) ≡ o
unfolding reserved_words same
outward_back n true k c t e = refl
outward_back n false port_kind.Plain c t e = e
outward_back n false port_kind.EventPlain c t e = e
outward_back n false port_kind.Event c t e = e

kind_back : (n : Ident) (o : Bool) (k : PortKind) (c : Option Path) (t : List Seen) → has event_mark (class_tail c t) ≡ false → has data_mark (class_tail c t) ≡ false
    → kind_of (has event_mark (map seen (port_words n o k c) ++ t)) (has data_mark (map seen (port_words n o k c) ++ t)) ≡ k
kind_back n o port_kind.Plain c t e d = ap (λ (z : Bool). kind_of z true) e
kind_back n o port_kind.EventPlain c t e d = refl
kind_back n o port_kind.Event c t e d = ap (λ (z : Bool). kind_of true z) d

carries_back : (n : Ident) (o : Bool) (k : PortKind) (c : Option Path) (t : List Seen) → class_in (map seen (port_words n o k c) ++ t) ≡ class_in (class_tail c t)
carries_back n o port_kind.Plain c t = refl
carries_back n o port_kind.EventPlain c t = refl
carries_back n o port_kind.Event c t = refl

class_behind : (c : Option Path) (t : List Seen) → within tail_set t ≡ true → class_in (class_tail c t) ≡ bare_class c
class_behind c t w =
    class_back c t (texts_lacking part_mark t (seen_passes tail_set (λ (k : ℕ). not (k == part_mark)) t refl w))
    (texts_lacking class_body_mark t (seen_passes tail_set (λ (k : ℕ). not (k == class_body_mark)) t refl w))

port_back : (p : Port) (t : List Seen) → within tail_set t ≡ true → port_in (map seen (port_line p) ++ t) ≡ bare_port p
port_back p t w =
    let behind = class_tail_within p.carries t w in
    let tail = class_tail p.carries t in
    four (λ n o k c. record { name = n; outward = o; kind = k; carries = c }) refl
    (outward_back p.name p.outward p.kind p.carries t (outward_lacking tail (seen_passes class_tail_set (λ (k : ℕ). not (k == direction_mark)) tail refl behind)))
    (kind_back p.name p.outward p.kind p.carries t (has_lacking event_mark tail (seen_passes class_tail_set (λ (k : ℕ). not (k == event_mark)) tail refl behind))
    (has_lacking data_mark tail (seen_passes class_tail_set (λ (k : ℕ). not (k == data_mark)) tail refl behind)))
    (carries_back p.name p.outward p.kind p.carries t ∙ class_behind p.carries t w)

port_alone : (p : Port) → BeginsAlone (feature_mark ∷ []) (map seen (port_line p))
port_alone p = record {
  head = seen (name_at feature_mark p.name.text);
  rest = map seen (behind_first (port_line p));
  whole = refl;
  first = refl;
  others = seen_all port_set (λ (k : ℕ). not (among (feature_mark ∷ []) k)) (behind_first (port_line p)) refl (port_marks p);
}

-- ---- subcomponents

sub_category : (s : Ident) (c : Category) (o : Option Path) (t : List Seen) → category_in kind_mark (map seen (sub_line (record { name = s; category = c; of = o })) ++ t) ≡ c
unfolding reserved_words same
sub_category s System o t = refl
sub_category s Process o t = refl
sub_category s Thread o t = refl
sub_category s Device o t = refl
sub_category s Abstract o t = refl

sub_back : (s : Sub) (t : List Seen) → within tail_set t ≡ true → sub_in (map seen (sub_line s) ++ t) ≡ bare_sub s
sub_back s t w = three (λ n c o. record { name = n; category = c; of = o }) refl (sub_category s.name s.category s.of t) (class_behind s.of t w)

sub_alone : (s : Sub) → BeginsAlone (sub_mark ∷ []) (map seen (sub_line s))
sub_alone s = record {
  head = seen (name_at sub_mark s.name.text);
  rest = map seen (behind_first (sub_line s));
  whole = refl;
  first = refl;
  others = seen_all sub_set (λ (k : ℕ). not (among (sub_mark ∷ []) k)) (behind_first (sub_line s)) refl (sub_marks s);
}

-- ---- connections

abbrev ends : Option Ident → Ident → End
ends s p = record { sub = s; port = p }

wire_words_back : (n : Ident) (f : Option Ident) (fp : Ident) (g : Option Ident) (gp : Ident) (t : List Seen) → has spot_port_mark (until (spot_mark ∷ []) t) ≡ false
    → wire_in (map seen (wire_line (record { name = n; from = ends f fp; to = ends g gp })) ++ t) ≡ bare_wire (record { name = n; from = ends f fp; to = ends g gp })
wire_words_back n None fp None gp t e = rw e
wire_words_back n (Some f) fp None gp t e = rw e
wire_words_back n None fp (Some g) gp t e = refl
wire_words_back n (Some f) fp (Some g) gp t e = refl

wire_back : (w : Wire) (t : List Seen) → within end_set t ≡ true → wire_in (map seen (wire_line w) ++ t) ≡ bare_wire w
wire_back w t h =
    let behind = until_within (spot_mark ∷ []) end_set t h in
    wire_words_back w.name w.from.sub w.from.port w.to.sub w.to.port t
    (has_lacking spot_port_mark (until (spot_mark ∷ []) t) (seen_passes end_set (λ (k : ℕ). not (k == spot_port_mark)) (until (spot_mark ∷ []) t) refl behind))

wire_found : (w : Wire) (t : List Seen) → has spot_mark (map seen (wire_line w) ++ t) ≡ true
wire_found w t = step w.from.sub w.from.port
  where
    step : (s : Option Ident) (p : Ident) → has spot_mark (map seen (wire_line (record { name = w.name; from = ends s p; to = w.to })) ++ t) ≡ true
    step None p = refl
    step (Some s) p = refl

wire_alone : (w : Wire) → BeginsAlone (connection_mark ∷ []) (map seen (wire_line w))
wire_alone w = record {
  head = seen (name_at connection_mark w.name.text);
  rest = map seen (behind_first (wire_line w));
  whole = refl;
  first = refl;
  others = seen_all wire_set (λ (k : ℕ). not (among (connection_mark ∷ []) k)) (behind_first (wire_line w)) refl (wire_marks w);
}

-- ---- sections

section_back : {A B : Type 0} (ks : List ℕ) (k : ℕ) (allowed : List ℕ) (head : Spelled) (line : A → List Spelled) (read : List Seen → B) (bare : A → B)
    → among ks head.mark ≡ false
    → ((x : A) → BeginsAlone ks (map seen (line x)))
    → ((x : A) (t : List Seen) → has k (map seen (line x) ++ t) ≡ true)
    → ((x : A) (t : List Seen) → within allowed t ≡ true → read (map seen (line x) ++ t) ≡ bare x)
    → (tail : List Seen) → pieces ks tail ≡ [] → within allowed (until ks tail) ≡ true
    → (xs : List A) → listed_in ks k read (map seen (section_words head line xs) ++ tail) ≡ map bare xs
section_back ks k allowed head line read bare out alone found reads tail none w [] = ap (λ (z : List (List Seen)). map read (filter (has k) z)) none
section_back {A = A} ks k allowed head line read bare out alone found reads tail none w (x ∷ xs) =
    let lines = map seen (flat_map line (x ∷ xs)) ++ tail in
    ap (λ (c : Bool). map read (filter (has k) (cond c ((seen head ∷ until ks lines) ∷ pieces ks lines) (pieces ks lines)))) out
    ∙ ap (λ (z : List Seen). listed_in ks k read (z ++ tail)) (map_flat line (x ∷ xs))
    ∙ listed_back ks k allowed (λ (y : A). map seen (line y)) read bare alone found reads tail none w (x ∷ xs)

pieces_none : (ks : List ℕ) (ss : List Seen) → free ks ss ≡ true → pieces ks ss ≡ []
pieces_none ks ss h = ap (pieces ks) (sym (append-nil ss)) ∙ pieces_free ks ss [] h

-- ---- declarations

item_category : (c : Category) (ss : List Spelled) → category_in item_mark (map seen (name_at item_mark (category_word c) ∷ ss)) ≡ c
unfolding reserved_words same
item_category System ss = refl
item_category Process ss = refl
item_category Thread ss = refl
item_category Device ss = refl
item_category Abstract ss = refl

frame_back : (f : Frame) (clauses : List Clause) → frame_in (map seen (frame_words f clauses)) ≡ bare_frame f
frame_back f clauses =
    let ks = feature_mark ∷ [] in
    let tail = map seen (frame_tail f clauses) in
    three (λ c n p. record { category = c; name = n; ports = p; annexes = [] }) (item_category f.category (behind_first (frame_words f clauses))) refl
    (ap (listed_in ks direction_mark port_in) (map-append seen (features f) (frame_tail f clauses))
    ∙ section_back ks direction_mark tail_set (name_at features_mark (codes "features")) port_line port_in bare_port refl port_alone (λ (p : Port) (t : List Seen). refl) port_back tail
    (pieces_none ks tail (seen_all end_set (λ (k : ℕ). not (among ks k)) (frame_tail f clauses) refl (frame_tail_marks f clauses)))
    (until_within ks tail_set tail (seen_within tail_set (frame_tail f clauses) (wider end_set tail_set (frame_tail f clauses) refl (frame_tail_marks f clauses)))) f.ports)

abbrev body_tail : Body → List Clause → List Spelled
body_tail b clauses = connections b ++ body_rest b clauses

body_tail_marks : (b : Body) (clauses : List Clause) → marks_within tail_set (body_tail b clauses) ≡ true
body_tail_marks b clauses =
    join_marks tail_set (connections b) (body_rest b clauses) (wider wires_set tail_set (connections b) refl (connections_marks b)) (wider end_set tail_set (body_rest b clauses) refl (body_rest_marks b clauses))

subs_back : (b : Body) (clauses : List Clause) → listed_in (sub_mark ∷ []) kind_mark sub_in (map seen (implementation_words b clauses)) ≡ map bare_sub b.subs
subs_back b clauses =
    let tail = map seen (body_tail b clauses) in
    ap (listed_in (sub_mark ∷ []) kind_mark sub_in) (map-append seen (subcomponents b) (body_tail b clauses))
    ∙ section_back (sub_mark ∷ []) kind_mark tail_set (name_at subcomponents_mark (codes "subcomponents")) sub_line sub_in bare_sub refl sub_alone (λ (s : Sub) (t : List Seen). refl) sub_back tail
    (pieces_none (sub_mark ∷ []) tail (seen_all tail_set (λ (k : ℕ). not (among (sub_mark ∷ []) k)) (body_tail b clauses) refl (body_tail_marks b clauses)))
    (until_within (sub_mark ∷ []) tail_set tail (seen_within tail_set (body_tail b clauses) (body_tail_marks b clauses))) b.subs

wires_back : (b : Body) (clauses : List Clause) → listed_in (connection_mark ∷ []) spot_mark wire_in (map seen (implementation_words b clauses)) ≡ map bare_wire b.wires
wires_back b clauses =
    let ks = connection_mark ∷ [] in
    let subs = map seen (subcomponents b) in
    let tail = map seen (body_rest b clauses) in
    ap (listed_in ks spot_mark wire_in) (map-append seen (subcomponents b) (body_tail b clauses))
    ∙ ap (λ (z : List (List Seen)). map wire_in (filter (has spot_mark) z))
    (pieces_free ks subs (map seen (body_tail b clauses)) (seen_all subs_set (λ (k : ℕ). not (among ks k)) (subcomponents b) refl (subcomponents_marks b)))
    ∙ ap (listed_in ks spot_mark wire_in) (map-append seen (connections b) (body_rest b clauses))
    ∙ section_back ks spot_mark end_set (name_at connections_mark (codes "connections")) wire_line wire_in bare_wire refl wire_alone wire_found wire_back tail
    (pieces_none ks tail (seen_all end_set (λ (k : ℕ). not (among ks k)) (body_rest b clauses) refl (body_rest_marks b clauses)))
    (until_within ks end_set tail (seen_within end_set (body_rest b clauses) (body_rest_marks b clauses))) b.wires

body_back : (b : Body) (clauses : List Clause) → body_in (map seen (implementation_words b clauses)) ≡ bare_body b
body_back b clauses =
    three (λ c s w. record { category = c; frame = bare_ident b.frame; name = bare_ident b.name; subs = s; wires = w; annexes = [] })
    (item_category b.category (behind_first (implementation_words b clauses))) (subs_back b clauses) (wires_back b clauses)

abbrev pub frame_set : List ℕ
frame_set = item_mark ∷ declared_mark ∷ annex_name_mark ∷ annex_text_mark ∷ end_owner_mark ∷ end_name_mark ∷ ports_set

pub frame_marks : (f : Frame) (clauses : List Clause) → marks_within frame_set (frame_words f clauses) ≡ true
frame_marks f clauses =
    join_marks frame_set (features f) (frame_tail f clauses) (wider ports_set frame_set (features f) refl (features_marks f)) (wider end_set frame_set (frame_tail f clauses) refl (frame_tail_marks f clauses))

item_back : (i : Item) (clauses : List Clause) → item_in (map seen (words_of_item i clauses)) ≡ Some (bare_item i)
unfolding same
item_back (item.Frame f) clauses =
    let ws = frame_words f clauses in
    let no_owner = has_lacking owner_mark (map seen ws) (seen_all frame_set (λ (k : ℕ). not (k == owner_mark)) ws refl (frame_marks f clauses)) in
    ap (λ (c : Bool). cond c (Some (item.Body (body_in (map seen ws)))) (Some (item.Frame (frame_in (map seen ws))))) no_owner
    ∙ ap (λ (z : Frame). Some (item.Frame z)) (frame_back f clauses)
item_back (item.Body b) clauses = ap (λ (z : Body). Some (item.Body z)) (body_back b clauses)
item_back (item.Library t) clauses = refl

-- ---- packages

abbrev part_marks : List ℕ
part_marks = package_mark ∷ import_mark ∷ item_mark ∷ end_mark ∷ []

abbrev everything : {A : Type 0} → A → Bool
everything x = true

all_everything : {A : Type 0} (xs : List A) → list_all everything xs ≡ true
all_everything [] = refl
all_everything (x ∷ xs) = all_everything xs

head_alone : (p : Package) → BeginsAlone part_marks (map seen (head_words p))
head_alone p = record {
  head = seen (name_at package_mark (codes "package"));
  rest = map seen (behind_first (head_words p));
  whole = refl;
  first = refl;
  others = seen_all class_set (λ (k : ℕ). not (among part_marks k)) (behind_first (head_words p)) refl (head_marks p);
}

import_alone : (i : Ident) → everything i ≡ true → BeginsAlone part_marks (map seen (import_line i))
import_alone i h = record {
  head = seen (name_at import_mark (codes "with"));
  rest = map seen (behind_first (import_line i));
  whole = refl;
  first = refl;
  others = seen_all class_set (λ (k : ℕ). not (among part_marks k)) (behind_first (import_line i)) refl (import_marks i);
}

item_alone : (i : Item) (clauses : List Clause) → BeginsAlone part_marks (map seen (words_of_item i clauses))
item_alone (item.Frame f) clauses = record {
  head = seen (name_at item_mark (category_word f.category));
  rest = map seen (behind_first (frame_words f clauses));
  whole = refl;
  first = refl;
  others = seen_all inner_set (λ (k : ℕ). not (among part_marks k)) (behind_first (frame_words f clauses)) refl (item_marks (item.Frame f) clauses);
}
item_alone (item.Body b) clauses = record {
  head = seen (name_at item_mark (category_word b.category));
  rest = map seen (behind_first (implementation_words b clauses));
  whole = refl;
  first = refl;
  others = seen_all inner_set (λ (k : ℕ). not (among part_marks k)) (behind_first (implementation_words b clauses)) refl (item_marks (item.Body b) clauses);
}
item_alone (item.Library t) clauses = record {
  head = seen (name_at item_mark (codes "annex"));
  rest = map seen (behind_first (annex_line item_mark clauses));
  whole = refl;
  first = refl;
  others = refl;
}

close_alone : (p : Package) → BeginsAlone part_marks (map seen (close_words p))
close_alone p = record {
  head = seen (name_at end_mark (codes "end"));
  rest = map seen (behind_first (close_words p));
  whole = refl;
  first = refl;
  others = seen_all (close_mark ∷ name_set) (λ (k : ℕ). not (among part_marks k)) (behind_first (close_words p)) refl (close_marks p);
}

abbrev seen_imports : Package → List (List Seen)
seen_imports p = map (λ i. map seen (import_line i)) p.imports

abbrev pub Told_package : Type 0
Told_package = Package × List (List Clause)

abbrev pub Told_item : Type 0
Told_item = Item × List Clause

abbrev pub seen_items : Told_package → List (List Seen)
seen_items q = map (λ x. map seen (item_words x)) (items_of q)

abbrev seen_parts : Told_package → List (List Seen)
seen_parts q = map seen (head_words q.0) ∷ (seen_imports q.0 ++ (seen_items q ++ map seen (close_words q.0) ∷ []))

split_package : (q : Told_package)
    → map seen (package_words q) ≡ map seen (head_words q.0) ++ (flat_map (λ i. map seen (import_line i)) q.0.imports ++ (flat_map (λ x. map seen (item_words x)) (items_of q) ++ map seen (close_words q.0)))
split_package q =
    let imports = flat_map import_line q.0.imports in
    let items = flat_map item_words (items_of q) in
    map-append seen (head_words q.0) (imports ++ (items ++ close_words q.0))
    ∙ ap (λ (z : List Seen). map seen (head_words q.0) ++ z)
    (map-append seen imports (items ++ close_words q.0)
    ∙ two (λ (y z : List Seen). y ++ z) (map_flat import_line q.0.imports)
    (map-append seen items (close_words q.0) ∙ ap (λ (z : List Seen). z ++ map seen (close_words q.0)) (map_flat item_words (items_of q))))

parts_back : (q : Told_package) → parts_in (map seen (package_words q)) ≡ seen_parts q
parts_back q =
    let p = q.0 in
    let close = map seen (close_words p) in
    let items = flat_map (λ (x : Told_item). map seen (item_words x)) (items_of q) ++ close in
    let rest = flat_map (λ (i : Ident). map seen (import_line i)) p.imports ++ items in
    let of_close : pieces part_marks close ≡ close ∷ [] =
    ap (pieces part_marks) (sym (append-nil close)) ∙ piece_of part_marks close [] (close_alone p) ∙ ap (λ (z : List Seen). z ∷ []) (append-nil close) in
    let of_items = flat_pieces part_marks everything (λ (x : Told_item). map seen (item_words x)) (λ (x : Told_item) (h : true ≡ true). item_alone x.0 x.1) close refl (items_of q) (all_everything (items_of q)) in
    let of_imports = flat_pieces part_marks everything (λ (i : Ident). map seen (import_line i)) import_alone items of_items.1 p.imports (all_everything p.imports) in
    ap parts_in (split_package q)
    ∙ piece_of part_marks (map seen (head_words p)) rest (head_alone p)
    ∙ two (λ (z : List Seen) (zs : List (List Seen)). z ∷ zs) (ap (λ (z : List Seen). map seen (head_words p) ++ z) of_imports.1 ∙ append-nil (map seen (head_words p)))
    (of_imports.0 ∙ ap (λ (z : List (List Seen)). seen_imports p ++ z) (of_items.0 ∙ ap (λ (z : List (List Seen)). seen_items q ++ z) of_close))

filter-append : {A : Type 0} (p : A → Bool) (a b : List A) → filter p (a ++ b) ≡ filter p a ++ filter p b
filter-append p [] b = refl
filter-append p (x ∷ a) b = step (p x) (filter-append p a b)
  where
    step : (c : Bool) → filter p (a ++ b) ≡ filter p a ++ filter p b → cond c (x ∷ filter p (a ++ b)) (filter p (a ++ b)) ≡ cond c (x ∷ filter p a) (filter p a) ++ filter p b
    step true e = ap (λ z. x ∷ z) e
    step false e = e

filter_all : {A B : Type 0} (p : B → Bool) (f : A → B) (ok : A → Bool) → ((x : A) → ok x ≡ true → p (f x) ≡ true) → (xs : List A) → list_all ok xs ≡ true → filter p (map f xs) ≡ map f xs
filter_all p f ok e [] h = refl
filter_all p f ok e (x ∷ xs) h =
    let parts = and_parts (ok x) (list_all ok xs) h in
    rw (e x parts.0) (ap (λ z. f x ∷ z) (filter_all p f ok e xs parts.1))

filter_none : {A B : Type 0} (p : B → Bool) (f : A → B) → ((x : A) → p (f x) ≡ false) → (xs : List A) → filter p (map f xs) ≡ []
filter_none p f e [] = refl
filter_none p f e (x ∷ xs) = rw (e x) (filter_none p f e xs)

begins_item : (i : Item) (clauses : List Clause) → begins item_mark (map seen (words_of_item i clauses)) ≡ true
begins_item (item.Frame f) clauses = refl
begins_item (item.Body b) clauses = refl
begins_item (item.Library t) clauses = refl

no_import : (i : Item) (clauses : List Clause) → begins import_mark (map seen (words_of_item i clauses)) ≡ false
no_import (item.Frame f) clauses = refl
no_import (item.Body b) clauses = refl
no_import (item.Library t) clauses = refl

imports_found : (q : Told_package) → filter (begins import_mark) (seen_parts q) ≡ seen_imports q.0
imports_found q =
    let p = q.0 in
    filter-append (begins import_mark) (seen_imports p) (seen_items q ++ map seen (close_words p) ∷ [])
    ∙ two (λ (y z : List (List Seen)). y ++ z)
    (filter_all (begins import_mark) (λ (i : Ident). map seen (import_line i)) everything (λ (i : Ident) (h : true ≡ true). refl) p.imports (all_everything p.imports))
    (filter-append (begins import_mark) (seen_items q) (map seen (close_words p) ∷ [])
    ∙ ap (λ (z : List (List Seen)). z ++ []) (filter_none (begins import_mark) (λ (x : Told_item). map seen (item_words x)) (λ (x : Told_item). no_import x.0 x.1) (items_of q)))
    ∙ append-nil (seen_imports p)

items_found : (q : Told_package) → filter (begins item_mark) (seen_parts q) ≡ seen_items q
items_found q =
    let p = q.0 in
    filter-append (begins item_mark) (seen_imports p) (seen_items q ++ map seen (close_words p) ∷ [])
    ∙ two (λ (y z : List (List Seen)). y ++ z)
    (filter_none (begins item_mark) (λ (i : Ident). map seen (import_line i)) (λ (i : Ident). refl) p.imports)
    (filter-append (begins item_mark) (seen_items q) (map seen (close_words p) ∷ [])
    ∙ ap (λ (z : List (List Seen)). z ++ [])
    (filter_all (begins item_mark) (λ (x : Told_item). map seen (item_words x)) everything (λ (x : Told_item) (h : true ≡ true). begins_item x.0 x.1) (items_of q) (all_everything (items_of q)))
    ∙ append-nil (seen_items q))

-- the pieces that declarations begin
pub items_pieces : (q : Told_package) → filter (begins item_mark) (parts_in (map seen (package_words q))) ≡ seen_items q
items_pieces q = ap (filter (begins item_mark)) (parts_back q) ∙ items_found q

items_back : (xs : List Item) (stated : List (List Clause)) → filter_map item_in (map (λ x. map seen (item_words x)) (paired xs stated)) ≡ map bare_item xs
items_back [] stated = refl
items_back (i ∷ xs) stated = rw (item_back i (first_list stated)) (ap (λ (z : List Item). bare_item i ∷ z) (items_back xs (other_lists stated)))

-- a package's name, with words behind it that have no parts of names
name_back : (i : Ident) (ws : List Spelled) → texts part_mark (map seen ws) ≡ [] → named (join (texts part_mark (map seen (pname_words i ++ ws)))) ≡ bare_ident i
name_back i ws none = ap (λ (z : List (List ℕ)). named (join z)) (texts_before part_mark (pname_words i) ws none ∙ texts_parts (name_parts i.text)) ∙ ap named (join_parts i.text)

imports_back : (xs : List Ident) → map package_name_in (map (λ i. map seen (import_line i)) xs) ≡ map bare_ident xs
imports_back [] = refl
imports_back (i ∷ xs) = two (λ (z : Ident) (zs : List Ident). z ∷ zs) (name_back i semicolon refl) (imports_back xs)

package_back : (q : Told_package) → package_in (map seen (package_words q)) ≡ bare_package q.0
package_back q =
    ap package_of_parts (parts_back q)
    ∙ three (λ (n : Ident) (is : List Ident) (its : List Item). record { name = n; imports = is; items = its })
    (name_back q.0.name (word (codes "public") ∷ []) refl)
    (ap (map package_name_in) (imports_found q) ∙ imports_back q.0.imports)
    (ap (filter_map item_in) (items_found q) ∙ items_back q.0.items q.1)

package_alone : (q : Told_package) → everything q ≡ true → BeginsAlone (package_mark ∷ []) (map seen (package_words q))
package_alone q h = record {
  head = seen (name_at package_mark (codes "package"));
  rest = map seen (behind_first (package_words q));
  whole = refl;
  first = refl;
  others = seen_all package_set (λ (k : ℕ). not (among (package_mark ∷ []) k)) (behind_first (package_words q)) refl (package_marks q);
}

all_back : (ps : List Package) (stated : Stated) → map package_in (map (λ q. map seen (package_words q)) (paired ps stated)) ≡ map bare_package ps
all_back [] stated = refl
all_back (p ∷ ps) stated = two (λ (z : Package) (zs : List Package). z ∷ zs) (package_back (p, first_list stated)) (all_back ps (other_lists stated))

-- the pieces that packages begin
pub packages_pieces : (qs : List Told_package) → pieces (package_mark ∷ []) (map seen (flat_map package_words qs)) ≡ map (λ q. map seen (package_words q)) qs
packages_pieces qs =
    let line = λ (q : Told_package). map seen (package_words q) in
    let found = flat_pieces (package_mark ∷ []) everything line package_alone [] refl qs (all_everything qs) in
    ap (pieces (package_mark ∷ [])) (map_flat package_words qs ∙ sym (append-nil (flat_map line qs))) ∙ found.0 ∙ append-nil (map line qs)

-- the words of packages declare them, but for places and annexes
pub packages_back : (ps : List Package) (stated : Stated) → packages_in (map seen (flat_map package_words (paired ps stated))) ≡ map bare_package ps
packages_back ps stated = ap (map package_in) (packages_pieces (paired ps stated)) ∙ all_back ps stated
