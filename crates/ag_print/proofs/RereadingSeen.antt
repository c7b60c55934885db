-- What marked tokens say without their places.
use Rattle.std.proofs.Common.{◌≡◌, ℕ, Bool, true, false, cond, ◌&&◌, ◌||◌, List, [], ◌∷◌, ◌++◌, length, take, map, refl, ap, ◌∙◌}
use Rattle.std.specs.Prelude.{suc, zero, ◌==◌, Option, Some, None, codes, slice_index_or, if◌then◌else◌}
use Rattle.std.specs.List.{filter, filter_map, list_any, cons_option}
use Rattle.ag_lex.specs.declared.token.Token.{Token}
use Rattle.ag_aadl.specs.declared.marked.Marked.{Marked}
use Rattle.ag_terms.specs.declared.names.Ident.{Ident}
use Rattle.ag_terms.specs.declared.names.Path.{Path}
use Rattle.ag_aadl.specs.declared.packages.Category.{Category}
use Rattle.ag_aadl.specs.declared.packages.Category.TheVariants.{System}
use Rattle.ag_aadl.specs.declared.packages.Port.{Port}
use Rattle.ag_aadl.specs.declared.packages.Frame.{Frame}
use Rattle.ag_aadl.specs.declared.packages.Sub.{Sub}
use Rattle.ag_aadl.specs.declared.packages.End.{End}
use Rattle.ag_aadl.specs.declared.packages.Wire.{Wire}
use Rattle.ag_aadl.specs.declared.packages.Body.{Body}
use Rattle.ag_aadl.specs.declared.packages.Item.{Item}
use Rattle.ag_aadl.specs.declared.packages.Item.TheVariants as item
use Rattle.ag_aadl.specs.declared.packages.Package.{Package}
use Rattle.ag_aadl.specs.Marked.{own, under, has_mark, first_of, up_to, segments}
use Rattle.ag_aadl.specs.Marks.{package_mark, part_mark, import_mark, item_mark, owner_mark, declared_mark, feature_mark, direction_mark, event_mark, data_mark, class_body_mark, sub_mark, kind_mark, connection_mark, spot_mark, spot_port_mark, annex_name_mark, end_mark}
use Rattle.ag_aadl.specs.Meaning.{ident_under, joined, some_ident, path_of, class_of, category_of, category_under, kind_of, port_of, sub_of, end_of, part_at, wire_of, is_agree, frame_of, body_of, item_of, begins_with, parts_of_package, name_of, imports_in, items_in, package_of, packages_of}
use Rattle.ag_aadl.specs.Terminals.{out_word}
use Rattle.ag_terms.specs.Names.{same}
use Rattle.ag_unparse.specs.Same.{nowhere, bare_ident, bare_option}
use Rattle.ag_print.specs.Same.{no_token, bare_class, bare_port, bare_frame, bare_sub, bare_end, bare_wire, bare_body, bare_item, bare_package}

-- a token's mark, its terminal and its bytes
pub record Seen : Type 0 where
  pub mark : ℕ
  pub terminal : ℕ
  pub text : List ℕ

abbrev pub seen_of : List ℕ → Marked → Seen
seen_of bytes m = record { mark = m.mark; terminal = m.terminal; text = own bytes m.token }

-- ---- what they declare

abbrev pub texts : ℕ → List Seen → List (List ℕ)
texts k [] = []
texts k (s ∷ ss) = if s.mark == k then s.text ∷ texts k ss else texts k ss

abbrev pub has : ℕ → List Seen → Bool
has k ss = list_any (λ s. s.mark == k) ss

abbrev pub first_text : List (List ℕ) → List ℕ
first_text [] = []
first_text (t ∷ ts) = t

abbrev pub until : List ℕ → List Seen → List Seen
until ks [] = []
until ks (s ∷ ss) = if list_any (λ k. k == s.mark) ks then [] else s ∷ until ks ss

abbrev pub pieces : List ℕ → List Seen → List (List Seen)
pieces ks [] = []
pieces ks (s ∷ ss) = if list_any (λ k. k == s.mark) ks then (s ∷ until ks ss) ∷ pieces ks ss else pieces ks ss

abbrev pub named : List ℕ → Ident
named text = record { text = text; place = nowhere }

abbrev pub name_in : ℕ → List Seen → Ident
name_in k ss = named (first_text (texts k ss))

abbrev pub join : List (List ℕ) → List ℕ
join [] = []
join (t ∷ []) = t
join (t ∷ u ∷ ts) = t ++ (codes "::" ++ join (u ∷ ts))

abbrev pub some_name : List (List ℕ) → Option Ident
some_name [] = None
some_name (t ∷ ts) = Some (named (join (t ∷ ts)))

abbrev pub front : List ℕ → List (List ℕ) → List (List ℕ)
front t [] = []
front t (u ∷ us) = t ∷ front u us

abbrev pub last : List ℕ → List (List ℕ) → List ℕ
last t [] = t
last t (u ∷ us) = last u us

abbrev pub path_in : List (List ℕ) → List (List ℕ) → Option Path
path_in [] bodies = None
path_in (t ∷ ts) bodies = Some (record { «package» = some_name (front t ts); name = named (last t ts); body = some_name (take 1 bodies) })

abbrev pub class_in : List Seen → Option Path
class_in ss = path_in (texts part_mark ss) (texts class_body_mark ss)

abbrev pub category_in : ℕ → List Seen → Category
category_in k [] = System
category_in k (s ∷ ss) = if s.mark == k then category_of s.terminal else category_in k ss

abbrev pub outward_in : List Seen → Bool
outward_in ss = list_any (λ s. s.mark == direction_mark && s.terminal == out_word) ss

abbrev pub port_in : List Seen → Port
port_in ss = record { name = name_in feature_mark ss; outward = outward_in ss; kind = kind_of (has event_mark ss) (has data_mark ss); carries = class_in ss }

abbrev pub listed_in : {B : Type 0} → List ℕ → ℕ → (List Seen → B) → List Seen → List B
listed_in ks k read ss = map read (filter (has k) (pieces ks ss))

abbrev pub sub_in : List Seen → Sub
sub_in ss = record { name = name_in sub_mark ss; category = category_in kind_mark ss; of = class_in ss }

abbrev pub end_in : List Seen → End
end_in ss =
    if has spot_port_mark ss then record { sub = Some (name_in spot_mark ss); port = name_in spot_port_mark ss }
    else record { sub = None; port = name_in spot_mark ss }

abbrev pub piece_at : List (List Seen) → ℕ → List Seen
piece_at xs i = slice_index_or xs i []

abbrev pub wire_in : List Seen → Wire
wire_in ss = record { name = name_in connection_mark ss; from = end_in (piece_at (pieces (spot_mark ∷ []) ss) 0); to = end_in (piece_at (pieces (spot_mark ∷ []) ss) 1) }

abbrev pub frame_in : List Seen → Frame
frame_in ss = record { category = category_in item_mark ss; name = name_in declared_mark ss; ports = listed_in (feature_mark ∷ []) direction_mark port_in ss; annexes = [] }

abbrev pub body_in : List Seen → Body
body_in ss = record {
  category = category_in item_mark ss;
  frame = name_in owner_mark ss;
  name = name_in declared_mark ss;
  subs = listed_in (sub_mark ∷ []) kind_mark sub_in ss;
  wires = listed_in (connection_mark ∷ []) spot_mark wire_in ss;
  annexes = [];
}

abbrev pub agrees : List Seen → Bool
agrees ss = same (first_text (texts annex_name_mark ss)) (codes "agree")

abbrev pub item_in : List Seen → Option Item
item_in ss =
    if has owner_mark ss then Some (item.Body (body_in ss))
    else (if has declared_mark ss then Some (item.Frame (frame_in ss))
    else (if agrees ss then Some (item.Library no_token) else None))

abbrev pub begins : ℕ → List Seen → Bool
begins k [] = false
begins k (s ∷ ss) = s.mark == k

abbrev pub package_name_in : List Seen → Ident
package_name_in ss = named (join (texts part_mark ss))

abbrev pub parts_in : List Seen → List (List Seen)
parts_in ss = pieces (package_mark ∷ import_mark ∷ item_mark ∷ end_mark ∷ []) ss

abbrev pub package_of_parts : List (List Seen) → Package
package_of_parts parts = record {
  name = package_name_in (piece_at parts 0);
  imports = map package_name_in (filter (begins import_mark) parts);
  items = filter_map item_in (filter (begins item_mark) parts);
}

abbrev pub package_in : List Seen → Package
package_in ss = package_of_parts (parts_in ss)

abbrev pub packages_in : List Seen → List Package
packages_in ss = map package_in (pieces (package_mark ∷ []) ss)

-- ---- congruence

pub two : {A B C : Type 0} (f : A → B → C) {a b : A} {c d : B} → a ≡ b → c ≡ d → f a c ≡ f b d
two f e g = cc

pub three : {A B C D : Type 0} (f : A → B → C → D) {a b : A} {c d : B} {p q : C} → a ≡ b → c ≡ d → p ≡ q → f a c p ≡ f b d q
three f e g h = cc

pub four : {A B C D E : Type 0} (f : A → B → C → D → E) {a b : A} {c d : B} {p q : C} {r s : D} → a ≡ b → c ≡ d → p ≡ q → r ≡ s → f a c p r ≡ f b d q s
four f e g h i = cc

cond_step : {A B : Type 0} (g : A → B) (b : Bool) (x y : A) → g (cond b x y) ≡ cond b (g x) (g y)
cond_step g true x y = refl
cond_step g false x y = refl

pub cond_both : {A B : Type 0} (g : A → B) {b c : Bool} (x y : A) {u v : B} → b ≡ c → g x ≡ u → g y ≡ v → g (cond b x y) ≡ cond c u v
cond_both g {b = b} x y e p q = cond_step g b x y ∙ three (λ z s t. cond z s t) e p q

pub map_both : {A B C D : Type 0} (r : B → D) (g : A → B) (h : C → D) (f : A → C) → ((a : A) → r (g a) ≡ h (f a)) → (xs : List A) → map r (map g xs) ≡ map h (map f xs)
map_both r g h f e [] = refl
map_both r g h f e (x ∷ xs) = two (λ z zs. z ∷ zs) (e x) (map_both r g h f e xs)

pub filter_both : {A B : Type 0} (f : A → B) (p : A → Bool) (q : B → Bool) → ((a : A) → p a ≡ q (f a)) → (xs : List A) → map f (filter p xs) ≡ filter q (map f xs)
filter_both f p q e [] = refl
filter_both f p q e (x ∷ xs) = cond_both (map f) (x ∷ filter p xs) (filter p xs) (e x) (ap (λ zs. f x ∷ zs) (filter_both f p q e xs)) (filter_both f p q e xs)

-- ---- tokens and what is seen of them

pub texts_seen : (bytes : List ℕ) (k : ℕ) (ms : List Marked) → map (own bytes) (under k ms) ≡ texts k (map (seen_of bytes) ms)
texts_seen bytes k [] = refl
texts_seen bytes k (m ∷ ms) =
    let more = texts_seen bytes k ms in
    cond_both (map (own bytes)) (m.token ∷ under k ms) (under k ms) refl (ap (λ (z : List (List ℕ)). own bytes m.token ∷ z) more) more

any_seen : (bytes : List ℕ) (p : Seen → Bool) (ms : List Marked) → list_any (λ m. p (seen_of bytes m)) ms ≡ list_any p (map (seen_of bytes) ms)
any_seen bytes p [] = refl
any_seen bytes p (m ∷ ms) = ap (λ (z : Bool). p (seen_of bytes m) || z) (any_seen bytes p ms)

pub has_seen : (bytes : List ℕ) (k : ℕ) (ms : List Marked) → has_mark k ms ≡ has k (map (seen_of bytes) ms)
has_seen bytes k ms = any_seen bytes (λ s. s.mark == k) ms

until_seen : (bytes ks : List ℕ) (ms : List Marked) → map (seen_of bytes) (up_to ks ms) ≡ until ks (map (seen_of bytes) ms)
until_seen bytes ks [] = refl
until_seen bytes ks (m ∷ ms) = cond_both (map (seen_of bytes)) [] (m ∷ up_to ks ms) refl refl (ap (λ (z : List Seen). seen_of bytes m ∷ z) (until_seen bytes ks ms))

pub pieces_seen : (bytes ks : List ℕ) (ms : List Marked) → map (map (seen_of bytes)) (segments ks ms) ≡ pieces ks (map (seen_of bytes) ms)
pieces_seen bytes ks [] = refl
pieces_seen bytes ks (m ∷ ms) =
    let more = pieces_seen bytes ks ms in
    cond_both (map (map (seen_of bytes))) ((m ∷ up_to ks ms) ∷ segments ks ms) (segments ks ms) refl
    (two (λ (z : List Seen) (zs : List (List Seen)). (seen_of bytes m ∷ z) ∷ zs) (until_seen bytes ks ms) more) more

pub first_seen : (bytes : List ℕ) (ts : List Token) → own bytes (first_of ts) ≡ first_text (map (own bytes) ts)
first_seen bytes [] = refl
first_seen bytes (t ∷ ts) = refl

name_seen : (bytes : List ℕ) (k : ℕ) (ms : List Marked) → bare_ident (ident_under bytes k ms) ≡ name_in k (map (seen_of bytes) ms)
name_seen bytes k ms = ap named (first_seen bytes (under k ms) ∙ ap first_text (texts_seen bytes k ms))

joined_seen : (bytes : List ℕ) (ts : List Token) → joined bytes ts ≡ join (map (own bytes) ts)
joined_seen bytes [] = refl
joined_seen bytes (t ∷ []) = refl
joined_seen bytes (t ∷ u ∷ ts) = ap (λ (z : List ℕ). own bytes t ++ (codes "::" ++ z)) (joined_seen bytes (u ∷ ts))

some_seen : (bytes : List ℕ) (ts : List Token) → bare_option (some_ident bytes ts) ≡ some_name (map (own bytes) ts)
some_seen bytes [] = refl
some_seen bytes (t ∷ ts) = ap (λ (z : List ℕ). Some (named z)) (joined_seen bytes (t ∷ ts))

front_seen : (bytes : List ℕ) (t : Token) (ts : List Token) → map (own bytes) (take (length ts) (t ∷ ts)) ≡ front (own bytes t) (map (own bytes) ts)
front_seen bytes t [] = refl
front_seen bytes t (u ∷ us) = ap (λ (z : List (List ℕ)). own bytes t ∷ z) (front_seen bytes u us)

last_seen : (bytes : List ℕ) (t d : Token) (ts : List Token) → own bytes (slice_index_or (t ∷ ts) (length ts) d) ≡ last (own bytes t) (map (own bytes) ts)
last_seen bytes t d [] = refl
last_seen bytes t d (u ∷ us) = last_seen bytes u d us

take_seen : (bytes : List ℕ) (ts : List Token) → map (own bytes) (take 1 ts) ≡ take 1 (map (own bytes) ts)
take_seen bytes [] = refl
take_seen bytes (t ∷ ts) = refl

path_seen : (bytes : List ℕ) (ts bs : List Token) → bare_class (path_of bytes ts bs) ≡ path_in (map (own bytes) ts) (map (own bytes) bs)
path_seen bytes [] bs = refl
path_seen bytes (t ∷ ts) bs =
    three (λ (p : Option Ident) (n : List ℕ) (b : Option Ident). Some (record { «package» = p; name = named n; body = b }))
    (some_seen bytes (take (length ts) (t ∷ ts)) ∙ ap some_name (front_seen bytes t ts)) (last_seen bytes t t ts) (some_seen bytes (take 1 bs) ∙ ap some_name (take_seen bytes bs))

class_seen : (bytes : List ℕ) (ms : List Marked) → bare_class (class_of bytes ms) ≡ class_in (map (seen_of bytes) ms)
class_seen bytes ms = path_seen bytes (under part_mark ms) (under class_body_mark ms) ∙ two path_in (texts_seen bytes part_mark ms) (texts_seen bytes class_body_mark ms)

category_seen : (bytes : List ℕ) (k : ℕ) (ms : List Marked) → category_under k ms ≡ category_in k (map (seen_of bytes) ms)
category_seen bytes k [] = refl
category_seen bytes k (m ∷ ms) = cond_both (λ (c : Category). c) (category_of m.terminal) (category_under k ms) refl refl (category_seen bytes k ms)

-- ---- ports, subcomponents, connections

port_seen : (bytes : List ℕ) (ms : List Marked) → bare_port (port_of bytes ms) ≡ port_in (map (seen_of bytes) ms)
port_seen bytes ms =
    four (λ n o k c. record { name = n; outward = o; kind = k; carries = c }) (name_seen bytes feature_mark ms)
    (any_seen bytes (λ s. s.mark == direction_mark && s.terminal == out_word) ms)
    (two kind_of (has_seen bytes event_mark ms) (has_seen bytes data_mark ms)) (class_seen bytes ms)

listed_seen : {B D : Type 0} (bytes ks : List ℕ) (k : ℕ) (bare : B → D) (read : List Marked → B) (see : List Seen → D) → ((ms : List Marked) → bare (read ms) ≡ see (map (seen_of bytes) ms))
    → (ms : List Marked) → map bare (map read (filter (has_mark k) (segments ks ms))) ≡ listed_in ks k see (map (seen_of bytes) ms)
listed_seen bytes ks k bare read see e ms =
    map_both bare read see (map (seen_of bytes)) e (filter (has_mark k) (segments ks ms))
    ∙ ap (map see) (filter_both (map (seen_of bytes)) (has_mark k) (has k) (has_seen bytes k) (segments ks ms) ∙ ap (filter (has k)) (pieces_seen bytes ks ms))

sub_seen : (bytes : List ℕ) (ms : List Marked) → bare_sub (sub_of bytes ms) ≡ sub_in (map (seen_of bytes) ms)
sub_seen bytes ms = three (λ n c o. record { name = n; category = c; of = o }) (name_seen bytes sub_mark ms) (category_seen bytes kind_mark ms) (class_seen bytes ms)

end_seen : (bytes : List ℕ) (ms : List Marked) → bare_end (end_of bytes ms) ≡ end_in (map (seen_of bytes) ms)
end_seen bytes ms =
    cond_both bare_end (record { sub = Some (ident_under bytes spot_mark ms); port = ident_under bytes spot_port_mark ms }) (record { sub = None; port = ident_under bytes spot_mark ms })
    (has_seen bytes spot_port_mark ms)
    (two (λ s p. record { sub = Some s; port = p }) (name_seen bytes spot_mark ms) (name_seen bytes spot_port_mark ms))
    (ap (λ p. record { sub = None; port = p }) (name_seen bytes spot_mark ms))

at_seen : (bytes : List ℕ) (xs : List (List Marked)) (i : ℕ) → map (seen_of bytes) (part_at xs i) ≡ piece_at (map (map (seen_of bytes)) xs) i
at_seen bytes [] i = refl
at_seen bytes (x ∷ xs) zero = refl
at_seen bytes (x ∷ xs) (suc i) = at_seen bytes xs i

wire_seen : (bytes : List ℕ) (ms : List Marked) → bare_wire (wire_of bytes ms) ≡ wire_in (map (seen_of bytes) ms)
wire_seen bytes ms = three (λ n f t. record { name = n; from = f; to = t }) (name_seen bytes connection_mark ms) (spot 0) (spot 1)
  where
    spot : (i : ℕ) → bare_end (end_of bytes (part_at (segments (spot_mark ∷ []) ms) i)) ≡ end_in (piece_at (pieces (spot_mark ∷ []) (map (seen_of bytes) ms)) i)
    spot i =
        end_seen bytes (part_at (segments (spot_mark ∷ []) ms) i)
        ∙ ap end_in (at_seen bytes (segments (spot_mark ∷ []) ms) i ∙ ap (λ (z : List (List Seen)). piece_at z i) (pieces_seen bytes (spot_mark ∷ []) ms))

-- ---- declarations and packages

frame_seen : (bytes : List ℕ) (ms : List Marked) → bare_frame (frame_of bytes ms) ≡ frame_in (map (seen_of bytes) ms)
frame_seen bytes ms =
    three (λ c n p. record { category = c; name = n; ports = p; annexes = [] }) (category_seen bytes item_mark ms) (name_seen bytes declared_mark ms)
    (listed_seen bytes (feature_mark ∷ []) direction_mark bare_port (port_of bytes) port_in (port_seen bytes) ms)

body_seen : (bytes : List ℕ) (ms : List Marked) → bare_body (body_of bytes ms) ≡ body_in (map (seen_of bytes) ms)
body_seen bytes ms =
    four (λ (c : Category) (n : Ident × Ident) (s : List Sub) (w : List Wire). record { category = c; frame = n.0; name = n.1; subs = s; wires = w; annexes = [] }) (category_seen bytes item_mark ms)
    (two (λ (f n : Ident). (f, n)) (name_seen bytes owner_mark ms) (name_seen bytes declared_mark ms))
    (listed_seen bytes (sub_mark ∷ []) kind_mark bare_sub (sub_of bytes) sub_in (sub_seen bytes) ms)
    (listed_seen bytes (connection_mark ∷ []) spot_mark bare_wire (wire_of bytes) wire_in (wire_seen bytes) ms)

abbrev bare_some : Option Item → Option Item
bare_some None = None
bare_some (Some i) = Some (bare_item i)

pub agrees_seen : (bytes : List ℕ) (ms : List Marked) → is_agree bytes ms ≡ agrees (map (seen_of bytes) ms)
agrees_seen bytes ms = ap (λ (z : List ℕ). same z (codes "agree")) (first_seen bytes (under annex_name_mark ms) ∙ ap first_text (texts_seen bytes annex_name_mark ms))

item_seen : (bytes : List ℕ) (ms : List Marked) → bare_some (item_of bytes ms) ≡ item_in (map (seen_of bytes) ms)
item_seen bytes ms =
    cond_both bare_some _ _ (has_seen bytes owner_mark ms) (ap (λ b. Some (item.Body b)) (body_seen bytes ms))
    (cond_both bare_some _ _ (has_seen bytes declared_mark ms) (ap (λ f. Some (item.Frame f)) (frame_seen bytes ms))
    (cond_both bare_some _ _ (agrees_seen bytes ms) refl refl))

cons_seen : (o : Option Item) (xs : List Item) → map bare_item (cons_option o xs) ≡ cons_option (bare_some o) (map bare_item xs)
cons_seen None xs = refl
cons_seen (Some i) xs = refl

items_seen : (bytes : List ℕ) (xs : List (List Marked)) → map bare_item (filter_map (item_of bytes) xs) ≡ filter_map item_in (map (map (seen_of bytes)) xs)
items_seen bytes [] = refl
items_seen bytes (x ∷ xs) = cons_seen (item_of bytes x) (filter_map (item_of bytes) xs) ∙ two cons_option (item_seen bytes x) (items_seen bytes xs)

pub begins_seen : (bytes : List ℕ) (k : ℕ) (ms : List Marked) → begins_with k ms ≡ begins k (map (seen_of bytes) ms)
begins_seen bytes k [] = refl
begins_seen bytes k (m ∷ ms) = refl

package_name_seen : (bytes : List ℕ) (ms : List Marked) → bare_ident (name_of bytes ms) ≡ package_name_in (map (seen_of bytes) ms)
package_name_seen bytes ms = ap named (joined_seen bytes (under part_mark ms) ∙ ap join (texts_seen bytes part_mark ms))

package_seen : (bytes : List ℕ) (ms : List Marked) → bare_package (package_of bytes ms) ≡ package_in (map (seen_of bytes) ms)
package_seen bytes ms = of_parts (parts_of_package ms) ∙ ap package_of_parts (pieces_seen bytes (package_mark ∷ import_mark ∷ item_mark ∷ end_mark ∷ []) ms)
  where
    of_parts : (xs : List (List Marked)) → bare_package (record { name = name_of bytes (part_at xs 0); imports = imports_in bytes xs; items = items_in bytes xs }) ≡ package_of_parts (map (map (seen_of bytes)) xs)
    of_parts xs =
        three (λ n is its. record { name = n; imports = is; items = its })
        (package_name_seen bytes (part_at xs 0) ∙ ap package_name_in (at_seen bytes xs 0))
        (map_both bare_ident (name_of bytes) package_name_in (map (seen_of bytes)) (package_name_seen bytes) (filter (begins_with import_mark) xs)
        ∙ ap (map package_name_in) (filter_both (map (seen_of bytes)) (begins_with import_mark) (begins import_mark) (begins_seen bytes import_mark) xs))
        (items_seen bytes (filter (begins_with item_mark) xs) ∙ ap (filter_map item_in) (filter_both (map (seen_of bytes)) (begins_with item_mark) (begins item_mark) (begins_seen bytes item_mark) xs))

-- the packages but for their places hang on what is seen alone
pub packages_seen : (bytes : List ℕ) (ms : List Marked) → map bare_package (packages_of bytes ms) ≡ packages_in (map (seen_of bytes) ms)
packages_seen bytes ms =
    map_both bare_package (package_of bytes) package_in (map (seen_of bytes)) (package_seen bytes) (segments (package_mark ∷ []) ms)
    ∙ ap (map package_in) (pieces_seen bytes (package_mark ∷ []) ms)
