-- Packages that are the same, have annexes at the same declarations and state the same have one canonical text.
use Rattle.std.proofs.Common.{◌≡◌, ℕ, Bool, cond, List, [], ◌∷◌, ◌++◌, map, refl, sym, ap, ◌∙◌}
use Rattle.std.specs.Prelude.{Option, Some, None, codes}
use Rattle.std.specs.List.{flat_map}
use Rattle.ag_lex.specs.declared.token.Token.{Token}
use Rattle.ag_lex.specs.declared.token.TokenKind.TheVariants.{Annex}
use Rattle.ag_terms.specs.declared.names.Path.{Path}
use Rattle.ag_terms.specs.declared.names.Ident.{Ident}
use Rattle.ag_aadl.specs.declared.packages.Port.{Port}
use Rattle.ag_aadl.specs.declared.packages.Frame.{Frame}
use Rattle.ag_aadl.specs.declared.packages.Sub.{Sub}
use Rattle.ag_aadl.specs.declared.packages.Wire.{Wire}
use Rattle.ag_aadl.specs.declared.packages.Body.{Body}
use Rattle.ag_aadl.specs.declared.packages.Item.{Item}
use Rattle.ag_aadl.specs.declared.packages.Item.TheVariants as item
use Rattle.ag_aadl.specs.declared.packages.Package.{Package}
use Rattle.ag_aadl.specs.Marks.{unmarked, package_mark, item_mark, owner_mark, declared_mark, feature_mark, direction_mark, sub_mark, kind_mark, connection_mark, annex_name_mark, annex_text_mark, end_mark, end_owner_mark, end_name_mark, close_mark, features_mark, subcomponents_mark, connections_mark}
use Rattle.ag_terms.specs.declared.clauses.Clause.{Clause}
use Rattle.ag_unparse.specs.Canonical.{clauses_text}
use Rattle.ag_unparse.specs.Same.{bare_clause, SameClauses}
use Rattle.ag_print.specs.Annexes.{Stated, item_annexes}
use Rattle.ag_print.specs.Canonical.{Spelled, name_at, sign_at, word, sign, parts_words, pname_words, body_words, package_parts, class_words, category_word, semicolon, section, direction_word, kind_words, port_line, sub_line, spot_words, wire_line, annex_bytes, annex_lines, item_lines, first_list, other_lists, items_lines, import_line, package_lines, canonical_lines, canonical_text}
use Rattle.ag_print.specs.Layout.{text_bytes}
use Rattle.ag_unparse.specs.Same.{bare_ident, bare_option}
use Rattle.ag_print.specs.Same.{bare_class, bare_port, bare_frame, bare_sub, bare_wire, bare_body, bare_item, bare_package, is_any, SamePackages, SameStated, SameAnnexed}
use Rattle.ag_print.proofs.RereadingSeen.{two, three, four}

parts_same : (o : Option Ident) → package_parts (bare_option o) ≡ package_parts o
parts_same None = refl
parts_same (Some i) = refl

body_same : (o : Option Ident) → body_words (bare_option o) ≡ body_words o
body_same None = refl
body_same (Some i) = refl

class_same : (c : Option Path) → class_words (bare_class c) ≡ class_words c
class_same None = refl
class_same (Some p) = two (λ (y : List (List ℕ)) (z : List Spelled). parts_words (y ++ p.name.text ∷ []) ++ z) (parts_same p.«package») (body_same p.body)

port_same : (p : Port) → port_line (bare_port p) ≡ port_line p
port_same p =
    ap (λ (z : List Spelled). name_at feature_mark p.name.text ∷ sign (codes ":") ∷ name_at direction_mark (direction_word p.outward) ∷ (kind_words p.kind ++ (word (codes "port") ∷ (z ++ semicolon))))
    (class_same p.carries)

sub_same : (s : Sub) → sub_line (bare_sub s) ≡ sub_line s
sub_same s = ap (λ (z : List Spelled). name_at sub_mark s.name.text ∷ sign (codes ":") ∷ name_at kind_mark (category_word s.category) ∷ (z ++ semicolon)) (class_same s.of)

spot_same : (o : Option Ident) (port : Ident) → spot_words (bare_option o) (bare_ident port) ≡ spot_words o port
spot_same None port = refl
spot_same (Some i) port = refl

wire_same : (w : Wire) → wire_line (bare_wire w) ≡ wire_line w
wire_same w =
    two (λ (y z : List Spelled). name_at connection_mark w.name.text ∷ sign (codes ":") ∷ word (codes "port") ∷ (y ++ (sign (codes "->") ∷ (z ++ semicolon))))
    (spot_same w.from.sub w.from.port) (spot_same w.to.sub w.to.port)

lines_same : {A B : Type 0} (line : A → B) (bare : A → A) → ((x : A) → line (bare x) ≡ line x) → (xs : List A) → map line (map bare xs) ≡ map line xs
lines_same line bare e [] = refl
lines_same {B = B} line bare e (x ∷ xs) = two (λ (z : B) (zs : List B). z ∷ zs) (e x) (lines_same line bare e xs)

-- ---- a declaration by what is left of it, whether it has an annex, and that annex's bytes

abbrev Key : Type 0
Key = Item × Bool × List ℕ

abbrev annex_by : ℕ → List ℕ → List Spelled
annex_by mark own = name_at mark (codes "annex") ∷ name_at annex_name_mark (codes "agree") ∷ record { mark = annex_text_mark; word = record { kind = Annex; own = own } } ∷ semicolon

abbrev annexes_by : Bool → List ℕ → List (List Spelled)
annexes_by any own = cond any (annex_by unmarked own ∷ []) []

abbrev lines_by : Item → Bool → List ℕ → List (List Spelled)
lines_by (item.Frame f) any own =
    (name_at item_mark (category_word f.category) ∷ name_at declared_mark f.name.text ∷ [])
    ∷ (section (name_at features_mark (codes "features")) (map port_line f.ports) ++ (annexes_by any own ++ (word (codes "end") ∷ name_at end_name_mark f.name.text ∷ semicolon) ∷ []))
lines_by (item.Body b) any own =
    (name_at item_mark (category_word b.category) ∷ word (codes "implementation") ∷ name_at owner_mark b.frame.text ∷ sign (codes ".") ∷ name_at declared_mark b.name.text ∷ [])
    ∷ (section (name_at subcomponents_mark (codes "subcomponents")) (map sub_line b.subs) ++ (section (name_at connections_mark (codes "connections")) (map wire_line b.wires)
    ++ (annexes_by any own ++ (word (codes "end") ∷ name_at end_owner_mark b.frame.text ∷ sign (codes ".") ∷ name_at end_name_mark b.name.text ∷ semicolon) ∷ [])))
lines_by (item.Library t) any own = annex_by item_mark own ∷ []

abbrev key_lines : Key → List (List Spelled)
key_lines k = lines_by k.0 k.1 k.2

annexes_same : (ts : List Token) (clauses : List Clause) → annex_lines ts clauses ≡ annexes_by (is_any ts) (annex_bytes clauses)
annexes_same [] clauses = refl
annexes_same (t ∷ ts) clauses = refl

frame_same : (f : Frame) (clauses : List Clause) → item_lines (item.Frame f) clauses ≡ lines_by (item.Frame (bare_frame f)) (is_any f.annexes) (annex_bytes clauses)
frame_same f clauses =
    two (λ (y z : List (List Spelled)). (name_at item_mark (category_word f.category) ∷ name_at declared_mark f.name.text ∷ [])
    ∷ (section (name_at features_mark (codes "features")) y ++ (z ++ (word (codes "end") ∷ name_at end_name_mark f.name.text ∷ semicolon) ∷ [])))
    (sym (lines_same port_line bare_port port_same f.ports)) (annexes_same f.annexes clauses)

body_lines_same : (b : Body) (clauses : List Clause) → item_lines (item.Body b) clauses ≡ lines_by (item.Body (bare_body b)) (is_any b.annexes) (annex_bytes clauses)
body_lines_same b clauses =
    three (λ (x y z : List (List Spelled)). (name_at item_mark (category_word b.category) ∷ word (codes "implementation") ∷ name_at owner_mark b.frame.text ∷ sign (codes ".") ∷ name_at declared_mark b.name.text ∷ [])
    ∷ (section (name_at subcomponents_mark (codes "subcomponents")) x ++ (section (name_at connections_mark (codes "connections")) y
    ++ (z ++ (word (codes "end") ∷ name_at end_owner_mark b.frame.text ∷ sign (codes ".") ∷ name_at end_name_mark b.name.text ∷ semicolon) ∷ []))))
    (sym (lines_same sub_line bare_sub sub_same b.subs)) (sym (lines_same wire_line bare_wire wire_same b.wires)) (annexes_same b.annexes clauses)

item_same : (i : Item) (clauses : List Clause) → item_lines i clauses ≡ lines_by (bare_item i) (is_any (item_annexes i)) (annex_bytes clauses)
item_same (item.Frame f) clauses = frame_same f clauses
item_same (item.Body b) clauses = body_lines_same b clauses
item_same (item.Library t) clauses = refl

-- ---- declarations and packages

abbrev keys : List Item → List (List Clause) → List Key
keys [] stated = []
keys (i ∷ items) stated = (bare_item i, is_any (item_annexes i), annex_bytes (first_list stated)) ∷ keys items (other_lists stated)

items_same : (items : List Item) (stated : List (List Clause)) → items_lines items stated ≡ flat_map key_lines (keys items stated)
items_same [] stated = refl
items_same (i ∷ items) stated = two (λ (y z : List (List Spelled)). y ++ z) (item_same i (first_list stated)) (items_same items (other_lists stated))

-- a package by its name, its imports and its declarations
abbrev Package_key : Type 0
Package_key = Ident × List Ident × List Key

abbrev package_by : Package_key → List (List Spelled)
package_by k =
    (name_at package_mark (codes "package") ∷ pname_words k.0) ∷ (word (codes "public") ∷ [])
    ∷ (map import_line k.1 ++ (flat_map key_lines k.2 ++ (name_at end_mark (codes "end") ∷ (pname_words k.0 ++ sign_at close_mark (codes ";") ∷ [])) ∷ []))

abbrev package_key : Package → List (List Clause) → Package_key
package_key p stated = (bare_ident p.name, map bare_ident p.imports, keys p.items stated)

package_same : (p : Package) (stated : List (List Clause)) → package_lines p stated ≡ package_by (package_key p stated)
package_same p stated =
    two (λ (y z : List (List Spelled)). (name_at package_mark (codes "package") ∷ pname_words p.name) ∷ (word (codes "public") ∷ [])
    ∷ (y ++ (z ++ (name_at end_mark (codes "end") ∷ (pname_words p.name ++ sign_at close_mark (codes ";") ∷ [])) ∷ [])))
    (sym (lines_same import_line bare_ident (λ (i : Ident). refl) p.imports)) (items_same p.items stated)

abbrev package_keys : List Package → Stated → List Package_key
package_keys [] stated = []
package_keys (p ∷ ps) stated = package_key p (first_list stated) ∷ package_keys ps (other_lists stated)

packages_same : (ps : List Package) (stated : Stated) → canonical_lines ps stated ≡ flat_map package_by (package_keys ps stated)
packages_same [] stated = refl
packages_same (p ∷ ps) stated = two (λ (y z : List (List Spelled)). y ++ z) (package_same p (first_list stated)) (packages_same ps (other_lists stated))

-- ---- the same keys

first_map : {A B : Type 0} (f : A → B) (xs : List (List A)) → first_list (map (map f) xs) ≡ map f (first_list xs)
first_map f [] = refl
first_map f (x ∷ xs) = refl

other_map : {A B : Type 0} (f : A → B) (xs : List (List A)) → other_lists (map (map f) xs) ≡ map (map f) (other_lists xs)
other_map f [] = refl
other_map f (x ∷ xs) = refl

-- what the law of clauses says
abbrev pub OneClausesText : Type 0
OneClausesText = (cs ds : List Clause) → SameClauses cs ds → clauses_text cs ≡ clauses_text ds

abbrev SameLists : List (List Clause) → List (List Clause) → Type 0
SameLists s t = map (map bare_clause) s ≡ map (map bare_clause) t

first_same : (s t : List (List Clause)) → SameLists s t → SameClauses (first_list s) (first_list t)
first_same s t e = sym (first_map bare_clause s) ∙ ap first_list e ∙ first_map bare_clause t

other_same : (s t : List (List Clause)) → SameLists s t → SameLists (other_lists s) (other_lists t)
other_same s t e = sym (other_map bare_clause s) ∙ ap other_lists e ∙ other_map bare_clause t

bytes_same : OneClausesText → (cs ds : List Clause) → SameClauses cs ds → annex_bytes cs ≡ annex_bytes ds
bytes_same one cs ds e = ap (λ (z : List ℕ). codes "{**" ++ ((codes "\n" ++ z) ++ codes "**}")) (one cs ds e)

pub heads : {A : Type 0} {a b : A} {xs ys : List A} → (a ∷ xs) ≡ (b ∷ ys) → a ≡ b
heads e = cc

pub tails : {A : Type 0} {a b : A} {xs ys : List A} → (a ∷ xs) ≡ (b ∷ ys) → xs ≡ ys
tails e = cc

same_keys : OneClausesText → (xs ys : List Item) (s t : List (List Clause)) → map bare_item xs ≡ map bare_item ys → map (λ i. is_any (item_annexes i)) xs ≡ map (λ i. is_any (item_annexes i)) ys
    → SameLists s t → keys xs s ≡ keys ys t
same_keys one [] [] s t e a c = refl
same_keys one [] (y ∷ ys) s t e a c = absurd cc
same_keys one (x ∷ xs) [] s t e a c = absurd cc
same_keys one (x ∷ xs) (y ∷ ys) s t e a c =
    four (λ (i : Item) (b : Bool) (own : List ℕ) (more : List Key). (i, b, own) ∷ more) (heads e) (heads a) (bytes_same one (first_list s) (first_list t) (first_same s t c))
    (same_keys one xs ys (other_lists s) (other_lists t) (tails e) (tails a) (other_same s t c))

first_lists_same : (s t : Stated) → SameStated s t → SameLists (first_list s) (first_list t)
first_lists_same s t e = sym (first_map (map bare_clause) s) ∙ ap first_list e ∙ first_map (map bare_clause) t

other_lists_same : (s t : Stated) → SameStated s t → SameStated (other_lists s) (other_lists t)
other_lists_same s t e = sym (other_map (map bare_clause) s) ∙ ap other_lists e ∙ other_map (map bare_clause) t

same_package_keys : OneClausesText → (ps qs : List Package) (s t : Stated) → SamePackages ps qs → SameAnnexed ps qs → SameStated s t → package_keys ps s ≡ package_keys qs t
same_package_keys one [] [] s t e a c = refl
same_package_keys one [] (q ∷ qs) s t e a c = absurd cc
same_package_keys one (p ∷ ps) [] s t e a c = absurd cc
same_package_keys one (p ∷ ps) (q ∷ qs) s t e a c =
    let here : bare_package p ≡ bare_package q = heads e in
    four (λ (n : Ident) (is : List Ident) (ks : List Key) (more : List Package_key). (n, is, ks) ∷ more) (ap (λ (z : Package). z.name) here) (ap (λ (z : Package). z.imports) here)
    (same_keys one p.items q.items (first_list s) (first_list t) (ap (λ (z : Package). z.items) here) (heads a) (first_lists_same s t c))
    (same_package_keys one ps qs (other_lists s) (other_lists t) (tails e) (tails a) (other_lists_same s t c))

-- the text hangs on what packages have besides places, on which declarations have annexes, and on what these state
pub same_text : OneClausesText → (ps qs : List Package) (s t : Stated) → SamePackages ps qs → SameAnnexed ps qs → SameStated s t → canonical_text ps s ≡ canonical_text qs t
same_text one ps qs s t e a c =
    ap (λ (z : List (List Spelled)). text_bytes (map (map (λ s. s.word)) z)) (packages_same ps s ∙ ap (flat_map package_by) (same_package_keys one ps qs s t e a c) ∙ sym (packages_same qs t))
