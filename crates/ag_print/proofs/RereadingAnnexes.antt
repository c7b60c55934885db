-- The texts of the annexes that are read from canonical words.
use Rattle.std.proofs.Common.{◌≡◌, ℕ, Bool, true, false, not, cond, List, [], ◌∷◌, ◌++◌, map, refl, sym, ap, ◌∙◌}
use Rattle.std.specs.Prelude.{◌==◌, Option, Some, None, if◌then◌else◌}
use Rattle.std.specs.List.{list_all, filter, filter_map, flat_map, cons_option}
use Rattle.std.proofs.lemmas.List.{map-append}
use Rattle.ag_lex.specs.declared.token.Token.{Token}
use Rattle.ag_aadl.specs.declared.marked.Marked.{Marked}
use Rattle.ag_aadl.specs.declared.packages.Frame.{Frame}
use Rattle.ag_aadl.specs.declared.packages.Body.{Body}
use Rattle.ag_aadl.specs.declared.packages.Item.{Item}
use Rattle.ag_aadl.specs.declared.packages.Item.TheVariants as item
use Rattle.ag_aadl.specs.declared.packages.Package.{Package}
use Rattle.ag_aadl.specs.Marked.{own, under, segments}
use Rattle.ag_aadl.specs.Marks.{package_mark, import_mark, item_mark, owner_mark, declared_mark, annex_name_mark, annex_text_mark, end_mark}
use Rattle.ag_aadl.specs.Meaning.{is_agree, annex_of, annexes_of, item_of, begins_with, parts_of_package, package_of, packages_of}
use Rattle.ag_terms.specs.Names.{same}
use Rattle.ag_terms.specs.declared.clauses.Clause.{Clause}
use Rattle.ag_print.specs.Annexes.{Stated, item_annexes}
use Rattle.ag_print.specs.Canonical.{Spelled, annex_bytes, first_list, other_lists}
use Rattle.ag_print.specs.Same.{is_any, annexed, SameAnnexed}
use Rattle.ag_print.proofs.RereadingSeen.{Seen, seen_of, texts, has, first_text, pieces, agrees, begins, parts_in, two, cond_both, map_both, filter_both, texts_seen, has_seen, first_seen, pieces_seen, begins_seen, agrees_seen}
use Rattle.ag_print.proofs.RereadingPieces.{among, has_lacking, pieces_free}
use Rattle.ag_print.proofs.RereadingLines.{seen, paired, annex_words, frame_end, body_end, features, frame_words, frame_tail, subcomponents, connections, body_rest, implementation_words, words_of_item, item_words, items_of, package_words, seen_all, marks_within, features_marks, subcomponents_marks, connections_marks, ports_set, subs_set, wires_set}
use Rattle.ag_print.proofs.RereadingBack.{frame_set, frame_marks, Told_package, Told_item, items_pieces, packages_pieces}

-- ---- what tokens say

abbrev pub item_texts : List ℕ → Item → List (List ℕ)
item_texts bytes i = map (own bytes) (item_annexes i)

abbrev pub package_texts : List ℕ → Package → List (List (List ℕ))
package_texts bytes p = map (item_texts bytes) p.items

abbrev annex_text_in : List Seen → List ℕ
annex_text_in ss = first_text (texts annex_text_mark ss)

abbrev annexes_in : List Seen → List (List ℕ)
annexes_in ss = map annex_text_in (filter agrees (pieces (annex_name_mark ∷ []) ss))

abbrev texts_in : List Seen → Option (List (List ℕ))
texts_in ss =
    if has owner_mark ss then Some (annexes_in ss)
    else (if has declared_mark ss then Some (annexes_in ss)
    else (if agrees ss then Some (annex_text_in ss ∷ []) else None))

abbrev package_texts_in : List Seen → List (List (List ℕ))
package_texts_in ss = filter_map texts_in (filter (begins item_mark) (parts_in ss))

text_seen : (bytes : List ℕ) (ms : List Marked) → own bytes (annex_of ms) ≡ annex_text_in (map (seen_of bytes) ms)
text_seen bytes ms = first_seen bytes (under annex_text_mark ms) ∙ ap first_text (texts_seen bytes annex_text_mark ms)

annexes_seen : (bytes : List ℕ) (ms : List Marked) → map (own bytes) (annexes_of bytes ms) ≡ annexes_in (map (seen_of bytes) ms)
annexes_seen bytes ms =
    map_both (own bytes) annex_of annex_text_in (map (seen_of bytes)) (text_seen bytes) (filter (is_agree bytes) (segments (annex_name_mark ∷ []) ms))
    ∙ ap (map annex_text_in) (filter_both (map (seen_of bytes)) (is_agree bytes) agrees (agrees_seen bytes) (segments (annex_name_mark ∷ []) ms) ∙ ap (filter agrees) (pieces_seen bytes (annex_name_mark ∷ []) ms))

abbrev some_texts : List ℕ → Option Item → Option (List (List ℕ))
some_texts bytes None = None
some_texts bytes (Some i) = Some (item_texts bytes i)

item_seen : (bytes : List ℕ) (ms : List Marked) → some_texts bytes (item_of bytes ms) ≡ texts_in (map (seen_of bytes) ms)
item_seen bytes ms =
    cond_both (some_texts bytes) _ _ (has_seen bytes owner_mark ms) (ap (λ b. Some b) (annexes_seen bytes ms))
    (cond_both (some_texts bytes) _ _ (has_seen bytes declared_mark ms) (ap (λ f. Some f) (annexes_seen bytes ms))
    (cond_both (some_texts bytes) _ _ (agrees_seen bytes ms) (ap (λ (t : List ℕ). Some (t ∷ [])) (text_seen bytes ms)) refl))

cons_seen : (bytes : List ℕ) (o : Option Item) (xs : List Item) → map (item_texts bytes) (cons_option o xs) ≡ cons_option (some_texts bytes o) (map (item_texts bytes) xs)
cons_seen bytes None xs = refl
cons_seen bytes (Some i) xs = refl

items_seen : (bytes : List ℕ) (xs : List (List Marked)) → map (item_texts bytes) (filter_map (item_of bytes) xs) ≡ filter_map texts_in (map (map (seen_of bytes)) xs)
items_seen bytes [] = refl
items_seen bytes (x ∷ xs) = cons_seen bytes (item_of bytes x) (filter_map (item_of bytes) xs) ∙ two cons_option (item_seen bytes x) (items_seen bytes xs)

package_seen : (bytes : List ℕ) (ms : List Marked) → package_texts bytes (package_of bytes ms) ≡ package_texts_in (map (seen_of bytes) ms)
package_seen bytes ms =
    items_seen bytes (filter (begins_with item_mark) (parts_of_package ms))
    ∙ ap (filter_map texts_in) (filter_both (map (seen_of bytes)) (begins_with item_mark) (begins item_mark) (begins_seen bytes item_mark) (parts_of_package ms)
    ∙ ap (filter (begins item_mark)) (pieces_seen bytes (package_mark ∷ import_mark ∷ item_mark ∷ end_mark ∷ []) ms))

packages_seen : (bytes : List ℕ) (ms : List Marked) → map (package_texts bytes) (packages_of bytes ms) ≡ map package_texts_in (pieces (package_mark ∷ []) (map (seen_of bytes) ms))
packages_seen bytes ms =
    map_both (package_texts bytes) (package_of bytes) package_texts_in (map (seen_of bytes)) (package_seen bytes) (segments (package_mark ∷ []) ms)
    ∙ ap (map package_texts_in) (pieces_seen bytes (package_mark ∷ []) ms)

-- ---- what canonical words say

-- the bytes of the one annex of a declaration that has some
abbrev pub expected : Bool → List Clause → List (List ℕ)
expected true clauses = annex_bytes clauses ∷ []
expected false clauses = []

abbrev pub expected_of : Told_item → List (List ℕ)
expected_of x = expected (is_any (item_annexes x.0)) x.1

abbrev pub expected_texts : Told_package → List (List (List ℕ))
expected_texts q = map expected_of (items_of q)

frame_end_back : (ts : List Token) (clauses : List Clause) (f : Frame) → annexes_in (map seen (annex_words ts clauses ++ frame_end f)) ≡ expected (is_any ts) clauses
unfolding same
frame_end_back [] clauses f = refl
frame_end_back (t ∷ ts) clauses f = refl

body_end_back : (ts : List Token) (clauses : List Clause) (b : Body) → annexes_in (map seen (annex_words ts clauses ++ body_end b)) ≡ expected (is_any ts) clauses
unfolding same
body_end_back [] clauses b = refl
body_end_back (t ∷ ts) clauses b = refl

-- words before those of annexes don't matter
words_before : (ks : List ℕ) (a b : List Spelled) → list_all (λ k. not (among (annex_name_mark ∷ []) k)) ks ≡ true → marks_within ks a ≡ true → annexes_in (map seen (a ++ b)) ≡ annexes_in (map seen b)
words_before ks a b all h =
    ap annexes_in (map-append seen a b)
    ∙ ap (λ (z : List (List Seen)). map annex_text_in (filter agrees z)) (pieces_free (annex_name_mark ∷ []) (map seen a) (map seen b) (seen_all ks (λ (k : ℕ). not (among (annex_name_mark ∷ []) k)) a all h))

frame_texts : (f : Frame) (clauses : List Clause) → annexes_in (map seen (frame_words f clauses)) ≡ expected (is_any f.annexes) clauses
frame_texts f clauses = words_before ports_set (features f) (frame_tail f clauses) refl (features_marks f) ∙ frame_end_back f.annexes clauses f

body_texts : (b : Body) (clauses : List Clause) → annexes_in (map seen (implementation_words b clauses)) ≡ expected (is_any b.annexes) clauses
body_texts b clauses =
    words_before subs_set (subcomponents b) (connections b ++ body_rest b clauses) refl (subcomponents_marks b) ∙ words_before wires_set (connections b) (body_rest b clauses) refl (connections_marks b)
    ∙ body_end_back b.annexes clauses b

item_back : (i : Item) (clauses : List Clause) → texts_in (map seen (words_of_item i clauses)) ≡ Some (expected (is_any (item_annexes i)) clauses)
unfolding same
item_back (item.Frame f) clauses =
    let ws = frame_words f clauses in
    let no_owner = has_lacking owner_mark (map seen ws) (seen_all frame_set (λ (k : ℕ). not (k == owner_mark)) ws refl (frame_marks f clauses)) in
    ap (λ (c : Bool). cond c (Some (annexes_in (map seen ws))) (Some (annexes_in (map seen ws)))) no_owner ∙ ap (λ (z : List (List ℕ)). Some z) (frame_texts f clauses)
item_back (item.Body b) clauses = ap (λ (z : List (List ℕ)). Some z) (body_texts b clauses)
item_back (item.Library t) clauses = refl

items_back : (xs : List Told_item) → filter_map texts_in (map (λ x. map seen (item_words x)) xs) ≡ map expected_of xs
items_back [] = refl
items_back (x ∷ xs) = rw (item_back x.0 x.1) (ap (λ (z : List (List (List ℕ))). expected_of x ∷ z) (items_back xs))

package_back : (q : Told_package) → package_texts_in (map seen (package_words q)) ≡ expected_texts q
package_back q = ap (filter_map texts_in) (items_pieces q) ∙ items_back (items_of q)

-- one map behind another
pub after : {A B C : Type 0} (f : B → C) (g : A → B) (h : A → C) → ((x : A) → f (g x) ≡ h x) → (xs : List A) → map f (map g xs) ≡ map h xs
after f g h e [] = refl
after f g h e (x ∷ xs) = two (λ z zs. z ∷ zs) (e x) (after f g h e xs)

-- the texts of the annexes that tokens declare, where these are the words of packages
pub found_texts : (bytes : List ℕ) (ms : List Marked) (ps : List Package) (stated : Stated) → map (seen_of bytes) ms ≡ map seen (flat_map package_words (paired ps stated))
    → map (package_texts bytes) (packages_of bytes ms) ≡ map expected_texts (paired ps stated)
found_texts bytes ms ps stated are =
    packages_seen bytes ms ∙ ap (λ (z : List Seen). map package_texts_in (pieces (package_mark ∷ []) z)) are
    ∙ ap (map package_texts_in) (packages_pieces (paired ps stated)) ∙ after package_texts_in (λ (q : Told_package). map seen (package_words q)) expected_texts package_back (paired ps stated)

-- ---- the same declarations have annexes

any_map : {A B : Type 0} (f : A → B) (xs : List A) → is_any (map f xs) ≡ is_any xs
any_map f [] = refl
any_map f (x ∷ xs) = refl

package_any : (bytes : List ℕ) (p : Package) → map is_any (package_texts bytes p) ≡ annexed p
package_any bytes p = after is_any (item_texts bytes) (λ (i : Item). is_any (item_annexes i)) (λ (i : Item). any_map (own bytes) (item_annexes i)) p.items

any_expected : (any : Bool) (clauses : List Clause) → is_any (expected any clauses) ≡ any
any_expected true clauses = refl
any_expected false clauses = refl

items_any : (items : List Item) (stated : List (List Clause)) → map is_any (map expected_of (paired items stated)) ≡ map (λ i. is_any (item_annexes i)) items
items_any [] stated = refl
items_any (i ∷ items) stated = two (λ (z : Bool) (zs : List Bool). z ∷ zs) (any_expected (is_any (item_annexes i)) (first_list stated)) (items_any items (other_lists stated))

packages_any : (ps : List Package) (stated : Stated) → map (map is_any) (map expected_texts (paired ps stated)) ≡ map annexed ps
packages_any [] stated = refl
packages_any (p ∷ ps) stated = two (λ (z : List Bool) (zs : List (List Bool)). z ∷ zs) (items_any p.items (first_list stated)) (packages_any ps (other_lists stated))

pub same_annexed : (bytes : List ℕ) (found ps : List Package) (stated : Stated) → map (package_texts bytes) found ≡ map expected_texts (paired ps stated) → SameAnnexed found ps
same_annexed bytes found ps stated e =
    sym (after (map is_any) (package_texts bytes) annexed (package_any bytes) found) ∙ ap (map (map is_any)) e ∙ packages_any ps stated
