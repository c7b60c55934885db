-- The annexes that packages declare are texts of annexes among the marked tokens.
use Rattle.std.proofs.Common.{◌≡◌, ℕ, Bool, true, false, ◌==◌, ◌||◌, not, cond, if◌then◌else◌, List, [], ◌∷◌, Option, Some, None, refl, sym, subst, inl, inr}
use Rattle.std.specs.Prelude.{codes}
use Rattle.std.specs.List.{All, filter, filter_map, cons_option, flat_map}
use Rattle.std.specs.Option.{IfSome}
use Rattle.std.proofs.lemmas.Bool.{both_ways, cases_Bool, and_parts, and_from, or_cases, or_parts, or_left, or_right, eqb-true}
use Rattle.std.proofs.lemmas.List.Elements.{All-nil, All-cons, All-head, All-tail, All-append, All-map, All-filter, All-weaker}
use Rattle.ag_lex.specs.declared.token.Language.TheVariants.{Aadl}
use Rattle.ag_lex.specs.declared.token.Token.{Token}
use Rattle.ag_lex.specs.Answers.{AreKept, IsAnnexOf}
use Rattle.ag_aadl.specs.declared.marked.Marked.{Marked}
use Rattle.ag_aadl.specs.declared.packages.Item.{Item}
use Rattle.ag_aadl.specs.declared.packages.Item.TheVariants as item
use Rattle.ag_aadl.specs.declared.packages.Package.{Package}
use Rattle.ag_aadl.specs.Files.{IsFile}
use Rattle.ag_aadl.specs.Marked.{marked, own, under, has_mark, first_of, is_among, up_to, segments}
use Rattle.ag_aadl.specs.Marks.{package_mark, item_mark, owner_mark, declared_mark, annex_name_mark, annex_text_mark}
use Rattle.ag_aadl.specs.Meaning.{is_agree, annex_of, annexes_of, frame_of, body_of, item_of, begins_with, parts_of_package, package_of}
use Rattle.ag_aadl.specs.Words.{terminals_of}
use Rattle.ag_terms.specs.Names.{same}
use Rattle.ag_print.specs.Annexes.{item_annexes, item_site, annexes_of_item, annexes_of_package, annexes_of_packages}
use Rattle.ag_print.specs.Shares.{IsOneOf}
use Rattle.ag_print.proofs.AnnexTexts.{is_paired, IsTextOf, Annexed, file_annexed}
use Rattle.ag_print.proofs.PrintableParts.{part_marks}

-- ---- one annex

text_next : (ms : List Marked) → is_paired true ms ≡ true → has_mark annex_text_mark ms ≡ true
text_next [] h = absurd cc
text_next (m ∷ ms) h = or_left (m.mark == annex_text_mark) (has_mark annex_text_mark ms) (and_parts (m.mark == annex_text_mark) (is_paired (m.mark == annex_name_mark) ms) h).0

-- where the name of an annex stands its text does too
text_behind : (ms : List Marked) (due : Bool) → is_paired due ms ≡ true → has_mark annex_name_mark ms ≡ true → has_mark annex_text_mark ms ≡ true
text_behind [] due h has = absurd cc
text_behind (m ∷ ms) due h has =
    let later = (and_parts (not due || m.mark == annex_text_mark) (is_paired (m.mark == annex_name_mark) ms) h).1 in
    or_right (m.mark == annex_text_mark) (has_mark annex_text_mark ms) (elim (or_cases (m.mark == annex_name_mark) (has_mark annex_name_mark ms) has) [
      | inl here ↦ text_next ms (subst (λ (z : Bool). is_paired z ms ≡ true) here later)
      | inr behind ↦ text_behind ms (m.mark == annex_name_mark) later behind
    ])

-- P holds of the first text of an annex
first_text : (P : Token → Type 0) (ms : List Marked) → All (IsTextOf P) ms → has_mark annex_text_mark ms ≡ true → P (first_of (under annex_text_mark ms))
first_text P [] all has = absurd cc
first_text P (m ∷ ms) all has = go (m.mark == annex_text_mark) refl (first_text P ms (All-tail (IsTextOf P) m ms all))
  where
    go : (b : Bool) → (m.mark == annex_text_mark) ≡ b → (has_mark annex_text_mark ms ≡ true → P (first_of (under annex_text_mark ms))) → P (first_of (if b then m.token ∷ under annex_text_mark ms else under annex_text_mark ms))
    go true e later = All-head (IsTextOf P) m ms all (eqb-true m.mark annex_text_mark e)
    go false e later = later (elim (or_cases (m.mark == annex_text_mark) (has_mark annex_text_mark ms) has) [ inl one ↦ absurd (both_ways (m.mark == annex_text_mark) e one) | inr rest ↦ rest ])

none_under : (k : ℕ) (ms : List Marked) → has_mark k ms ≡ false → under k ms ≡ []
none_under k [] h = refl
none_under k (m ∷ ms) h =
    let parts = or_parts (m.mark == k) (has_mark k ms) h in
    subst (λ (b : Bool). (if b then m.token ∷ under k ms else under k ms) ≡ []) (sym parts.0) (none_under k ms parts.1)

abbrev is_named : List ℕ → List Token → Bool
is_named bytes ts = same (own bytes (first_of ts)) (codes "agree")

nameless : (bytes : List ℕ) (ts : List Token) → ts ≡ [] → is_named bytes ts ≡ false
unfolding same
nameless bytes ts e = subst (λ (z : List Token). is_named bytes z ≡ false) (sym e) refl

-- an annex with the name `agree` has a name
agree_named : (bytes : List ℕ) (ms : List Marked) → is_agree bytes ms ≡ true → has_mark annex_name_mark ms ≡ true
agree_named bytes ms h =
    elim (cases_Bool (has_mark annex_name_mark ms)) [
      | inl has ↦ has
      | inr none ↦ absurd (both_ways (is_agree bytes ms) (nameless bytes (under annex_name_mark ms) (none_under annex_name_mark ms none)) h)
    ]

annex_has : (bytes : List ℕ) (P : Token → Type 0) (ms : List Marked) → Annexed P ms → is_agree bytes ms ≡ true → P (annex_of ms)
annex_has bytes P ms a h = first_text P ms a.texts (text_behind ms a.due a.paired (agree_named bytes ms h))

-- ---- segments

up_to_paired : (ks : List ℕ) (ms : List Marked) (due : Bool) → is_among ks annex_text_mark ≡ false → is_paired due ms ≡ true → is_paired due (up_to ks ms) ≡ true
up_to_paired ks [] due none h = h
up_to_paired ks (m ∷ ms) due none h =
    let parts = and_parts (not due || m.mark == annex_text_mark) (is_paired (m.mark == annex_name_mark) ms) h in
    go (is_among ks m.mark) due refl parts.0 (up_to_paired ks ms (m.mark == annex_name_mark) none parts.1)
  where
    go : (b c : Bool) → is_among ks m.mark ≡ b → (not c || m.mark == annex_text_mark) ≡ true → is_paired (m.mark == annex_name_mark) (up_to ks ms) ≡ true → is_paired c (if b then [] else m ∷ up_to ks ms) ≡ true
    go true true e here later = absurd (both_ways (is_among ks annex_text_mark) none (subst (λ (z : ℕ). is_among ks z ≡ true) (eqb-true m.mark annex_text_mark here) e))
    go true false e here later = refl
    go false c e here later = and_from (not c || m.mark == annex_text_mark) (is_paired (m.mark == annex_name_mark) (up_to ks ms)) here later

all_up_to : (Q : Marked → Type 0) (ks : List ℕ) (ms : List Marked) → All Q ms → All Q (up_to ks ms)
all_up_to Q ks [] all = all
all_up_to Q ks (m ∷ ms) all = go (is_among ks m.mark) (all_up_to Q ks ms (All-tail Q m ms all))
  where
    go : (b : Bool) → All Q (up_to ks ms) → All Q (if b then [] else m ∷ up_to ks ms)
    go true later = All-nil Q
    go false later = All-cons Q m (up_to ks ms) (All-head Q m ms all) later

-- what holds of all such tokens holds of each segment of them
each_part : (P : Token → Type 0) (ks : List ℕ) (R : List Marked → Type 0) → is_among ks annex_text_mark ≡ false → ((ms : List Marked) → Annexed P ms → R ms) → (ms : List Marked) → Annexed P ms → All R (segments ks ms)
each_part P ks R none holds [] a = All-nil R
each_part P ks R none holds (m ∷ ms) a =
    let parts = and_parts (not a.due || m.mark == annex_text_mark) (is_paired (m.mark == annex_name_mark) ms) a.paired in
    let behind = All-tail (IsTextOf P) m ms a.texts in
    let later = each_part P ks R none holds ms (record { due = m.mark == annex_name_mark; paired = parts.1; texts = behind }) in
    let pairs = and_from (not a.due || m.mark == annex_text_mark) (is_paired (m.mark == annex_name_mark) (up_to ks ms)) parts.0 (up_to_paired ks ms (m.mark == annex_name_mark) none parts.1) in
    let texts = All-cons (IsTextOf P) m (up_to ks ms) (All-head (IsTextOf P) m ms a.texts) (all_up_to (IsTextOf P) ks ms behind) in
    go (is_among ks m.mark) (holds (m ∷ up_to ks ms) (record { due = a.due; paired = pairs; texts = texts })) later
  where
    go : (b : Bool) → R (m ∷ up_to ks ms) → All R (segments ks ms) → All R (if b then (m ∷ up_to ks ms) ∷ segments ks ms else segments ks ms)
    go true here later = All-cons R (m ∷ up_to ks ms) (segments ks ms) here later
    go false here later = later

-- ---- declarations and packages

filtered : {A : Type 0} (P : A → Type 0) (keep : A → Bool) (xs : List A) → All (λ x. keep x ≡ true → P x) xs → All P (filter keep xs)
filtered P keep [] all = All-nil P
filtered {A = A} P keep (x ∷ xs) all =
    go (keep x) refl (filtered P keep xs (All-tail (λ y. keep y ≡ true → P y) x xs all))
  where
    go : (b : Bool) → keep x ≡ b → All P (filter keep xs) → All P (cond b (x ∷ filter keep xs) (filter keep xs))
    go true e later = All-cons P x (filter keep xs) (All-head (λ y. keep y ≡ true → P y) x xs all e) later
    go false e later = later

mapped : {A B : Type 0} (P : B → Type 0) (f : A → Option B) (xs : List A) → All (λ x. IfSome (f x) P) xs → All P (filter_map f xs)
mapped P f [] all = All-nil P
mapped {B = B} P f (x ∷ xs) all = go (f x) (All-head (λ y. IfSome (f y) P) x xs all) (mapped P f xs (All-tail (λ y. IfSome (f y) P) x xs all))
  where
    go : (o : Option B) → IfSome o P → All P (filter_map f xs) → All P (cons_option o (filter_map f xs))
    go None here later = later
    go (Some y) here later = All-cons P y (filter_map f xs) here later

annexes_have : (bytes : List ℕ) (P : Token → Type 0) (ms : List Marked) → Annexed P ms → All P (annexes_of bytes ms)
annexes_have bytes P ms a =
    let parts = segments (annex_name_mark ∷ []) ms in
    All-map P annex_of (filter (is_agree bytes) parts) (filtered (λ p. P (annex_of p)) (is_agree bytes) parts
    (each_part P (annex_name_mark ∷ []) (λ p. is_agree bytes p ≡ true → P (annex_of p)) refl (annex_has bytes P) ms a))

-- P holds of each annex of the declaration, and of the package
abbrev pub ItemHas : (Token → Type 0) → Item → Type 0
ItemHas P i = All P (item_annexes i)

abbrev pub PackageHas : (Token → Type 0) → Package → Type 0
PackageHas P p = All (ItemHas P) p.items

item_has : (bytes : List ℕ) (P : Token → Type 0) (ms : List Marked) → Annexed P ms → IfSome (item_of bytes ms) (ItemHas P)
item_has bytes P ms a = go (has_mark owner_mark ms) (has_mark declared_mark ms) (is_agree bytes ms) refl
  where
    go : (b c d : Bool) → is_agree bytes ms ≡ d
        → IfSome (if b then Some (item.Body (body_of bytes ms)) else (if c then Some (item.Frame (frame_of bytes ms)) else (if d then Some (item.Library (annex_of ms)) else None))) (ItemHas P)
    go true c d e = annexes_have bytes P ms a
    go false true d e = annexes_have bytes P ms a
    go false false true e = All-cons P (annex_of ms) [] (annex_has bytes P ms a e) (All-nil P)
    go false false false e = tt

package_has : (bytes : List ℕ) (P : Token → Type 0) (ms : List Marked) → Annexed P ms → PackageHas P (package_of bytes ms)
package_has bytes P ms a =
    let parts = parts_of_package ms in
    let Part = λ (p : List Marked). IfSome (item_of bytes p) (ItemHas P) in
    mapped (ItemHas P) (item_of bytes) (filter (begins_with item_mark) parts) (All-filter (begins_with item_mark) Part parts (each_part P part_marks Part refl (item_has bytes P) ms a))

-- each annex that the packages of a file declare is one among its tokens
pub file_has : (file : ℕ) (bytes : List ℕ) (tokens : List Token) (packages : List Package) → AreKept Aadl file [] bytes tokens → IsFile bytes tokens packages → All (PackageHas (IsAnnexOf bytes)) packages
file_has file bytes tokens packages kept read =
    let P = IsAnnexOf bytes in
    let ms = marked (terminals_of bytes tokens) tokens read.steps in
    let each = each_part P (package_mark ∷ []) (λ p. PackageHas P (package_of bytes p)) refl (package_has bytes P) ms (file_annexed file bytes tokens read.steps kept.read read.text) in
    subst (All (PackageHas P)) (sym read.told) (All-map (PackageHas P) (package_of bytes) (segments (package_mark ∷ []) ms) each)

-- ---- in order

joined_have : {A B : Type 0} (P : B → Type 0) (f : A → List B) (xs : List A) → All (λ x. All P (f x)) xs → All P (flat_map f xs)
joined_have P f [] all = All-nil P
joined_have P f (x ∷ xs) all = All-append P (f x) (flat_map f xs) (All-head (λ y. All P (f y)) x xs all) (joined_have P f xs (All-tail (λ y. All P (f y)) x xs all))

item_annexes_have : (bytes : List ℕ) (i : Item) → ItemHas (IsAnnexOf bytes) i → All (IsOneOf bytes) (annexes_of_item i)
item_annexes_have bytes i all = All-map (IsOneOf bytes) (λ (t : Token). (t, item_site i)) (item_annexes i) all

package_annexes_have : (bytes : List ℕ) (p : Package) → PackageHas (IsAnnexOf bytes) p → All (IsOneOf bytes) (annexes_of_package p)
package_annexes_have bytes p all = joined_have (IsOneOf bytes) annexes_of_item p.items (All-weaker (ItemHas (IsAnnexOf bytes)) (λ i. All (IsOneOf bytes) (annexes_of_item i)) (item_annexes_have bytes) p.items all)

-- so they are one by one
pub annexes_are_among : (file : ℕ) (bytes : List ℕ) (tokens : List Token) (packages : List Package) → AreKept Aadl file [] bytes tokens → IsFile bytes tokens packages → All (IsOneOf bytes) (annexes_of_packages packages)
annexes_are_among file bytes tokens packages kept read =
    joined_have (IsOneOf bytes) annexes_of_package packages
    (All-weaker (PackageHas (IsAnnexOf bytes)) (λ p. All (IsOneOf bytes) (annexes_of_package p)) (package_annexes_have bytes) packages (file_has file bytes tokens packages kept read))
