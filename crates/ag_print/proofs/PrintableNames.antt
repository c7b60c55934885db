-- Names that tokens under the marks of names declare are printable.
use Rattle.std.proofs.Common.{◌≡◌, ℕ, zero, suc, Bool, true, false, ◌==◌, ◌&&◌, not, if◌then◌else◌, List, [], ◌∷◌, ◌++◌, length, take, refl, sym, ap, subst, ◌∙◌, inl, inr}
use Rattle.std.specs.Prelude.{slice_index_or, nat_le, codes}
use Rattle.std.specs.Char.{is_ascii_alphabetic}
use Rattle.std.specs.List.{list_all}
use Rattle.std.proofs.lemmas.Bool.{both_ways, cases_Bool, and_parts, and_from, not_from_false, not-true, eqb-true}
use Rattle.ag_lex.specs.declared.token.Token.{Token}
use Rattle.ag_lex.specs.declared.token.TokenKind.TheVariants.{Name}
use Rattle.ag_lex.specs.Characters.{is_word_byte}
use Rattle.ag_lex.specs.Spelling.{is_name}
use Rattle.ag_aadl.specs.declared.marked.Marked.{Marked}
use Rattle.ag_aadl.specs.Marked.{own, under, has_mark, first_of}
use Rattle.ag_aadl.specs.Marks.{part_mark, class_body_mark}
use Rattle.ag_aadl.specs.Meaning.{joined, ident_under, ident_of, some_ident, path_of, class_of}
use Rattle.ag_aadl.specs.Terminals.{name}
use Rattle.ag_aadl.specs.Words.{terminal_of}
use Rattle.ag_aadl.specs.Names.{put_before, name_parts}
use Rattle.ag_print.specs.Printable.{is_plain_name, is_printable_ident, is_printable_option, is_printable_package_name, is_printable_owner, is_printable_class}
use Rattle.ag_print.proofs.Fitting.{is_name_mark, is_fit}
use Rattle.ag_print.proofs.Segmented.{given, some_under}
use Rattle.ag_print.proofs.Situations.{all_wider}

-- ---- the parts of a name

abbrev is_no_colon : ℕ → Bool
is_no_colon b = not (b == 58)

letter_no_colon : (b : ℕ) → is_ascii_alphabetic b ≡ true → is_no_colon b ≡ true
letter_no_colon b h =
    elim (cases_Bool (b == 58)) [
      | inl colon ↦ absurd (both_ways (is_ascii_alphabetic 58) refl (subst (λ (z : ℕ). is_ascii_alphabetic z ≡ true) (eqb-true b 58 colon) h))
      | inr other ↦ not_from_false (b == 58) other
    ]

word_no_colon : (b : ℕ) → is_word_byte b ≡ true → is_no_colon b ≡ true
word_no_colon b h =
    elim (cases_Bool (b == 58)) [
      | inl colon ↦ absurd (both_ways (is_word_byte 58) refl (subst (λ (z : ℕ). is_word_byte z ≡ true) (eqb-true b 58 colon) h))
      | inr other ↦ not_from_false (b == 58) other
    ]

name_no_colon : (text : List ℕ) → is_name text ≡ true → list_all is_no_colon text ≡ true
name_no_colon [] h = refl
name_no_colon (b ∷ bs) h =
    let parts = and_parts (is_ascii_alphabetic b) (list_all is_word_byte bs) h in
    and_from (is_no_colon b) (list_all is_no_colon bs) (letter_no_colon b parts.0) (all_wider is_word_byte is_no_colon bs word_no_colon parts.1)

plain_no_colon : (text : List ℕ) → is_plain_name text ≡ true → list_all is_no_colon text ≡ true
plain_no_colon text h = name_no_colon text (and_parts (is_name text) (nat_le (length text) 255 && terminal_of Name text == name) h).0

byte_before : (b : ℕ) (text : List ℕ) → (b == 58) ≡ false → name_parts (b ∷ text) ≡ put_before b (name_parts text)
byte_before b [] h = refl
byte_before b (c ∷ cs) h = ap (λ (z : Bool). if z && c == 58 then [] ∷ name_parts cs else put_before b (name_parts (c ∷ cs))) h

one_part : (text : List ℕ) → list_all is_no_colon text ≡ true → name_parts text ≡ text ∷ []
one_part [] h = refl
one_part (b ∷ bs) h =
    let parts = and_parts (is_no_colon b) (list_all is_no_colon bs) h in
    byte_before b bs (not-true (b == 58) parts.0) ∙ ap (put_before b) (one_part bs parts.1)

first_part : (text rest : List ℕ) → list_all is_no_colon text ≡ true → name_parts (text ++ (codes "::" ++ rest)) ≡ text ∷ name_parts rest
first_part [] rest h = refl
first_part (b ∷ bs) rest h =
    let parts = and_parts (is_no_colon b) (list_all is_no_colon bs) h in
    byte_before b (bs ++ (codes "::" ++ rest)) (not-true (b == 58) parts.0) ∙ ap (put_before b) (first_part bs rest parts.1)

-- a token with plain bytes
abbrev pub is_plain : List ℕ → Token → Bool
is_plain bytes t = is_plain_name (own bytes t)

joined_plain : (bytes : List ℕ) (t : Token) (ts : List Token) → list_all (is_plain bytes) (t ∷ ts) ≡ true → list_all is_plain_name (name_parts (joined bytes (t ∷ ts))) ≡ true
joined_plain bytes t [] h =
    let one = and_parts (is_plain bytes t) true h in
    subst (λ (z : List (List ℕ)). list_all is_plain_name z ≡ true) (sym (one_part (own bytes t) (plain_no_colon (own bytes t) one.0))) h
joined_plain bytes t (u ∷ ts) h =
    let parts = and_parts (is_plain bytes t) (list_all (is_plain bytes) (u ∷ ts)) h in
    let rest = joined bytes (u ∷ ts) in
    let split = first_part (own bytes t) rest (plain_no_colon (own bytes t) parts.0) in
    subst (λ (z : List (List ℕ)). list_all is_plain_name z ≡ true) (sym split) (and_from (is_plain bytes t) (list_all is_plain_name (name_parts rest)) parts.0 (joined_plain bytes u ts parts.1))

-- ---- tokens under a mark

pub under_plain : (bytes : List ℕ) (k : ℕ) (ms : List Marked) → is_name_mark k ≡ true → list_all (is_fit bytes) ms ≡ true → list_all (is_plain bytes) (under k ms) ≡ true
under_plain bytes k [] named h = refl
under_plain bytes k (m ∷ ms) named h =
    let parts = and_parts (is_fit bytes m) (list_all (is_fit bytes) ms) h in
    go (m.mark == k) refl parts.0 (under_plain bytes k ms named parts.1)
  where
    go : (b : Bool) → (m.mark == k) ≡ b → is_fit bytes m ≡ true → list_all (is_plain bytes) (under k ms) ≡ true → list_all (is_plain bytes) (if b then m.token ∷ under k ms else under k ms) ≡ true
    go true e fit later =
        let there = subst (λ (z : ℕ). is_name_mark z ≡ true) (sym (eqb-true m.mark k e)) named in
        and_from (is_plain bytes m.token) (list_all (is_plain bytes) (under k ms)) (given (is_name_mark m.mark) (is_plain bytes m.token) fit there) later
    go false e fit later = later

-- the first name under a mark
pub first_plain : (bytes : List ℕ) (k : ℕ) (ms : List Marked) → is_name_mark k ≡ true → list_all (is_fit bytes) ms ≡ true → has_mark k ms ≡ true → is_printable_ident (ident_under bytes k ms) ≡ true
first_plain bytes k ms named fit has =
    let found = some_under k ms has in
    let all = subst (λ (z : List Token). list_all (is_plain bytes) z ≡ true) found.2 (under_plain bytes k ms named fit) in
    subst (λ (z : List Token). is_plain_name (own bytes (first_of z)) ≡ true) (sym found.2) (and_parts (is_plain bytes found.0) (list_all (is_plain bytes) found.1) all).0

-- a package's name
pub pname_plain : (bytes : List ℕ) (ms : List Marked) → list_all (is_fit bytes) ms ≡ true → has_mark part_mark ms ≡ true → is_printable_package_name (ident_of bytes (under part_mark ms)) ≡ true
pname_plain bytes ms fit has =
    let found = some_under part_mark ms has in
    let all = subst (λ (z : List Token). list_all (is_plain bytes) z ≡ true) found.2 (under_plain bytes part_mark ms refl fit) in
    subst (λ (z : List Token). list_all is_plain_name (name_parts (joined bytes z)) ≡ true) (sym found.2) (joined_plain bytes found.0 found.1 all)

-- ---- classifiers

take_all : {A : Type 0} (p : A → Bool) (n : ℕ) (xs : List A) → list_all p xs ≡ true → list_all p (take n xs) ≡ true
take_all p zero xs h = refl
take_all p (suc n) [] h = refl
take_all p (suc n) (x ∷ xs) h =
    let parts = and_parts (p x) (list_all p xs) h in
    and_from (p x) (list_all p (take n xs)) parts.0 (take_all p n xs parts.1)

index_all : {A : Type 0} (p : A → Bool) (xs : List A) (i : ℕ) (d : A) → list_all p xs ≡ true → p d ≡ true → p (slice_index_or xs i d) ≡ true
index_all p [] i d h e = e
index_all p (x ∷ xs) zero d h e = (and_parts (p x) (list_all p xs) h).0
index_all p (x ∷ xs) (suc i) d h e = index_all p xs i d (and_parts (p x) (list_all p xs) h).1 e

owner_plain : (bytes : List ℕ) (ts : List Token) → list_all (is_plain bytes) ts ≡ true → is_printable_owner (some_ident bytes ts) ≡ true
owner_plain bytes [] h = refl
owner_plain bytes (t ∷ ts) h = joined_plain bytes t ts h

body_plain : (bytes : List ℕ) (ts : List Token) → list_all (is_plain bytes) ts ≡ true → is_printable_option (some_ident bytes (take 1 ts)) ≡ true
body_plain bytes [] h = refl
body_plain bytes (t ∷ ts) h = (and_parts (is_plain bytes t) (list_all (is_plain bytes) ts) h).0

path_plain : (bytes : List ℕ) (ts bodies : List Token) → list_all (is_plain bytes) ts ≡ true → list_all (is_plain bytes) bodies ≡ true → is_printable_class (path_of bytes ts bodies) ≡ true
path_plain bytes [] bodies h e = refl
path_plain bytes (t ∷ ts) bodies h e =
    let owner = some_ident bytes (take (length ts) (t ∷ ts)) in
    let last = slice_index_or (t ∷ ts) (length ts) t in
    let body = some_ident bytes (take 1 bodies) in
    let first = (and_parts (is_plain bytes t) (list_all (is_plain bytes) ts) h).0 in
    and_from (is_printable_owner owner) (is_plain bytes last && is_printable_option body) (owner_plain bytes (take (length ts) (t ∷ ts)) (take_all (is_plain bytes) (length ts) (t ∷ ts) h))
    (and_from (is_plain bytes last) (is_printable_option body) (index_all (is_plain bytes) (t ∷ ts) (length ts) t h first) (body_plain bytes bodies e))

pub class_plain : (bytes : List ℕ) (ms : List Marked) → list_all (is_fit bytes) ms ≡ true → is_printable_class (class_of bytes ms) ≡ true
class_plain bytes ms fit = path_plain bytes (under part_mark ms) (under class_body_mark ms) (under_plain bytes part_mark ms refl fit) (under_plain bytes class_body_mark ms refl fit)
