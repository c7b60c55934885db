-- The place one byte on.
use Rattle.std.proofs.Common.{◌≡◌, ℕ, ◌+◌, ◌<◌, ◌≤◌, true, false, cond, eqb, List, [], ◌∷◌, ◌++◌, length, get_or, take, refl, sym, ap, ◌∙◌, append_assoc, arith}
use Rattle.std.specs.Prelude.{count_by}
use Rattle.std.specs.List.{suffix_len, prefix_len}
use Rattle.std.proofs.lemmas.Bool.{eq-eqb, ne_eqb}
use Rattle.std.proofs.lemmas.List.{reverse-append, take_more}
use Rattle.std.proofs.lemmas.List.Sums.{sum_by_push, count_by-le-length, suffix_len-le-length}
use Rattle.ag_base.specs.declared.place.Place.{Place}
use Rattle.ag_lex.specs.Characters.{is_line_byte}
use Rattle.ag_lex.specs.Places.{place_of}

suffix_push : (xs : List ℕ) (b : ℕ) → suffix_len is_line_byte (xs ++ b ∷ []) ≡ cond (is_line_byte b) (1 + suffix_len is_line_byte xs) 0
suffix_push xs b = ap (prefix_len is_line_byte) (reverse-append xs (b ∷ []))

pub behind_line_feed : (file : ℕ) (before : List ℕ) (b : ℕ) (place : Place) → b ≡ 10 → place ≡ place_of file before → record { file = place.file; line = place.line + 1; column = 1 } ≡ place_of file (before ++ b ∷ [])
unfolding place_of
behind_line_feed file before b place is e =
    let test : eqb b 10 ≡ true = eq-eqb b 10 is in
    let lines : count_by (λ b. eqb b 10) (before ++ b ∷ []) ≡ count_by (λ b. eqb b 10) before + 1 = sum_by_push (λ b. cond (eqb b 10) 1 0) before b ∙ rw test refl in
    let columns : suffix_len is_line_byte (before ++ b ∷ []) ≡ 0 = suffix_push before b ∙ rw test refl in
    rw (e, lines, columns) refl

pub behind_other : (file : ℕ) (before : List ℕ) (b : ℕ) (place : Place) → (b ≡ 10 → ⊥) → place ≡ place_of file before → record { file = place.file; line = place.line; column = place.column + 1 } ≡ place_of file (before ++ b ∷ [])
unfolding place_of
behind_other file before b place is e =
    let test : eqb b 10 ≡ false = ne_eqb b 10 is in
    let lines : count_by (λ b. eqb b 10) (before ++ b ∷ []) ≡ count_by (λ b. eqb b 10) before = sum_by_push (λ b. cond (eqb b 10) 1 0) before b ∙ rw test (omega arith) in
    let columns : suffix_len is_line_byte (before ++ b ∷ []) ≡ suffix_len is_line_byte before + 1 = suffix_push before b ∙ rw test (omega arith) in
    rw (e, lines, columns) refl

-- line and column are at most one more than the bytes before
pub line_within : (file : ℕ) (before : List ℕ) (place : Place) → place ≡ place_of file before → place.line ≤ length before + 1
unfolding place_of
line_within file before place e = let h = count_by-le-length (λ b. eqb b 10) before in rw e (omega arith)

pub column_within : (file : ℕ) (before : List ℕ) (place : Place) → place ≡ place_of file before → place.column ≤ length before + 1
unfolding place_of
column_within file before place e = let h = suffix_len-le-length is_line_byte before in rw e (omega arith)

pub file_is : (file : ℕ) (before : List ℕ) (place : Place) → place ≡ place_of file before → place.file ≡ file
unfolding place_of
file_is file before place e = rw e refl

pub one_more : (before over : List ℕ) (i : ℕ) → i < length over → before ++ take (i + 1) over ≡ (before ++ take i over) ++ get_or over i 0 ∷ []
one_more before over i lt = ap (λ (z : List ℕ). before ++ z) (take_more over i 0 lt) ∙ sym (append_assoc before (take i over) (get_or over i 0 ∷ []))
