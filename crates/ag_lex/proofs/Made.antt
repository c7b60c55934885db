-- Pieces that are made one behind the other: what ends a name, a number or a symbol, and that they break no rule.
use Rattle.std.proofs.Common.{◌≡◌, ℕ, ◌<◌, ◌≤◌, Bool, true, false, ◌||◌, ◌==◌, List, [], ◌∷◌, ◌++◌, length, take, drop, refl, sym, ap, subst, ◌∙◌, inl, inr, arith}
use Rattle.std.specs.Prelude.{codes, nat_eq}
use Rattle.std.specs.Char.{is_ascii_alphabetic, is_ascii_digit}
use Rattle.std.specs.List.{list_any, prefix_len, starts_with}
use Rattle.std.specs.Str.{IsUtf8, bytes_eq}
use Rattle.std.proofs.lemmas.Bool.{cases_lt, or_cases, or_left, or_parts, or_right, both_ways}
use Rattle.std.proofs.lemmas.List.{append_assoc, append_cancel_left, length-append, take_at, drop_at}
use Rattle.std.proofs.lemmas.Slice.Eq.{bytes_eq-Decides}
use Rattle.ag_lex.specs.declared.token.Language.{Language}
use Rattle.ag_lex.specs.declared.token.Language.TheVariants.{Aadl}
use Rattle.ag_lex.specs.declared.token.TokenKind.TheVariants.{Name, Number, Symbol}
use Rattle.ag_lex.specs.Characters.{is_word_byte, is_number_byte, begins}
use Rattle.ag_lex.specs.Spelling.{IsToken, is_name, is_number, is_symbol, is_sign_alone, goes_on, long_symbols}
use Rattle.ag_lex.specs.Tokens.{Piece, AreRead, tokens_of}
use Rattle.ag_lex.specs.Rules.{AreFine}
use Rattle.ag_lex.specs.Answers.{AreKept}
use Rattle.ag_lex.proofs.Fronts.{prefix_len-front, longer_front, starts_from, head, run_begins, run_all, begins-append}
use Rattle.ag_lex.proofs.KindsApart.{filled, group_of, group_is, letter_is_word, digit_is_number, no_annex_symbol}
use Rattle.ag_lex.proofs.Longest.{name_found, number_found, signs, one_byte}
use Rattle.ag_lex.proofs.Reaching.{reach_before, breaks_some}
use Rattle.ag_lex.proofs.Whole.{no_end_of_text}

-- ---- names

pub name_ends : (l : Language) (own rest : List ℕ) → is_name own ≡ true → begins is_word_byte rest ≡ false → IsToken l Name own rest
name_ends l own rest is ends =
    let here = own ++ rest in
    let n = prefix_len is_word_byte here in
    let len : n ≡ length own = prefix_len-front is_word_byte own rest (run_all is_ascii_alphabetic is_word_byte own letter_is_word is) ends in
    let front : take n here ≡ own = ap (λ (k : ℕ). take k here) len ∙ take_at own rest (length own) refl in
    let back : drop n here ≡ rest = ap (λ (k : ℕ). drop k here) len ∙ drop_at own rest (length own) refl in
    let found = name_found l here (begins-append is_ascii_alphabetic own rest (run_begins is_ascii_alphabetic is_word_byte own is)) in
    subst (λ (z : List ℕ). IsToken l Name own z) back (subst (λ (z : List ℕ). IsToken l Name z (drop n here)) front found)

-- ---- numbers

-- what goes on a number, or begins a fraction
abbrev widens : Language → ℕ → Bool
widens l b = is_number_byte l b || b == 46

none_of_both : (l : Language) (rest : List ℕ) → begins (widens l) rest ≡ false → (begins (is_number_byte l) rest ≡ false) × (begins (λ b. b == 46) rest ≡ false)
none_of_both l [] h = (refl, refl)
none_of_both l (b ∷ bs) h = or_parts (is_number_byte l b) (b == 46) h

pub number_ends : (l : Language) (own rest : List ℕ) → is_number l own ≡ true → begins (widens l) rest ≡ false → IsToken l Number own rest
number_ends l own rest is ends =
    let here = own ++ rest in
    let none = none_of_both l rest ends in
    let n = prefix_len (is_number_byte l) here in
    let len : n ≡ length own = prefix_len-front (is_number_byte l) own rest (run_all is_ascii_digit (is_number_byte l) own (digit_is_number l) is) none.0 in
    let front : take n here ≡ own = ap (λ (k : ℕ). take k here) len ∙ take_at own rest (length own) refl in
    let back : drop n here ≡ rest = ap (λ (k : ℕ). drop k here) len ∙ drop_at own rest (length own) refl in
    let found =
    number_found l here (begins-append is_ascii_digit own rest (run_begins is_ascii_digit (is_number_byte l) own is)) (λ fraction after e f.
    both_ways (begins (λ b. b == 46) rest) none.1 (ap (begins (λ b. b == 46)) (sym back ∙ e))) in
    subst (λ (z : List ℕ). IsToken l Number own z) back (subst (λ (z : List ℕ). IsToken l Number z (drop n here)) front found)

-- ---- symbols

-- one of these lists begins with own and this byte
abbrev begun : List (List ℕ) → List ℕ → ℕ → Bool
begun ss own b = list_any (λ s. starts_with nat_eq s (own ++ b ∷ [])) ss

begun_by : (ss : List (List ℕ)) (own more ds : List ℕ) (b : ℕ) → list_any (bytes_eq more) ss ≡ true → more ≡ own ++ (b ∷ ds) → begun ss own b ≡ true
begun_by [] own more ds b any e = absurd cc
begun_by (s ∷ ss) own more ds b any e =
    elim (or_cases (bytes_eq more s) (list_any (bytes_eq more) ss) any) [
      | inl this ↦
          let same : more ≡ s = (bytes_eq-Decides more s).0 this in
          or_left (starts_with nat_eq s (own ++ b ∷ [])) (begun ss own b) (starts_from s (own ++ b ∷ []) ds (sym same ∙ e ∙ sym (append_assoc own (b ∷ []) ds)))
      | inr later ↦ or_right (starts_with nat_eq s (own ++ b ∷ [])) (begun ss own b) (begun_by ss own more ds b later e)
    ]

-- where a longer one of these stands, it begins with own and the next byte
next_begun : (ss : List (List ℕ)) (own rest more after : List ℕ) → list_any (bytes_eq more) ss ≡ true → length own < length more → own ++ rest ≡ more ++ after → begins (begun ss own) rest ≡ true
next_begun ss own rest more after any longer e =
    let d = longer_front own rest more after e (omega arith) in
    let split : more ≡ own ++ d.0 = d.1 in
    let back : rest ≡ d.0 ++ after = append_cancel_left own rest (d.0 ++ after) (e ∙ ap (λ (z : List ℕ). z ++ after) split ∙ append_assoc own d.0 after) in
    next d.0 split back
  where
    next : (ds : List ℕ) → more ≡ own ++ ds → rest ≡ ds ++ after → begins (begun ss own) rest ≡ true
    next [] split back = absurd (omega (arith, ap length split, length-append own []))
    next (b ∷ ds) split back = rw back (begun_by ss own more ds b any split)

abbrev all_marks : List (List ℕ)
all_marks = codes "--" ∷ codes "{**" ∷ long_symbols

longest_of : (own rest more after : List ℕ) → begins (goes_on own) rest ≡ false → list_any (bytes_eq more) all_marks ≡ true → own ++ rest ≡ more ++ after → length more ≤ length own
longest_of own rest more after ends any e =
    elim (cases_lt (length own) (length more)) [
      | inl longer ↦ absurd (both_ways (begins (begun all_marks own) rest) ends (next_begun all_marks own rest more after any longer e))
      | inr fits ↦ fits
    ]

a_comment : list_any (bytes_eq (codes "--")) all_marks ≡ true
a_comment = or_left (bytes_eq (codes "--") (codes "--")) (list_any (bytes_eq (codes "--")) (codes "{**" ∷ long_symbols)) refl

an_annex : list_any (bytes_eq (codes "{**")) all_marks ≡ true
an_annex = or_right (bytes_eq (codes "{**") (codes "--")) (list_any (bytes_eq (codes "{**")) (codes "{**" ∷ long_symbols)) (or_left (bytes_eq (codes "{**") (codes "{**")) (list_any (bytes_eq (codes "{**")) long_symbols) refl)

long_one : (more : List ℕ) → list_any (bytes_eq more) long_symbols ≡ true → list_any (bytes_eq more) all_marks ≡ true
long_one more any = or_right (bytes_eq more (codes "--")) (list_any (bytes_eq more) (codes "{**" ∷ long_symbols)) (or_right (bytes_eq more (codes "{**")) (list_any (bytes_eq more) long_symbols) any)

-- where an annex stands, no symbol does that doesn't go on
no_annex_here : (own rest after : List ℕ) → is_symbol own ≡ true → begins (goes_on own) rest ≡ false → own ++ rest ≡ codes "{**" ++ after → ⊥
no_annex_here own rest after is ends e =
    let long = longest_of own rest (codes "{**") after ends an_annex e in
    let d = longer_front (codes "{**") after own rest (sym e) long in
    let bad : is_symbol (123 ∷ 42 ∷ 42 ∷ d.0) ≡ true = rw d.1 at is in
    both_ways (is_symbol (123 ∷ 42 ∷ 42 ∷ d.0)) (no_annex_symbol d.0) bad

pub symbol_ends : (l : Language) (own rest : List ℕ) → is_symbol own ≡ true → begins (goes_on own) rest ≡ false → IsToken l Symbol own rest
symbol_ends l own rest is ends =
    record {
      spelled = is;
      longest = λ more after lex e.
          let some = filled l Symbol own is in
          elim lex [
            | inl k ↦ elim (signs l k.0 more (group_is l k.0 more after k.1 ∙ ap (λ (z : List ℕ). group_of (head z)) (sym e) ∙ sym (group_is l Symbol own rest is)) k.1) [
              | inl annex ↦ absurd (no_annex_here own rest ((annex.0 ++ codes "**}") ++ after) is ends (e ∙ ap (λ (z : List ℕ). z ++ after) annex.1))
              | inr symbol ↦ elim (or_cases (list_any (bytes_eq more) long_symbols) (is_sign_alone more) symbol) [
                | inl long ↦ longest_of own rest more after ends (long_one more long) e
                | inr short ↦ let one = one_byte more short in omega arith
              ]
            ]
            | inr mark ↦ elim mark [
              | inl dashes ↦ longest_of own rest more after ends (rw dashes a_comment) e
              | inr opening ↦ longest_of own rest more after ends (rw opening an_annex) e
            ]
          ];
    }

-- ---- texts

pub pieces_keep : (l : Language) (file : ℕ) (before text : List ℕ) (pieces : List Piece) → AreRead l pieces text [] → AreFine l pieces → (l ≡ Aadl → IsUtf8 text) → AreKept l file before text (tokens_of file before pieces)
pieces_keep l file before text pieces read fine whole =
    record {
      read = record { pieces = pieces; read = read; told = refl };
      kept = λ n rule b. elim b [
        | inl no_text ↦ no_end_of_text text n (whole no_text.1) no_text.2
        | inr there ↦
            let some = breaks_some l rule (drop n text) there.broken in
            let reach = reach_before l pieces there.pieces text [] (drop n text) rule read fine there.before there.broken in
            omega arith
      ];
    }
