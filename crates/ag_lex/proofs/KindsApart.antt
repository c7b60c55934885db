-- The first byte of a token, and that a text spells tokens of one kind.
use Rattle.std.proofs.Common.{◌≡◌, ℕ, ◌<◌, ◌≤◌, Bool, true, false, cond, eqb, leb, ◌&&◌, List, [], ◌∷◌, ◌++◌, length, refl, sym, ap, ◌∙◌, inl, inr, arith}
use Rattle.std.specs.Prelude.{codes}
use Rattle.std.specs.Char.{is_ascii_alphabetic, is_ascii_digit}
use Rattle.std.specs.List.{list_all, list_any}
use Rattle.std.specs.Str.{bytes_eq}
use Rattle.std.proofs.lemmas.Bool.{or_cases, and_parts, both_ways, leb-true}
use Rattle.std.proofs.lemmas.Bool.Decides.{nat_tests}
use Rattle.std.proofs.lemmas.List.Folds.{list_all-append}
use Rattle.std.proofs.lemmas.Slice.Eq.{bytes_eq-Decides}
use Rattle.ag_lex.specs.declared.token.Language.{Language}
use Rattle.ag_lex.specs.declared.token.Language.TheVariants.{Aadl, Agree}
use Rattle.ag_lex.specs.declared.token.TokenKind.{TokenKind}
use Rattle.ag_lex.specs.declared.token.TokenKind.TheVariants.{Name, Number, Real, Text, Annex, Symbol}
use Rattle.ag_lex.specs.Characters.{is_space, is_bad_byte, is_word_byte, is_number_byte, is_sign, begins}
use Rattle.ag_lex.specs.Spelling.{Spells, is_number, is_symbol, is_sign_alone, long_symbols}
use Rattle.ag_lex.proofs.Fronts.{begins-append, begins-head, begins_filled, head, head-append, run_begins, run_all}

-- what a token of the kind begins with
abbrev pub leads : TokenKind → ℕ → Bool
leads Name b = is_ascii_alphabetic b
leads Number b = is_ascii_digit b
leads Real b = is_ascii_digit b
leads Text b = eqb b 34
leads Annex b = eqb b 123
leads Symbol b = is_sign b

led_by_one : (p : ℕ → Bool) (own : List ℕ) (ss : List (List ℕ)) → list_all (λ s. begins p s) ss ≡ true → list_any (bytes_eq own) ss ≡ true → begins p own ≡ true
led_by_one p own [] all any = absurd cc
led_by_one p own (s ∷ ss) all any =
    let parts = and_parts (begins p s) (list_all (λ s. begins p s) ss) all in
    elim (or_cases (bytes_eq own s) (list_any (bytes_eq own) ss) any) [
      | inl this ↦ let e : own ≡ s = (bytes_eq-Decides own s).0 this in rw e parts.0
      | inr later ↦ led_by_one p own ss parts.1 later
    ]

symbol_led : (own : List ℕ) → is_symbol own ≡ true → begins is_sign own ≡ true
unfolding long_symbols
symbol_led own h =
    elim (or_cases (list_any (bytes_eq own) long_symbols) (is_sign_alone own) h) [
      | inl long ↦ led_by_one is_sign own long_symbols refl long
      | inr alone ↦ led_alone own alone
    ]
  where
    led_alone : (own : List ℕ) → is_sign_alone own ≡ true → begins is_sign own ≡ true
    led_alone [] h = absurd cc
    led_alone (b ∷ []) h = h
    led_alone (b ∷ c ∷ bs) h = absurd cc

pub led : (l : Language) (k : TokenKind) (own : List ℕ) → Spells l k own → begins (leads k) own ≡ true
led l Name own s = run_begins is_ascii_alphabetic is_word_byte own s
led l Number own s = run_begins is_ascii_digit (is_number_byte l) own s
led l Real own s = let e = s.2 in rw e (begins-append is_ascii_digit s.0 (46 ∷ s.1) (run_begins is_ascii_digit (is_number_byte l) s.0 s.3))
led l Text own s = let e = s.1 in rw e refl
led l Annex own s = let e = s.1 in rw e refl
led l Symbol own s = symbol_led own s

pub filled : (l : Language) (k : TokenKind) (own : List ℕ) → Spells l k own → 0 < length own
filled l k own s = begins_filled (leads k) own (led l k own s)

-- kinds that may begin alike, and the group of a first byte
abbrev pub group : TokenKind → ℕ
group Name = 0
group Number = 1
group Real = 1
group Text = 2
group Annex = 3
group Symbol = 3

abbrev pub group_of : ℕ → ℕ
group_of b = cond (is_ascii_alphabetic b) 0 (cond (is_ascii_digit b) 1 (cond (eqb b 34) 2 3))

pub group_led : (k : TokenKind) (b : ℕ) → leads k b ≡ true → group k ≡ group_of b
group_led Name b h = grind (arith, nat_tests)
group_led Number b h = grind (arith, nat_tests)
group_led Real b h = grind (arith, nat_tests)
group_led Text b h = grind (arith, nat_tests)
group_led Annex b h = grind (arith, nat_tests)
group_led Symbol b h = grind (arith, nat_tests)

pub group_is : (l : Language) (k : TokenKind) (own rest : List ℕ) → Spells l k own → group k ≡ group_of (head (own ++ rest))
group_is l k own rest s = group_led k (head own) (begins-head (leads k) own (led l k own s)) ∙ ap group_of (sym (head-append own rest (filled l k own s)))

pub no_space : (k : TokenKind) (b : ℕ) → leads k b ≡ true → is_space b ≡ false
no_space Name b h = grind (arith, nat_tests)
no_space Number b h = grind (arith, nat_tests)
no_space Real b h = grind (arith, nat_tests)
no_space Text b h = grind (arith, nat_tests)
no_space Annex b h = grind (arith, nat_tests)
no_space Symbol b h = grind (arith, nat_tests)

pub not_bad : (k : TokenKind) (b : ℕ) → leads k b ≡ true → is_bad_byte b ≡ false
not_bad Name b h = grind (arith, nat_tests)
not_bad Number b h = grind (arith, nat_tests)
not_bad Real b h = grind (arith, nat_tests)
not_bad Text b h = grind (arith, nat_tests)
not_bad Annex b h = grind (arith, nat_tests)
not_bad Symbol b h = grind (arith, nat_tests)

-- ---- bytes of names and numbers

pub letter_is_word : (b : ℕ) → is_ascii_alphabetic b ≡ true → is_word_byte b ≡ true
letter_is_word b h = grind (arith, nat_tests)

pub digit_is_word : (b : ℕ) → is_ascii_digit b ≡ true → is_word_byte b ≡ true
digit_is_word b h = grind (arith, nat_tests)

pub digit_is_number : (l : Language) (b : ℕ) → is_ascii_digit b ≡ true → is_number_byte l b ≡ true
digit_is_number Aadl b h = grind (arith, nat_tests)
digit_is_number Agree b h = h

pub point_is_none : (l : Language) → is_number_byte l 46 ≡ false
point_is_none Aadl = refl
point_is_none Agree = refl

-- ---- one kind

no_point : (l : Language) (own number fraction : List ℕ) → is_number l own ≡ true → own ≡ number ++ (46 ∷ fraction) → ⊥
no_point l own number fraction h e =
    let all : list_all (is_number_byte l) (number ++ (46 ∷ fraction)) ≡ true = rw e at (run_all is_ascii_digit (is_number_byte l) own (digit_is_number l) h) in
    let split : (list_all (is_number_byte l) number && list_all (is_number_byte l) (46 ∷ fraction)) ≡ true = sym (list_all-append (is_number_byte l) number (46 ∷ fraction)) ∙ all in
    let later = and_parts (list_all (is_number_byte l) number) (list_all (is_number_byte l) (46 ∷ fraction)) split in
    let at = and_parts (is_number_byte l 46) (list_all (is_number_byte l) fraction) later.1 in
    both_ways (is_number_byte l 46) (point_is_none l) at.0

-- no symbol begins with the mark of an annex, or with that of a comment
pub no_annex_symbol : (o : List ℕ) → is_symbol (123 ∷ 42 ∷ 42 ∷ o) ≡ false
unfolding long_symbols
no_annex_symbol o = refl

pub no_comment_symbol : (o : List ℕ) → is_symbol (45 ∷ 45 ∷ o) ≡ false
unfolding long_symbols
no_comment_symbol o = refl

pub one_kind : (l : Language) (k j : TokenKind) (own : List ℕ) → group k ≡ group j → Spells l k own → Spells l j own → k ≡ j
one_kind l Name Name own g s t = refl
one_kind l Number Number own g s t = refl
one_kind l Number Real own g s t = absurd (no_point l own t.0 t.1 s t.2)
one_kind l Real Number own g s t = absurd (no_point l own s.0 s.1 t s.2)
one_kind l Real Real own g s t = refl
one_kind l Text Text own g s t = refl
one_kind l Annex Annex own g s t = refl
one_kind l Annex Symbol own g s t = let h : is_symbol (codes "{**" ++ (s.0 ++ codes "**}")) ≡ true = rw s.1 at t in absurd (both_ways (is_symbol (codes "{**" ++ (s.0 ++ codes "**}"))) (no_annex_symbol (s.0 ++ codes "**}")) h)
one_kind l Symbol Annex own g s t = let h : is_symbol (codes "{**" ++ (t.0 ++ codes "**}")) ≡ true = rw t.1 at s in absurd (both_ways (is_symbol (codes "{**" ++ (t.0 ++ codes "**}"))) (no_annex_symbol (t.0 ++ codes "**}")) h)
one_kind l Symbol Symbol own g s t = refl
one_kind l _ _ own g s t = absurd (omega arith)

-- a symbol has at most three bytes
pub symbol_short : (own : List ℕ) → is_symbol own ≡ true → length own ≤ 3
unfolding long_symbols
symbol_short own h =
    elim (or_cases (list_any (bytes_eq own) long_symbols) (is_sign_alone own) h) [
      | inl long ↦ short_one own long_symbols refl long
      | inr alone ↦ short_alone own alone
    ]
  where
    short_one : (own : List ℕ) (ss : List (List ℕ)) → list_all (λ s. leb (length s) 3) ss ≡ true → list_any (bytes_eq own) ss ≡ true → length own ≤ 3
    short_one own [] all any = absurd cc
    short_one own (s ∷ ss) all any =
        let parts = and_parts (leb (length s) 3) (list_all (λ s. leb (length s) 3) ss) all in
        elim (or_cases (bytes_eq own s) (list_any (bytes_eq own) ss) any) [
          | inl this ↦ let e : own ≡ s = (bytes_eq-Decides own s).0 this in rw e (leb-true (length s) 3 parts.0)
          | inr later ↦ short_one own ss parts.1 later
        ]

    short_alone : (own : List ℕ) → is_sign_alone own ≡ true → length own ≤ 3
    short_alone [] h = absurd cc
    short_alone (b ∷ []) h = omega arith
    short_alone (b ∷ c ∷ bs) h = absurd cc
