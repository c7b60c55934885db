-- Where a word ends, by what stands behind it on its line.
use Rattle.std.proofs.Common.{◌≡◌, ℕ, ◌<◌, Bool, true, false, not, cond, ◌||◌, List, [], ◌∷◌, ◌++◌, length, drop, refl, sym, subst, ◌∙◌, inl, inr, arith}
use Rattle.std.specs.Prelude.{codes, nat_eq, IsTrue}
use Rattle.std.specs.Char.{is_ascii_alphabetic}
use Rattle.std.specs.List.{list_all, list_any, starts_with}
use Rattle.std.specs.Str.{bytes_eq}
use Rattle.std.proofs.lemmas.Bool.{cases_Bool, or_cases, and_parts, both_ways, not-true}
use Rattle.std.proofs.lemmas.Bool.Decides.{nat_tests, Decides-eqb}
use Rattle.std.proofs.lemmas.List.{append_assoc}
use Rattle.std.proofs.lemmas.List.Folds.{list_all-append}
use Rattle.std.proofs.lemmas.Slice.Eq.{starts_is, bytes_eq-Decides}
use Rattle.ag_lex.specs.declared.token.Language.{Language}
use Rattle.ag_lex.specs.declared.token.Language.TheVariants.{Aadl}
use Rattle.ag_lex.specs.declared.token.TokenKind.{TokenKind}
use Rattle.ag_lex.specs.declared.token.TokenKind.TheVariants.{Name, Annex, Symbol}
use Rattle.ag_lex.specs.Characters.{is_word_byte, is_sign, begins}
use Rattle.ag_lex.specs.Spelling.{IsToken, Spells, has_close, is_name, is_symbol, goes_on, long_symbols}
use Rattle.ag_print.specs.Layout.{Word, is_one_of, joins_before, joins_behind, words_bytes, package_symbols, IsSpelled, run_together, runs_on, IsSoundLine}

-- what the laws of tokens say
abbrev pub NamesEnd : Type 0
NamesEnd = (l : Language) (own rest : List ℕ) → IsTrue (is_name own) → IsTrue (not (begins is_word_byte rest)) → IsToken l Name own rest

abbrev pub SymbolsEnd : Type 0
SymbolsEnd = (l : Language) (own rest : List ℕ) → IsTrue (is_symbol own) → IsTrue (not (begins (goes_on own) rest)) → IsToken l Symbol own rest

abbrev pub AnnexesEnd : Type 0
AnnexesEnd = (l : Language) (inside rest : List ℕ) → IsTrue (not (has_close (inside ++ codes "**"))) → IsToken l Annex (codes "{**" ++ (inside ++ codes "**}")) rest

-- ---- bytes

-- what passes for each of a list passes for one of them
pub passes : (p : List ℕ → Bool) (own : List ℕ) (ss : List (List ℕ)) → list_all p ss ≡ true → list_any (bytes_eq own) ss ≡ true → p own ≡ true
passes p own [] all any = absurd cc
passes p own (s ∷ ss) all any =
    let parts = and_parts (p s) (list_all p ss) all in
    elim (or_cases (bytes_eq own s) (list_any (bytes_eq own) ss) any) [
      | inl this ↦ let e : own ≡ s = (bytes_eq-Decides own s).0 this in rw e parts.0
      | inr later ↦ passes p own ss parts.1 later
    ]

-- what goes on with a symbol is a sign itself
sign_goes_on : (ss : List (List ℕ)) (own : List ℕ) (b : ℕ) → list_all (λ s. list_all is_sign s) ss ≡ true → list_any (λ s. starts_with nat_eq s (own ++ b ∷ [])) ss ≡ true → is_sign b ≡ true
sign_goes_on [] own b all any = absurd cc
sign_goes_on (s ∷ ss) own b all any =
    let parts = and_parts (list_all is_sign s) (list_all (λ s. list_all is_sign s) ss) all in
    elim (or_cases (starts_with nat_eq s (own ++ b ∷ [])) (list_any (λ s. starts_with nat_eq s (own ++ b ∷ [])) ss) any) [
      | inl this ↦
          let front = own ++ b ∷ [] in
          let rest = drop (length front) s in
          let e : s ≡ front ++ rest = (starts_is Decides-eqb s front (starts_with nat_eq s front) refl).0 this in
          let signs : list_all is_sign (front ++ rest) ≡ true = rw e at parts.0 in
          let fronts = and_parts (list_all is_sign front) (list_all is_sign rest) (sym (list_all-append is_sign front rest) ∙ signs) in
          let ends = and_parts (list_all is_sign own) (list_all is_sign (b ∷ [])) (sym (list_all-append is_sign own (b ∷ [])) ∙ fronts.0) in
          (and_parts (is_sign b) true ends.1).0
      | inr later ↦ sign_goes_on ss own b parts.1 later
    ]

pub no_sign_ends : (own : List ℕ) (b : ℕ) → is_sign b ≡ false → goes_on own b ≡ false
unfolding long_symbols
no_sign_ends own b none =
    elim (cases_Bool (goes_on own b)) [
      | inl on ↦ absurd (both_ways (is_sign b) none (sign_goes_on (codes "--" ∷ codes "{**" ∷ long_symbols) own b refl on))
      | inr ends ↦ ends
    ]

letter_no_sign : (b : ℕ) → is_ascii_alphabetic b ≡ true → is_sign b ≡ false
letter_no_sign b h = grind (arith, nat_tests)

name_no_sign : (own rest symbol : List ℕ) → is_name own ≡ true → begins (goes_on symbol) (own ++ rest) ≡ false
name_no_sign [] rest symbol h = absurd cc
name_no_sign (b ∷ bs) rest symbol h = no_sign_ends symbol b (letter_no_sign b (and_parts (is_ascii_alphabetic b) (list_all is_word_byte bs) h).0)

-- a test of the first byte, where there is one
abbrev first_is_not : (ℕ → Bool) → List ℕ → Bool
first_is_not p [] = false
first_is_not p (b ∷ bs) = not (p b)

first_not : (p : ℕ → Bool) (own rest : List ℕ) → first_is_not p own ≡ true → begins p (own ++ rest) ≡ false
first_not p [] rest h = absurd cc
first_not p (b ∷ bs) rest h = not-true (p b) h

symbol_no_word : (own rest : List ℕ) → list_any (bytes_eq own) package_symbols ≡ true → begins is_word_byte (own ++ rest) ≡ false
unfolding package_symbols
symbol_no_word own rest h = first_not is_word_byte own rest (passes (first_is_not is_word_byte) own package_symbols refl h)

symbol_filled : (own : List ℕ) → list_any (bytes_eq own) package_symbols ≡ true → 0 < length own
unfolding package_symbols
symbol_filled own h = filled own (passes (first_is_not is_word_byte) own package_symbols refl h)
  where
    filled : (own : List ℕ) → first_is_not is_word_byte own ≡ true → 0 < length own
    filled [] h = absurd cc
    filled (b ∷ bs) h = omega arith

pub symbol_is : (own : List ℕ) → list_any (bytes_eq own) package_symbols ≡ true → is_symbol own ≡ true
unfolding package_symbols long_symbols
symbol_is own h = passes is_symbol own package_symbols refl h

symbol_no_brace : (own : List ℕ) → list_any (bytes_eq own) package_symbols ≡ true → goes_on own 123 ≡ false
unfolding package_symbols long_symbols
symbol_no_brace own h = not-true (goes_on own 123) (passes (λ s. not (goes_on s 123)) own package_symbols refl h)

-- an annex begins with `{`, which goes on with no symbol of packages
annex_apart : (own next rest : List ℕ) → list_any (bytes_eq own) package_symbols ≡ true → Spells Aadl Annex next → begins (goes_on own) (next ++ rest) ≡ false
annex_apart own next rest h t = rw t.1 (symbol_no_brace own h)

begins_on : (p : ℕ → Bool) (own rest : List ℕ) → 0 < length own → begins p own ≡ false → begins p (own ++ rest) ≡ false
begins_on p [] rest some h = absurd (omega arith)
begins_on p (b ∷ bs) rest some h = h

-- ---- the end of a word

abbrev pub Ends : TokenKind → List ℕ → List ℕ → Type 0
Ends Name own rest = begins is_word_byte rest ≡ false
Ends Symbol own rest = begins (goes_on own) rest ≡ false
Ends _ own rest = Unit {0}

ends_at : (k : TokenKind) (own : List ℕ) (b : ℕ) (rest : List ℕ) → is_sign b ≡ false → is_word_byte b ≡ false → Ends k own (b ∷ rest)
ends_at Name own b rest sign word = word
ends_at Symbol own b rest sign word = no_sign_ends own b sign
ends_at _ own b rest sign word = tt

abbrev behind_signs : List (List ℕ)
behind_signs = codes "::" ∷ codes "." ∷ []

abbrev before_signs : List (List ℕ)
before_signs = codes ";" ∷ codes "," ∷ codes "::" ∷ codes "." ∷ []

ends_joined : (k j : TokenKind) (own next rest : List ℕ) → IsSpelled k own → IsSpelled j next → (is_one_of k own behind_signs || is_one_of j next before_signs) ≡ true → run_together k own j next ≡ false → Ends k own (next ++ rest)
ends_joined Name Name own next rest s t joined apart = absurd cc
ends_joined Name Symbol own next rest s t joined apart = symbol_no_word next rest t
ends_joined Symbol Name own next rest s t joined apart = name_no_sign next rest own t.0
ends_joined Symbol Symbol own next rest s t joined apart = begins_on (goes_on own) next rest (symbol_filled next t) apart
ends_joined Name Annex own next rest s t joined apart = absurd cc
ends_joined Symbol Annex own next rest s t joined apart = annex_apart own next rest s t.0
ends_joined Annex j own next rest s t joined apart = tt
ends_joined Name _ own next rest s t joined apart = absurd t
ends_joined Symbol _ own next rest s t joined apart = absurd t
ends_joined _ j own next rest s t joined apart = absurd s

ends_next : (w v : Word) (vs : List Word) (more rest : List ℕ) (joined : Bool) → IsSpelled w.kind w.own → IsSpelled v.kind v.own → runs_on w (v ∷ vs) ≡ false → (joins_behind w || joins_before v) ≡ joined
    → Ends w.kind w.own ((cond joined [] (codes " ") ++ (v.own ++ more)) ++ rest)
ends_next w v vs more rest true s t apart e =
    let not_together : run_together w.kind w.own v.kind v.own ≡ false = rw e at apart in
    subst (λ (z : List ℕ). Ends w.kind w.own z) (sym (append_assoc v.own more rest)) (ends_joined w.kind v.kind w.own v.own (more ++ rest) s t e not_together)
ends_next w v vs more rest false s t apart e = ends_at w.kind w.own 32 ((v.own ++ more) ++ rest) refl refl

pub ends_word : (w : Word) (ws : List Word) (rest : List ℕ) → IsSoundLine (w ∷ ws) → Ends w.kind w.own (words_bytes (joins_behind w) ws ++ (10 ∷ rest))
ends_word w [] rest s = ends_at w.kind w.own 10 rest refl refl
ends_word w (v ∷ vs) rest s =
    let next = s.2 in
    ends_next w v vs (words_bytes (joins_behind v) vs) (10 ∷ rest) (joins_behind w || joins_before v) s.0 next.0 (not-true (runs_on w (v ∷ vs)) s.1) refl

none_passes : (b : Bool) → b ≡ false → not b ≡ true
none_passes b e = rw e refl

token_ends : NamesEnd → SymbolsEnd → AnnexesEnd → (k : TokenKind) (own rest : List ℕ) → IsSpelled k own → Ends k own rest → IsToken Aadl k own rest
token_ends names symbols annexes Name own rest s ends = names Aadl own rest s.0 (none_passes (begins is_word_byte rest) ends)
token_ends names symbols annexes Symbol own rest s ends = symbols Aadl own rest (symbol_is own s) (none_passes (begins (goes_on own) rest) ends)
token_ends names symbols annexes Annex own rest s ends = subst (λ (z : List ℕ). IsToken Aadl Annex z rest) (sym s.0.1) (annexes Aadl s.0.0 rest s.0.2)
token_ends names symbols annexes _ own rest s ends = absurd s

-- a word of a sound line stands there as a token
pub token_stands : NamesEnd → SymbolsEnd → AnnexesEnd → (w : Word) (ws : List Word) (rest : List ℕ) → IsSoundLine (w ∷ ws) → IsToken Aadl w.kind w.own (words_bytes (joins_behind w) ws ++ (10 ∷ rest))
token_stands names symbols annexes w ws rest s = token_ends names symbols annexes w.kind w.own (words_bytes (joins_behind w) ws ++ (10 ∷ rest)) s.0 (ends_word w ws rest s)
