-- Words as pieces of a line, and where each ends, by what stands behind it.
use Rattle.std.proofs.Common.{◌≡◌, ℕ, ◌<◌, ◌≤◌, ◌^◌, Bool, true, false, not, cond, ◌&&◌, ◌||◌, ◌==◌, List, [], ◌∷◌, ◌++◌, length, drop, refl, sym, subst, ◌∙◌, inl, inr, arith}
use Rattle.std.specs.Prelude.{codes, nat_eq, IsTrue}
use Rattle.std.specs.List.{list_all, list_any, starts_with}
use Rattle.std.specs.Str.{bytes_eq}
use Rattle.std.proofs.lemmas.Bool.{cases_Bool, or_cases, and_parts, both_ways}
use Rattle.std.proofs.lemmas.Bool.Decides.{Decides-eqb}
use Rattle.std.proofs.lemmas.List.{append_assoc}
use Rattle.std.proofs.lemmas.List.Folds.{list_all-append}
use Rattle.std.proofs.lemmas.Slice.Eq.{starts_is, bytes_eq-Decides}
use Rattle.ag_lex.specs.declared.token.Language.{Language}
use Rattle.ag_lex.specs.declared.token.Language.TheVariants.{Agree}
use Rattle.ag_lex.specs.declared.token.TokenKind.{TokenKind}
use Rattle.ag_lex.specs.declared.token.TokenKind.TheVariants.{Name, Number, Text, Symbol}
use Rattle.ag_lex.specs.Characters.{is_word_byte, is_number_byte, is_text_byte, is_sign, begins}
use Rattle.ag_lex.specs.Rules as rules
use Rattle.ag_lex.specs.Spelling.{IsToken, is_name, is_number, is_symbol, goes_on, long_symbols}
use Rattle.ag_unparse.specs.Layout.{Spelled, joins_before, joins_behind, words_bytes}

-- what the laws of tokens say
abbrev pub NamesEnd : Type 0
NamesEnd = (l : Language) (own rest : List ℕ) → IsTrue (is_name own) → IsTrue (not (begins is_word_byte rest)) → IsToken l Name own rest

abbrev pub NumbersEnd : Type 0
NumbersEnd = (l : Language) (own rest : List ℕ) → IsTrue (is_number l own) → IsTrue (not (begins (λ b. is_number_byte l b || b == 46) rest)) → IsToken l Number own rest

abbrev pub TextsEnd : Type 0
TextsEnd = (l : Language) (text rest : List ℕ) → IsTrue (list_all is_text_byte text) → IsToken l Text (codes "\"" ++ (text ++ codes "\"")) rest

abbrev pub SymbolsEnd : Type 0
SymbolsEnd = (l : Language) (own rest : List ℕ) → IsTrue (is_symbol own) → IsTrue (not (begins (goes_on own) rest)) → IsToken l Symbol own rest

-- all of them
pub record TokensEnd : Type 0 where
  pub names : NamesEnd
  pub numbers : NumbersEnd
  pub texts : TextsEnd
  pub symbols : SymbolsEnd

-- ---- lines whose words read again

-- the symbols of clauses
unfoldable pub clause_symbols : List (List ℕ)
clause_symbols =
    codes "::" ∷ codes "." ∷ codes "," ∷ codes ";" ∷ codes ":" ∷ codes "(" ∷ codes ")" ∷ codes "->" ∷ codes "=>" ∷ codes "<=>" ∷ codes "<"
    ∷ codes "<=" ∷ codes ">" ∷ codes ">=" ∷ codes "=" ∷ codes "<>" ∷ codes "+" ∷ codes "-" ∷ codes "*" ∷ []

-- the bytes of a text with its quotes
pub record IsQuoted (own : List ℕ) : Type 0 where
  pub text : List ℕ
  pub is : own ≡ codes "\"" ++ (text ++ codes "\"")
  pub fits : list_all is_text_byte text ≡ true

abbrev pub IsSpelled : TokenKind → List ℕ → Type 0
IsSpelled Name own = (is_name own ≡ true) × (length own ≤ 255)
IsSpelled Number own = (is_number Agree own ≡ true) × (rules.decimal own ≤ 2 ^ 47)
IsSpelled Text own = IsQuoted own
IsSpelled Symbol own = list_any (bytes_eq own) clause_symbols ≡ true
IsSpelled _ own = ⊥

-- what goes on a number, or begins a fraction
abbrev pub widens : ℕ → Bool
widens b = is_number_byte Agree b || b == 46

-- these bytes would go on with the word
abbrev pub continues : TokenKind → List ℕ → List ℕ → Bool
continues Name own rest = begins is_word_byte rest
continues Number own rest = begins widens rest
continues Symbol own rest = begins (goes_on own) rest
continues _ own rest = false

-- no space stands between the word and the next one, which would go on with it
abbrev pub runs_on : Spelled → List Spelled → Bool
runs_on w [] = false
runs_on w (v ∷ vs) = (joins_behind w || joins_before v) && continues w.kind w.own v.own

-- each word of the line is spelled, and none runs on into the next
abbrev pub IsSoundLine : List Spelled → Type 0
IsSoundLine [] = Unit {0}
IsSoundLine (w ∷ ws) = IsSpelled w.kind w.own × (runs_on w ws ≡ false) × IsSoundLine ws

-- ---- bytes

-- what passes for each of a list passes for one of them
pub passes : (p : List ℕ → Bool) (own : List ℕ) (ss : List (List ℕ)) → list_all p ss ≡ true → list_any (bytes_eq own) ss ≡ true → p own ≡ true
passes p own [] all any = absurd cc
passes p own (s ∷ ss) all any =
    let parts = and_parts (p s) (list_all p ss) all in
    elim (or_cases (bytes_eq own s) (list_any (bytes_eq own) ss) any) [
      | inl this ↦ let e : own ≡ s = (bytes_eq-Decides own s).0 this in rw e parts.0
      | inr later ↦ passes p own ss parts.1 later
    ]

-- what goes on with a symbol is a sign itself
sign_goes_on : (ss : List (List ℕ)) (own : List ℕ) (b : ℕ) → list_all (λ s. list_all is_sign s) ss ≡ true → list_any (λ s. starts_with nat_eq s (own ++ b ∷ [])) ss ≡ true → is_sign b ≡ true
sign_goes_on [] own b all any = absurd cc
sign_goes_on (s ∷ ss) own b all any =
    let parts = and_parts (list_all is_sign s) (list_all (λ s. list_all is_sign s) ss) all in
    elim (or_cases (starts_with nat_eq s (own ++ b ∷ [])) (list_any (λ s. starts_with nat_eq s (own ++ b ∷ [])) ss) any) [
      | inl this ↦
          let front = own ++ b ∷ [] in
          let rest = drop (length front) s in
          let e : s ≡ front ++ rest = (starts_is Decides-eqb s front (starts_with nat_eq s front) refl).0 this in
          let signs : list_all is_sign (front ++ rest) ≡ true = rw e at parts.0 in
          let fronts = and_parts (list_all is_sign front) (list_all is_sign rest) (sym (list_all-append is_sign front rest) ∙ signs) in
          let ends = and_parts (list_all is_sign own) (list_all is_sign (b ∷ [])) (sym (list_all-append is_sign own (b ∷ [])) ∙ fronts.0) in
          (and_parts (is_sign b) true ends.1).0
      | inr later ↦ sign_goes_on ss own b parts.1 later
    ]

pub no_sign_ends : (own : List ℕ) (b : ℕ) → is_sign b ≡ false → goes_on own b ≡ false
unfolding long_symbols
no_sign_ends own b none =
    elim (cases_Bool (goes_on own b)) [
      | inl on ↦ absurd (both_ways (is_sign b) none (sign_goes_on (codes "--" ∷ codes "{**" ∷ long_symbols) own b refl on))
      | inr ends ↦ ends
    ]

pub symbol_is : (own : List ℕ) → list_any (bytes_eq own) clause_symbols ≡ true → is_symbol own ≡ true
unfolding clause_symbols long_symbols
symbol_is own h = passes is_symbol own clause_symbols refl h

-- ---- the end of a word

begins_on : (p : ℕ → Bool) (own rest : List ℕ) → 0 < length own → begins p own ≡ false → begins p (own ++ rest) ≡ false
begins_on p [] rest some h = absurd (omega arith)
begins_on p (b ∷ bs) rest some h = h

continues_on : (k : TokenKind) (own next rest : List ℕ) → 0 < length next → continues k own next ≡ false → continues k own (next ++ rest) ≡ false
continues_on Name own next rest some h = begins_on is_word_byte next rest some h
continues_on Number own next rest some h = begins_on widens next rest some h
continues_on Symbol own next rest some h = begins_on (goes_on own) next rest some h
continues_on _ own next rest some h = refl

ends_at : (k : TokenKind) (own : List ℕ) (b : ℕ) (rest : List ℕ) → is_sign b ≡ false → is_word_byte b ≡ false → widens b ≡ false → continues k own (b ∷ rest) ≡ false
ends_at Name own b rest sign word wide = word
ends_at Number own b rest sign word wide = wide
ends_at Symbol own b rest sign word wide = no_sign_ends own b sign
ends_at _ own b rest sign word wide = refl

filled_name : (own : List ℕ) → is_name own ≡ true → 0 < length own
filled_name [] h = absurd cc
filled_name (b ∷ bs) h = omega arith

filled_number : (own : List ℕ) → is_number Agree own ≡ true → 0 < length own
filled_number [] h = absurd cc
filled_number (b ∷ bs) h = omega arith

filled_text : (own : List ℕ) → IsQuoted own → 0 < length own
filled_text own q = rw q.is (omega arith)

abbrev is_filled : List ℕ → Bool
is_filled [] = false
is_filled (b ∷ bs) = true

filled_symbol : (own : List ℕ) → list_any (bytes_eq own) clause_symbols ≡ true → 0 < length own
unfolding clause_symbols
filled_symbol own h = some own (passes is_filled own clause_symbols refl h)
  where
    some : (own : List ℕ) → is_filled own ≡ true → 0 < length own
    some [] h = absurd cc
    some (b ∷ bs) h = omega arith

filled : (k : TokenKind) (own : List ℕ) → IsSpelled k own → 0 < length own
filled Name own s = filled_name own s.0
filled Number own s = filled_number own s.0
filled Text own s = filled_text own s
filled Symbol own s = filled_symbol own s
filled _ own s = absurd s

ends_next : (w v : Spelled) (vs : List Spelled) (more rest : List ℕ) (joined : Bool) → IsSpelled v.kind v.own → runs_on w (v ∷ vs) ≡ false → (joins_behind w || joins_before v) ≡ joined
    → continues w.kind w.own ((cond joined [] (codes " ") ++ (v.own ++ more)) ++ rest) ≡ false
ends_next w v vs more rest true s apart e =
    let ends : continues w.kind w.own v.own ≡ false = rw e at apart in
    subst (λ (z : List ℕ). continues w.kind w.own z ≡ false) (sym (append_assoc v.own more rest)) (continues_on w.kind w.own v.own (more ++ rest) (filled v.kind v.own s) ends)
ends_next w v vs more rest false s apart e = ends_at w.kind w.own 32 ((v.own ++ more) ++ rest) refl refl refl

ends_word : (w : Spelled) (ws : List Spelled) (rest : List ℕ) → IsSoundLine (w ∷ ws) → continues w.kind w.own (words_bytes (joins_behind w) ws ++ (10 ∷ rest)) ≡ false
ends_word w [] rest s = ends_at w.kind w.own 10 rest refl refl refl
ends_word w (v ∷ vs) rest s = ends_next w v vs (words_bytes (joins_behind v) vs) (10 ∷ rest) (joins_behind w || joins_before v) s.2.0 s.1 refl

none_passes : (b : Bool) → b ≡ false → not b ≡ true
none_passes b e = rw e refl

text_token : TextsEnd → (own rest : List ℕ) → IsQuoted own → IsToken Agree Text own rest
text_token texts own rest q = subst (λ (z : List ℕ). IsToken Agree Text z rest) (sym q.is) (texts Agree q.text rest q.fits)

token_ends : TokensEnd → (k : TokenKind) (own rest : List ℕ) → IsSpelled k own → continues k own rest ≡ false → IsToken Agree k own rest
token_ends laws Name own rest s ends = laws.names Agree own rest s.0 (none_passes (begins is_word_byte rest) ends)
token_ends laws Number own rest s ends = laws.numbers Agree own rest s.0 (none_passes (begins widens rest) ends)
token_ends laws Text own rest s ends = text_token laws.texts own rest s
token_ends laws Symbol own rest s ends = laws.symbols Agree own rest (symbol_is own s) (none_passes (begins (goes_on own) rest) ends)
token_ends laws _ own rest s ends = absurd s

-- a word of a sound line stands there as a token
pub token_stands : TokensEnd → (w : Spelled) (ws : List Spelled) (rest : List ℕ) → IsSoundLine (w ∷ ws) → IsToken Agree w.kind w.own (words_bytes (joins_behind w) ws ++ (10 ∷ rest))
token_stands laws w ws rest s = token_ends laws w.kind w.own (words_bytes (joins_behind w) ws ++ (10 ∷ rest)) s.0 (ends_word w ws rest s)
