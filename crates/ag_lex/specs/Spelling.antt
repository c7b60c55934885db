-- Which bytes spell a token of each kind, and which of them is the token at a place.
use Rattle.std.specs.Prelude.{◌≡◌, ◌≤◌, ℕ, Bool, false, not, List, [], ◌∷◌, ◌++◌, ◌||◌, ◌⊎◌, length, IsTrue, nat_eq, codes}
use Rattle.std.specs.Char.{is_ascii_alphabetic, is_ascii_digit}
use Rattle.std.specs.List.{list_all, list_any, starts_with}
use Rattle.std.specs.Str.{bytes_eq}
use Rattle.ag_lex.specs.declared.token.Language.{Language}
use Rattle.ag_lex.specs.declared.token.TokenKind.{TokenKind}
use Rattle.ag_lex.specs.declared.token.TokenKind.TheVariants.{Name, Number, Real, Text, Annex, Symbol}
use Rattle.ag_lex.specs.Characters.{is_word_byte, is_number_byte, is_text_byte, is_sign, is_run}

-- the symbols of several bytes
unfoldable pub long_symbols : List (List ℕ)
long_symbols =
    codes "<->" ∷ codes "<=>" ∷ codes "::" ∷ codes "=>" ∷ codes "->" ∷ codes "<=" ∷ codes ">=" ∷ codes "<>" ∷ codes "!="
    ∷ codes ".." ∷ []

-- one of these, or one byte that is a symbol by itself
abbrev pub is_sign_alone : List ℕ → Bool
is_sign_alone [] = false
is_sign_alone (b ∷ []) = is_sign b
is_sign_alone (b ∷ c ∷ bs) = false

abbrev pub is_symbol : List ℕ → Bool
is_symbol own = list_any (bytes_eq own) long_symbols || is_sign_alone own

-- a letter, then letters, digits and `_`
abbrev pub is_name : List ℕ → Bool
is_name own = is_run is_ascii_alphabetic is_word_byte own

-- a digit, then what goes on a number
abbrev pub is_number : Language → List ℕ → Bool
is_number l own = is_run is_ascii_digit (is_number_byte l) own

-- a digit, then letters, digits and `_`
abbrev pub is_fraction : List ℕ → Bool
is_fraction own = is_run is_ascii_digit is_word_byte own

-- whether `**}` stands somewhere in the bytes
abbrev pub has_close : List ℕ → Bool
has_close [] = false
has_close (b ∷ bs) = starts_with nat_eq (b ∷ bs) (codes "**}") || has_close bs

-- own spells a token of the kind
abbrev pub Spells : Language → TokenKind → List ℕ → Type 0
Spells l Name own = IsTrue (is_name own)
Spells l Number own = IsTrue (is_number l own)
-- a number, a point, a fraction
Spells l Real own = (number fraction : List ℕ) × (own ≡ number ++ (codes "." ++ fraction)) × IsTrue (is_number l number) × IsTrue (is_fraction fraction)
-- bytes other than `"` and LF between quotes
Spells l Text own = (text : List ℕ) × (own ≡ codes "\"" ++ (text ++ codes "\"")) × IsTrue (list_all is_text_byte text)
-- `{**`, any bytes, and the first `**}` behind them
Spells l Annex own = (inside : List ℕ) × (own ≡ codes "{**" ++ (inside ++ codes "**}")) × IsTrue (not (has_close (inside ++ codes "**")))
Spells l Symbol own = IsTrue (is_symbol own)

-- own is a token's text, or a mark that begins a comment or an annex
abbrev pub IsLexeme : Language → List ℕ → Type 0
IsLexeme l own = ((kind : TokenKind) × Spells l kind own) ⊎ ((own ≡ codes "--") ⊎ (own ≡ codes "{**"))

-- with this byte behind it, own is the front of a longer symbol, or of a mark that begins a comment or an annex
abbrev pub goes_on : List ℕ → ℕ → Bool
goes_on own b = list_any (λ s. starts_with nat_eq s (own ++ b ∷ [])) (codes "--" ∷ codes "{**" ∷ long_symbols)

-- own, with rest behind it, is a token of the kind: it spells one, and nothing longer that stands here is one or is such a mark
pub record IsToken (l : Language) (kind : TokenKind) (own rest : List ℕ) : Type 0 where
  pub spelled : Spells l kind own
  pub longest : (more after : List ℕ) → IsLexeme l more → own ++ rest ≡ more ++ after → length more ≤ length own
