-- Text as lines of words: where spaces stand, and which lines read again as their words.
use Rattle.std.specs.Prelude.{ℕ, ◌≤◌, Bool, true, false, not, ◌&&◌, ◌||◌, List, [], ◌∷◌, ◌++◌, length, slice_range, IsTrue, codes, if◌then◌else◌}
use Rattle.std.specs.List.{list_any, flat_map}
use Rattle.std.specs.Str.{bytes_eq, IsUtf8}
use Rattle.ag_lex.specs.declared.token.Language.TheVariants.{Aadl}
use Rattle.ag_lex.specs.declared.token.Token.{Token}
use Rattle.ag_lex.specs.declared.token.TokenKind.{TokenKind}
use Rattle.ag_lex.specs.declared.token.TokenKind.TheVariants.{Name, Annex, Symbol}
use Rattle.ag_lex.specs.Characters.{begins}
use Rattle.ag_lex.specs.Spelling.{Spells, is_name, goes_on}

-- a token by its kind and its bytes, wherever it stands
pub record Word : Type 0 where
  pub kind : TokenKind
  pub own : List ℕ

-- ---- the bytes of lines

-- whether a word is one of these symbols
abbrev pub is_one_of : TokenKind → List ℕ → List (List ℕ) → Bool
is_one_of Symbol own symbols = list_any (bytes_eq own) symbols
is_one_of _ own symbols = false

-- no space stands before `;` `,` `::` and `.`
abbrev pub joins_before : Word → Bool
joins_before w = is_one_of w.kind w.own (codes ";" ∷ codes "," ∷ codes "::" ∷ codes "." ∷ [])

-- and none behind `::` and `.`
abbrev pub joins_behind : Word → Bool
joins_behind w = is_one_of w.kind w.own (codes "::" ∷ codes "." ∷ [])

-- words one behind the other, with a space before each that doesn't join; joined tells whether the first one does in any case
abbrev pub words_bytes : Bool → List Word → List ℕ
words_bytes joined [] = []
words_bytes joined (w ∷ ws) = (if joined || joins_before w then [] else codes " ") ++ (w.own ++ words_bytes (joins_behind w) ws)

-- a line begins without a space, and LF ends it
abbrev pub line_bytes : List Word → List ℕ
line_bytes words = words_bytes true words ++ codes "\n"

abbrev pub text_bytes : List (List Word) → List ℕ
text_bytes lines = flat_map line_bytes lines

-- ---- lines that read again

-- the symbols of packages
unfoldable pub package_symbols : List (List ℕ)
package_symbols = codes "::" ∷ codes "." ∷ codes ";" ∷ codes ":" ∷ codes "->" ∷ codes "," ∷ []

-- a name, an annex in which all is text, or such a symbol
abbrev pub IsSpelled : TokenKind → List ℕ → Type 0
IsSpelled Name own = IsTrue (is_name own) × (length own ≤ 255)
IsSpelled Symbol own = IsTrue (list_any (bytes_eq own) package_symbols)
IsSpelled Annex own = Spells Aadl Annex own × IsUtf8 own
IsSpelled _ own = ⊥

-- the bytes of two symbols, one behind the other, begin with those of a longer one
abbrev pub run_together : TokenKind → List ℕ → TokenKind → List ℕ → Bool
run_together Symbol own Symbol next = begins (goes_on own) next
run_together _ own _ next = false

-- no space stands between the word and the next one, and they run together
abbrev pub runs_on : Word → List Word → Bool
runs_on w [] = false
runs_on w (v ∷ vs) = (joins_behind w || joins_before v) && run_together w.kind w.own v.kind v.own

-- each word of the line is such a one, and none runs on into the next
abbrev pub IsSoundLine : List Word → Type 0
IsSoundLine [] = Unit {0}
IsSoundLine (w ∷ ws) = IsSpelled w.kind w.own × IsTrue (not (runs_on w ws)) × IsSoundLine ws

-- the words of all lines in order
abbrev pub words_of : List (List Word) → List Word
words_of lines = flat_map (λ line. line) lines

-- the word that stands in a text as this token
abbrev pub word_at : List ℕ → Token → Word
word_at text token = record { kind = token.kind; own = slice_range text token.start token.end }
