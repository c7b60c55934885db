-- Clauses as lines of words, and where spaces stand in them.
use Rattle.std.specs.Prelude.{ℕ, ◌==◌, ◌||◌, Bool, true, false, List, [], ◌∷◌, ◌++◌, codes, if◌then◌else◌}
use Rattle.std.specs.List.{list_any, flat_map}
use Rattle.std.specs.Str.{bytes_eq}
use Rattle.ag_lex.specs.declared.token.TokenKind.{TokenKind}
use Rattle.ag_lex.specs.declared.token.TokenKind.TheVariants.{Symbol}
use Rattle.ag_annex.specs.Marks.{operand_mark, call_mark}

-- a token by its kind and its bytes, wherever it stands, and the mark that the grammar gives it
pub record Spelled : Type 0 where
  pub mark : ℕ
  pub kind : TokenKind
  pub own : List ℕ

-- whether a word is one of these symbols
abbrev pub is_one_of : TokenKind → List ℕ → List (List ℕ) → Bool
is_one_of Symbol own symbols = list_any (bytes_eq own) symbols
is_one_of _ own symbols = false

-- the word is the `(` of `pre`, of `prev` or of a call
abbrev pub is_glued : ℕ → Bool
is_glued mark = mark == operand_mark || mark == call_mark

-- no space stands before `;` `,` `::` `.` and `)`, and none between `pre` or a called node's name and its `(`
abbrev pub joins_before : Spelled → Bool
joins_before w = is_glued w.mark || is_one_of w.kind w.own (codes ";" ∷ codes "," ∷ codes "::" ∷ codes "." ∷ codes ")" ∷ [])

-- and none behind `::` `.` and `(`
abbrev pub joins_behind : Spelled → Bool
joins_behind w = is_one_of w.kind w.own (codes "::" ∷ codes "." ∷ codes "(" ∷ [])

-- words one behind the other, with a space before each that doesn't join; joined tells whether the first one does in any case
abbrev pub words_bytes : Bool → List Spelled → List ℕ
words_bytes joined [] = []
words_bytes joined (w ∷ ws) = (if joined || joins_before w then [] else codes " ") ++ (w.own ++ words_bytes (joins_behind w) ws)

-- a line begins without a space, and LF ends it
abbrev pub line_bytes : List Spelled → List ℕ
line_bytes words = words_bytes true words ++ codes "\n"

abbrev pub text_bytes : List (List Spelled) → List ℕ
text_bytes lines = flat_map line_bytes lines
