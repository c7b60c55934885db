-- What a text consists of, and its tokens.
use Rattle.std.specs.Prelude.{◌≡◌, ℕ, List, [], ◌∷◌, ◌++◌, ◌+◌, length, IsTrue, codes}
use Rattle.std.specs.List.{list_all}
use Rattle.ag_lex.specs.declared.token.Language.{Language}
use Rattle.ag_lex.specs.declared.token.TokenKind.{TokenKind}
use Rattle.ag_lex.specs.declared.token.Token.{Token}
use Rattle.ag_lex.specs.Characters.{is_space, is_line_byte, ends_line}
use Rattle.ag_lex.specs.Spelling.{IsToken}
use Rattle.ag_lex.specs.Places.{place_of}

-- Space: a byte of white space. Comment: the bytes behind `--`, up to the line's end. Lexeme: a token with its bytes.
pub data Piece : Type 0 where
  Space : ℕ → Piece
  Comment : List ℕ → Piece
  Lexeme : TokenKind → List ℕ → Piece

abbrev pub piece_bytes : Piece → List ℕ
piece_bytes (Space b) = b ∷ []
piece_bytes (Comment text) = codes "--" ++ text
piece_bytes (Lexeme kind own) = own

-- with rest behind it, this is such a piece
abbrev pub IsPiece : Language → Piece → List ℕ → Type 0
IsPiece l (Space b) rest = IsTrue (is_space b)
IsPiece l (Comment text) rest = IsTrue (list_all is_line_byte text) × IsTrue (ends_line rest)
IsPiece l (Lexeme kind own) rest = IsToken l kind own rest

-- text is these pieces one behind the other, and then rest
abbrev pub AreRead : Language → List Piece → List ℕ → List ℕ → Type 0
AreRead l [] text rest = text ≡ rest
AreRead l (p ∷ ps) text rest = (after : List ℕ) × (text ≡ piece_bytes p ++ after) × IsPiece l p after × AreRead l ps after rest

-- a token by its kind, its bytes, and the bytes of the file before them
abbrev pub token_of : ℕ → List ℕ → TokenKind → List ℕ → Token
token_of file before kind own = record { kind = kind; start = length before; end = length before + length own; place = place_of file before }

-- the tokens among the pieces that stand behind these bytes of the file
abbrev pub tokens_in : ℕ → List ℕ → Piece → List Token
tokens_in file before (Space b) = []
tokens_in file before (Comment text) = []
tokens_in file before (Lexeme kind own) = token_of file before kind own ∷ []

abbrev pub tokens_of : ℕ → List ℕ → List Piece → List Token
tokens_of file before [] = []
tokens_of file before (p ∷ ps) = tokens_in file before p ++ tokens_of file (before ++ piece_bytes p) ps

-- text, which stands behind these bytes of the file, is white space, comments and these tokens
pub record AreTokens (l : Language) (file : ℕ) (before text : List ℕ) (tokens : List Token) : Type 0 where
  pub pieces : List Piece
  pub read : AreRead l pieces text []
  pub told : tokens ≡ tokens_of file before pieces

-- the token stands in text, which stands behind these bytes of the file: the bytes of its span are a token of its kind
pub record StandsIn (l : Language) (file : ℕ) (before text : List ℕ) (token : Token) : Type 0 where
  pub front : List ℕ
  pub own : List ℕ
  pub after : List ℕ
  pub parts : text ≡ front ++ (own ++ after)
  pub stands : IsToken l token.kind own after
  pub is : token ≡ token_of file (before ++ front) token.kind own
