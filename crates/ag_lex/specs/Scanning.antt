-- What the private functions give: the laws of proofs/ say that this is what the relations have.
use Rattle.std.specs.Prelude.{◌≡◌, ◌<◌, ◌≤◌, ℕ, ◌+◌, ◌^◌, ◌⊎◌, Bool, ◌&&◌, List, [], ◌∷◌, ◌++◌, length, take, drop, Option, Some, None, Result, Ok, Err, nat_eq, nat_le, codes, if◌then◌else◌}
use Rattle.std.specs.Option.{option_map}
use Rattle.std.specs.Char.{is_ascii_alphabetic, is_ascii_digit}
use Rattle.std.specs.List.{starts_with, prefix_len}
use Rattle.std.specs.Str.{IsValidUpTo}
use Rattle.ag_base.specs.declared.place.Refusal.{Refusal}
use Rattle.ag_base.specs.declared.place.Rule.{Rule}
use Rattle.ag_base.specs.declared.place.Rule.TheVariants.{NotUtf8}
use Rattle.ag_lex.specs.declared.class.Class.{Class}
use Rattle.ag_lex.specs.declared.class.Class.TheVariants as class
use Rattle.ag_lex.specs.declared.cursor.Cursor.{Cursor}
use Rattle.ag_lex.specs.declared.found.Found.{Found}
use Rattle.ag_lex.specs.declared.scan.Fault.{Fault}
use Rattle.ag_lex.specs.declared.scan.Stop.{Stop}
use Rattle.ag_lex.specs.declared.scan.Stop.TheVariants.{Broken, OutOfMemory}
use Rattle.ag_lex.specs.declared.token.Language.{Language}
use Rattle.ag_lex.specs.declared.token.Language.TheVariants.{Aadl, Agree}
use Rattle.ag_lex.specs.declared.token.TokenKind.{TokenKind}
use Rattle.ag_lex.specs.declared.token.Token.{Token}
use Rattle.ag_lex.specs.Characters.{is_space, is_word_byte, is_number_byte, is_line_byte, is_text_byte, is_sign, begins}
use Rattle.ag_lex.specs.Places.{place_of}
use Rattle.ag_lex.specs.Tokens.{Piece, Space, Comment, Lexeme, piece_bytes, IsPiece, tokens_in, AreTokens}
use Rattle.ag_lex.specs.Rules.{Breaks, IsBrokenAt, IsFine, decimal}

abbrev pub has : Class → ℕ → Bool
has class.Space b = is_space b
has class.Letter b = is_ascii_alphabetic b
has class.Digit b = is_ascii_digit b
has class.Word b = is_word_byte b
has class.Based b = is_number_byte Aadl b
has class.Line b = is_line_byte b
has class.Text b = is_text_byte b
has class.Sign b = is_sign b

-- the length of the first of these that stands at the front, or 1
abbrev pub first_front : List (List ℕ) → List ℕ → ℕ
first_front [] here = 1
first_front (s ∷ ss) here = if starts_with nat_eq here s then length s else first_front ss here

-- where the first `**}` begins
abbrev pub closes_at : List ℕ → Option ℕ
closes_at [] = None
closes_at (b ∷ bs) = if starts_with nat_eq (b ∷ bs) (codes "**}") then Some 0 else option_map (λ n. n + 1) (closes_at bs)

-- how far a point, a digit and what goes on a fraction go
abbrev pub fraction_at : List ℕ → Option ℕ
fraction_at rest = if starts_with nat_eq rest (codes ".") && begins is_ascii_digit (drop 1 rest) then Some (1 + prefix_len is_word_byte (drop 1 rest)) else None

-- a number of an annex over 2^47
abbrev pub IsWide : Language → List ℕ → Type 0
IsWide Aadl digits = ⊥
IsWide Agree digits = 2 ^ 47 < decimal digits

abbrev pub kind_in : Piece → Option TokenKind
kind_in (Space b) = None
kind_in (Comment text) = None
kind_in (Lexeme kind own) = Some kind

-- what was found is the length and the kind of a piece that stands at the front
pub record IsFound (l : Language) (found : Found) (here : List ℕ) : Type 0 where
  pub piece : Piece
  pub after : List ℕ
  pub parts : here ≡ piece_bytes piece ++ after
  pub stands : IsPiece l piece after
  pub fine : IsFine l piece
  pub kind : found.kind ≡ kind_in piece
  pub len : found.len ≡ length (piece_bytes piece)

abbrev pub Finds : Language → Result Found Rule → List ℕ → Type 0
Finds l (Ok found) here = IsFound l found here
Finds l (Err rule) here = Breaks l rule here

-- from one cursor to the next there is one piece, which is put with the tokens if it is one
pub record IsNext (l : Language) (bytes : List ℕ) (cursor next : Cursor) (old new : List Token) : Type 0 where
  pub piece : Piece
  pub parts : drop cursor.at bytes ≡ piece_bytes piece ++ drop next.at bytes
  pub stands : IsPiece l piece (drop next.at bytes)
  pub fine : IsFine l piece
  pub len : next.at ≡ cursor.at + length (piece_bytes piece)
  pub forward : cursor.at < next.at
  pub within : next.at ≤ length bytes
  pub placed : next.place ≡ place_of cursor.place.file (take next.at bytes)
  pub told : new ≡ old ++ tokens_in cursor.place.file (take cursor.at bytes) piece

-- what stands at the cursor breaks the rule
pub record IsFaultAt (l : Language) (bytes : List ℕ) (cursor : Cursor) (fault : Fault) : Type 0 where
  pub at : fault.at ≡ cursor.at
  pub placed : fault.refusal.place ≡ cursor.place
  pub broken : Breaks l fault.refusal.rule (drop cursor.at bytes)

abbrev pub IsStop : Language → List ℕ → Cursor → Stop → Type 0
IsStop l bytes cursor OutOfMemory = Unit {0}
IsStop l bytes cursor (Broken fault) = IsFaultAt l bytes cursor fault

-- these are the tokens from start on, and no rule but that of UTF-8 is broken
pub record IsScanned (l : Language) (start : Cursor) (bytes : List ℕ) (tokens : List Token) : Type 0 where
  pub are_tokens : AreTokens l start.place.file (take start.at bytes) (drop start.at bytes) tokens
  pub kept : (n : ℕ) (rule : Rule) → IsBrokenAt l (drop start.at bytes) n rule → ⊥

-- the fault is the first but for that of UTF-8
pub record IsFirstFault (l : Language) (start : Cursor) (bytes : List ℕ) (fault : Fault) : Type 0 where
  pub n : ℕ
  pub at : fault.at ≡ start.at + n
  pub broken : IsBrokenAt l (drop start.at bytes) n fault.refusal.rule
  pub placed : fault.refusal.place ≡ place_of start.place.file (take fault.at bytes)
  pub first : (m : ℕ) (rule : Rule) → IsBrokenAt l (drop start.at bytes) m rule → (n < m) ⊎ ((n ≡ m) × (fault.refusal.rule ≡ rule))

abbrev pub StopsFirst : Language → Cursor → List ℕ → Stop → Type 0
StopsFirst l start bytes OutOfMemory = Unit {0}
StopsFirst l start bytes (Broken fault) = IsFirstFault l start bytes fault

-- the file is UTF-8 up to the fault and no further
pub record IsEndOfText (file : ℕ) (bytes : List ℕ) (fault : Fault) : Type 0 where
  pub front : IsValidUpTo bytes fault.at
  pub placed : fault.refusal.place ≡ place_of file (take fault.at bytes)
  pub rule : fault.refusal.rule ≡ NotUtf8

-- the first fault where it isn't behind the other
abbrev pub earlier_of : Option Fault → Fault → Refusal
earlier_of None other = other.refusal
earlier_of (Some first) other = if nat_le first.at other.at then first.refusal else other.refusal
