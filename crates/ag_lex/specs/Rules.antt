-- The rules that a text may break, and the one that is broken first.
use Rattle.std.specs.Prelude.{◌≡◌, ◌<◌, ◌≤◌, ℕ, ◌+◌, ◌-◌, ◌*◌, ◌^◌, ◌⊎◌, not, List, [], ◌∷◌, ◌++◌, length, take, drop, fold, IsTrue, codes}
use Rattle.std.specs.List.{list_all}
use Rattle.std.specs.Str.{IsValidUpTo}
use Rattle.ag_base.specs.declared.place.Refusal.{Refusal}
use Rattle.ag_base.specs.declared.place.Rule.{Rule}
use Rattle.ag_base.specs.declared.place.Rule.TheVariants.{NotUtf8, BadByte, OpenString, OpenAnnex, LongName, WideNumber}
use Rattle.ag_base.specs.Rules.{rank}
use Rattle.ag_lex.specs.declared.token.Language.{Language}
use Rattle.ag_lex.specs.declared.token.Language.TheVariants.{Aadl, Agree}
use Rattle.ag_lex.specs.declared.token.TokenKind.TheVariants.{Name, Number}
use Rattle.ag_lex.specs.Characters.{is_bad_byte, is_text_byte, begins, ends_line}
use Rattle.ag_lex.specs.Spelling.{IsToken, has_close}
use Rattle.ag_lex.specs.Places.{place_of}
use Rattle.ag_lex.specs.Tokens.{Piece, Lexeme, AreRead}

-- the number that digits write
abbrev pub decimal : List ℕ → ℕ
decimal digits = fold (λ value digit. value * 10 + (digit - 48)) 0 digits

-- what the rule forbids stands at the front of here
abbrev pub Breaks : Language → Rule → List ℕ → Type 0
-- a byte that may stand in comments, texts and annexes alone
Breaks l BadByte here = IsTrue (begins is_bad_byte here)
-- a `"`, and no other up to the line's end
Breaks l OpenString here = (text rest : List ℕ) × (here ≡ codes "\"" ++ (text ++ rest)) × IsTrue (list_all is_text_byte text) × IsTrue (ends_line rest)
-- `{**`, and no `**}` behind it
Breaks l OpenAnnex here = (rest : List ℕ) × (here ≡ codes "{**" ++ rest) × IsTrue (not (has_close rest))
-- a name of more than 255 bytes
Breaks l LongName here = (own rest : List ℕ) × (here ≡ own ++ rest) × IsToken l Name own rest × (255 < length own)
-- in an annex, a number over 2^47
Breaks Agree WideNumber here = (own rest : List ℕ) × (here ≡ own ++ rest) × IsToken Agree Number own rest × (2 ^ 47 < decimal own)
Breaks l _ here = ⊥

-- the file's bytes up to the n-th are the longest front that is UTF-8: the n-th is part of no character
abbrev pub IsNoText : Language → List ℕ → ℕ → Rule → Type 0
IsNoText l text n rule = (rule ≡ NotUtf8) × (l ≡ Aadl) × IsValidUpTo text n

-- white space, comments and tokens come up to the n-th byte, and what stands there breaks the rule
pub record IsBrokenAt (l : Language) (text : List ℕ) (n : ℕ) (rule : Rule) : Type 0 where
  pub within : n ≤ length text
  pub pieces : List Piece
  pub before : AreRead l pieces text (drop n text)
  pub broken : Breaks l rule (drop n text)

-- the rule is broken at the n-th byte
abbrev pub IsBroken : Language → List ℕ → ℕ → Rule → Type 0
IsBroken l text n rule = IsNoText l text n rule ⊎ IsBrokenAt l text n rule

-- text, which stands behind these bytes of the file, breaks the refusal's rule at its place, and none at an earlier place or earlier in the order
pub record IsFirstBroken (l : Language) (file : ℕ) (before text : List ℕ) (r : Refusal) : Type 0 where
  pub at : ℕ
  pub broken : IsBroken l text at r.rule
  pub placed : r.place ≡ place_of file (before ++ take at text)
  pub first : (n : ℕ) (rule : Rule) → IsBroken l text n rule → (at < n) ⊎ ((at ≡ n) × (rank r.rule ≤ rank rule))

-- a name isn't too long, and a number of an annex not too large
abbrev pub IsFine : Language → Piece → Type 0
IsFine l (Lexeme Name own) = length own ≤ 255
IsFine Agree (Lexeme Number own) = decimal own ≤ 2 ^ 47
IsFine l _ = Unit {0}

-- each of the pieces is so
abbrev pub AreFine : Language → List Piece → Type 0
AreFine l [] = Unit {0}
AreFine l (p ∷ ps) = IsFine l p × AreFine l ps

-- no rule is broken
abbrev pub KeepsRules : Language → List ℕ → Type 0
KeepsRules l text = (n : ℕ) (rule : Rule) → IsBroken l text n rule → ⊥
