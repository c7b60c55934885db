-- What the calls of this crate answer.
use Rattle.std.specs.Prelude.{◌≡◌, ℕ, ◌+◌, ◌-◌, List, [], take, slice_range, Contains, Result, Ok, Err}
use Rattle.ag_base.specs.declared.place.Refusal.{Refusal}
use Rattle.ag_base.specs.declared.place.Refused.{Refused}
use Rattle.ag_base.specs.declared.place.Refused.TheVariants.{Model, OutOfMemory}
use Rattle.ag_lex.specs.declared.token.Language.{Language}
use Rattle.ag_lex.specs.declared.token.Language.TheVariants.{Aadl}
use Rattle.ag_lex.specs.declared.token.TokenKind.TheVariants.{Annex}
use Rattle.ag_lex.specs.declared.token.Token.{Token}
use Rattle.ag_lex.specs.Tokens.{AreTokens}
use Rattle.ag_lex.specs.Rules.{KeepsRules}

-- these are the text's tokens, and it breaks no rule
pub record AreKept (l : Language) (file : ℕ) (before text : List ℕ) (tokens : List Token) : Type 0 where
  pub read : AreTokens l file before text tokens
  pub kept : KeepsRules l text

-- the answer is these tokens, or memory was wanting
abbrev pub IsReadUnlessMemory : Result (List Token) Refused → List Token → Type 0
IsReadUnlessMemory (Ok found) tokens = found ≡ tokens
IsReadUnlessMemory (Err OutOfMemory) tokens = Unit {0}
IsReadUnlessMemory (Err (Model r)) tokens = ⊥

-- the answer is this refusal, or memory was wanting
abbrev pub IsRefusedUnlessMemory : Result (List Token) Refused → Refusal → Type 0
IsRefusedUnlessMemory (Ok found) r = ⊥
IsRefusedUnlessMemory (Err OutOfMemory) r = Unit {0}
IsRefusedUnlessMemory (Err (Model found)) r = found ≡ r

-- the token is an annex among the tokens of a file with these bytes
pub record IsAnnexOf (bytes : List ℕ) (annex : Token) : Type 0 where
  pub file : ℕ
  pub tokens : List Token
  pub read : AreTokens Aadl file [] bytes tokens
  pub among : Contains tokens annex
  pub kind : annex.kind ≡ Annex

-- the file's bytes before an annex's clauses, with its opening mark, and the bytes of the clauses
abbrev pub bytes_before : List ℕ → Token → List ℕ
bytes_before bytes annex = take (annex.start + 3) bytes

abbrev pub bytes_inside : List ℕ → Token → List ℕ
bytes_inside bytes annex = slice_range bytes (annex.start + 3) (annex.end - 3)
