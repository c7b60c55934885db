-- Which clauses an annex's tokens are, and which refusal they get where they are none.
use Rattle.std.specs.Prelude.{◌≡◌, ◌<◌, ◌⊎◌, ℕ, suc, List, [], ◌∷◌, ◌++◌, Some, Result, Ok, Err, length, take, drop, nat_eq, codes, if◌then◌else◌}
use Rattle.std.specs.List.{starts_with}
use Rattle.ag_base.specs.declared.place.Place.{Place}
use Rattle.ag_base.specs.declared.place.Refusal.{Refusal}
use Rattle.ag_base.specs.declared.place.Refused.{Refused}
use Rattle.ag_base.specs.declared.place.Refused.TheVariants.{Model, OutOfMemory}
use Rattle.ag_base.specs.declared.place.Rule.TheVariants.{Expected}
use Rattle.ag_grammar.specs.declared.grammar.Step.{Step}
use Rattle.ag_grammar.specs.declared.grammar.Step.TheVariants.{Shift}
use Rattle.ag_grammar.specs.Texts.{IsText, IsReading, AreForced, Begins, shifts}
use Rattle.ag_lex.specs.declared.token.Language.TheVariants.{Agree}
use Rattle.ag_lex.specs.declared.token.Token.{Token}
use Rattle.ag_lex.specs.Answers.{AreKept, IsAnnexOf, bytes_before, bytes_inside}
use Rattle.ag_lex.specs.Places.{place_of}
use Rattle.ag_aadl.specs.Marked.{marked, own, first_of}
use Rattle.ag_aadl.specs.Rules.{refused_at}
use Rattle.ag_terms.specs.declared.clauses.Clause.{Clause}
use Rattle.ag_terms.specs.declared.clauses.Site.{Site}
use Rattle.ag_annex.specs.Clauses.{clauses_of}
use Rattle.ag_annex.specs.Grammar.{annex}
use Rattle.ag_annex.specs.Rules.{Obeys, run}
use Rattle.ag_annex.specs.Unsupported.{bad_rule}
use Rattle.ag_annex.specs.Words.{terminals_of}

-- these are the tokens of one of the annexes of a file with these bytes, and they break no rule of tokens
pub record AreAnnexTokens (bytes : List ℕ) (tokens : List Token) : Type 0 where
  pub annex : Token
  pub among : IsAnnexOf bytes annex
  pub kept : AreKept Agree annex.place.file (bytes_before bytes annex) (bytes_inside bytes annex) tokens

-- The tokens are a text of the grammar that breaks no rule at such a site, and these are its clauses.
pub record IsAnnex (bytes : List ℕ) (tokens : List Token) (site : Site) (clauses : List Clause) : Type 0 where
  pub steps : List Step
  pub text : IsText annex (terminals_of bytes tokens) steps
  pub obeyed : Obeys site (marked (terminals_of bytes tokens) tokens steps)
  pub told : clauses ≡ clauses_of bytes (marked (terminals_of bytes tokens) tokens steps)

-- Each text of the flat grammar that begins with the tokens up to this one, and there is one, breaks the rule at it, and none before.
pub record BreaksRule (bytes : List ℕ) (tokens : List Token) (site : Site) (r : Refusal) : Type 0 where
  pub before : List Step
  pub mark : ℕ
  pub within : shifts before < length tokens
  pub begins : Begins annex (terminals_of bytes tokens) (before ++ Shift mark ∷ [])
  pub always : (rest : List ℕ) (all : List Step) → IsText annex (take (suc (shifts before)) (terminals_of bytes tokens) ++ rest) all → (more : List Step) × (all ≡ before ++ Shift mark ∷ more)
  pub obeyed : Obeys site (marked (terminals_of bytes tokens) tokens before)
  pub broken : run site (marked (terminals_of bytes tokens) tokens (before ++ Shift mark ∷ [])) ≡ Err r

-- how many bytes stand before the first `**}`
abbrev pub close_at : List ℕ → ℕ
close_at [] = 0
close_at (b ∷ bs) = if starts_with nat_eq (b ∷ bs) (codes "**}") then 0 else suc (close_at bs)

-- the last of some tokens; there is one where the end of an annex is refused
abbrev pub last_of : List Token → Token
last_of [] = first_of []
last_of (t ∷ []) = t
last_of (t ∷ u ∷ ts) = last_of (u ∷ ts)

-- the bytes of the file before the `**}` behind a token
abbrev pub bytes_up_to_close : List ℕ → Token → List ℕ
bytes_up_to_close bytes t = take t.end bytes ++ take (close_at (drop t.end bytes)) (drop t.end bytes)

-- the place where the annex of these tokens ends
abbrev pub end_of : List ℕ → List Token → Place
end_of bytes tokens = place_of (first_of tokens).place.file (bytes_up_to_close bytes (last_of tokens))

-- What is broken at the first bad token, or at the annex's end: a word that this profile lacks, or what the grammar expects.
abbrev pub refusal_of : List ℕ → List Token → List Token → Refusal
refusal_of bytes tokens [] = record { place = end_of bytes tokens; rule = Expected }
refusal_of bytes tokens (t ∷ ts) = refused_at (bad_rule (own bytes t)) t

-- what is broken at the place of the first bad token
abbrev pub refusal_at : List ℕ → List Token → ℕ → Refusal
refusal_at bytes tokens at = refusal_of bytes tokens (drop at tokens)

-- The tokens before a place begin a text and break no rule, and there they fail, or end too early.
pub record BreaksGrammar (bytes : List ℕ) (tokens : List Token) (site : Site) (r : Refusal) : Type 0 where
  pub steps : List Step
  pub at : ℕ
  pub reading : IsReading annex (terminals_of bytes tokens) steps (Some at)
  pub forced : AreForced annex (terminals_of bytes tokens) steps
  pub obeyed : Obeys site (marked (terminals_of bytes tokens) tokens steps)
  pub told : r ≡ refusal_at bytes tokens at

-- the tokens are those of no clauses at such a site, and this is the first broken rule
abbrev pub IsFirstWrong : List ℕ → List Token → Site → Refusal → Type 0
IsFirstWrong bytes tokens site r = BreaksRule bytes tokens site r ⊎ BreaksGrammar bytes tokens site r

-- the answer is these clauses, or memory was wanting
abbrev pub IsReadUnlessMemory : Result (List Clause) Refused → List Clause → Type 0
IsReadUnlessMemory (Ok found) clauses = found ≡ clauses
IsReadUnlessMemory (Err OutOfMemory) clauses = Unit {0}
IsReadUnlessMemory (Err (Model r)) clauses = ⊥

-- the answer is this refusal, or memory was wanting
abbrev pub IsRefusedUnlessMemory : Result (List Clause) Refused → Refusal → Type 0
IsRefusedUnlessMemory (Ok found) r = ⊥
IsRefusedUnlessMemory (Err OutOfMemory) r = Unit {0}
IsRefusedUnlessMemory (Err (Model found)) r = found ≡ r
