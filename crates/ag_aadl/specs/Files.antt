-- Which packages a file's tokens are, and which refusal they get where they are none.
use Rattle.std.specs.Prelude.{◌≡◌, ◌<◌, ◌⊎◌, ℕ, suc, ◌==◌, Bool, false, ◌&&◌, not, ◌++◌, List, [], ◌∷◌, Some, Result, Ok, Err, length, take, drop, if◌then◌else◌}
use Rattle.ag_base.specs.declared.place.Refusal.{Refusal}
use Rattle.ag_base.specs.declared.place.Refused.{Refused}
use Rattle.ag_base.specs.declared.place.Refused.TheVariants.{Model, OutOfMemory}
use Rattle.ag_base.specs.declared.place.Rule.TheVariants.{Expected}
use Rattle.ag_grammar.specs.declared.grammar.Step.{Step}
use Rattle.ag_grammar.specs.declared.grammar.Step.TheVariants.{Shift}
use Rattle.ag_grammar.specs.Texts.{IsText, IsReading, AreForced, Begins, shifts}
use Rattle.ag_lex.specs.declared.token.Token.{Token}
use Rattle.ag_lex.specs.Places.{place_of}
use Rattle.ag_aadl.specs.declared.marked.Marked.{Marked}
use Rattle.ag_aadl.specs.declared.names.Names.{Names}
use Rattle.ag_aadl.specs.declared.packages.Package.{Package}
use Rattle.ag_aadl.specs.declared.rules.Context.{Context}
use Rattle.ag_aadl.specs.Grammar.{aadl}
use Rattle.ag_aadl.specs.Marked.{marked, own, first_of}
use Rattle.ag_aadl.specs.Marks.{part_mark}
use Rattle.ag_aadl.specs.Meaning.{packages_of}
use Rattle.ag_aadl.specs.Rules.{Obeys, run, start, same_names, is_end, refused_at, misnamed}
use Rattle.ag_aadl.specs.Unsupported.{bad_rule}
use Rattle.ag_aadl.specs.Words.{terminals_of}

-- The tokens are a text of the grammar that breaks no rule, and these are its packages.
pub record IsFile (bytes : List ℕ) (tokens : List Token) (packages : List Package) : Type 0 where
  pub steps : List Step
  pub text : IsText aadl (terminals_of bytes tokens) steps
  pub obeyed : Obeys bytes (marked (terminals_of bytes tokens) tokens steps)
  pub told : packages ≡ packages_of bytes (marked (terminals_of bytes tokens) tokens steps)

-- Each text that begins with the tokens up to this one, and there is one, breaks the rule at it, and none before.
pub record BreaksRule (bytes : List ℕ) (tokens : List Token) (r : Refusal) : Type 0 where
  pub before : List Step
  pub mark : ℕ
  pub within : shifts before < length tokens
  pub begins : Begins aadl (terminals_of bytes tokens) (before ++ Shift mark ∷ [])
  pub always : (rest : List ℕ) (all : List Step) → IsText aadl (take (suc (shifts before)) (terminals_of bytes tokens) ++ rest) all → (more : List Step) × (all ≡ before ++ Shift mark ∷ more)
  pub obeyed : Obeys bytes (marked (terminals_of bytes tokens) tokens before)
  pub broken : run bytes start (marked (terminals_of bytes tokens) tokens (before ++ Shift mark ∷ [])) ≡ Err r

-- What is broken at the first bad token, or where the input ends: a word that this profile lacks, or what the grammar expects.
abbrev pub refusal_of : List ℕ → Token → List Token → Refusal
refusal_of bytes first [] = record { place = place_of first.place.file bytes; rule = Expected }
refusal_of bytes first (t ∷ ts) = refused_at (bad_rule (own bytes t)) t

-- what is broken at the place of the first bad token
abbrev pub refusal_at : List ℕ → List Token → ℕ → Refusal
refusal_at bytes tokens at = refusal_of bytes (first_of tokens) (drop at tokens)

-- the last token is a name of a package's or a classifier's name
abbrev pub ends_in_part : List Marked → Bool
ends_in_part [] = false
ends_in_part (m ∷ []) = m.mark == part_mark
ends_in_part (m ∷ n ∷ ms) = ends_in_part (n ∷ ms)

-- a whole name stands last behind a package's `end`, and it isn't the declared one
abbrev pub is_ended_wrongly : List ℕ → Names → List Marked → Bool
is_ended_wrongly bytes n ms = is_end n.naming && (ends_in_part ms && not (same_names bytes n.package_name n.end))

-- what is broken first where the tokens before a place break no rule: the name that stands whole behind a package's `end`, else what is broken at the place
abbrev pub first_wrong : List ℕ → List Token → List Marked → Names → ℕ → Refusal
first_wrong bytes tokens ms n at = if is_ended_wrongly bytes n ms then misnamed n else refusal_at bytes tokens at

-- The tokens before a place begin a text and break no rule, and there they fail, or end too early. What is refused is the
-- token there, or the end; but the name behind a package's `end`, where it stands last, is whole and isn't the declared one.
pub record BreaksGrammar (bytes : List ℕ) (tokens : List Token) (r : Refusal) : Type 0 where
  pub steps : List Step
  pub at : ℕ
  pub reading : IsReading aadl (terminals_of bytes tokens) steps (Some at)
  pub forced : AreForced aadl (terminals_of bytes tokens) steps
  pub context : Context
  pub obeyed : run bytes start (marked (terminals_of bytes tokens) tokens steps) ≡ Ok context
  pub told : r ≡ first_wrong bytes tokens (marked (terminals_of bytes tokens) tokens steps) context.names at

-- the tokens are those of no packages, and this is the first broken rule
abbrev pub IsFirstWrong : List ℕ → List Token → Refusal → Type 0
IsFirstWrong bytes tokens r = BreaksRule bytes tokens r ⊎ BreaksGrammar bytes tokens r

-- the answer is these packages, or memory was wanting
abbrev pub IsReadUnlessMemory : Result (List Package) Refused → List Package → Type 0
IsReadUnlessMemory (Ok found) packages = found ≡ packages
IsReadUnlessMemory (Err OutOfMemory) packages = Unit {0}
IsReadUnlessMemory (Err (Model r)) packages = ⊥

-- the answer is this refusal, or memory was wanting
abbrev pub IsRefusedUnlessMemory : Result (List Package) Refused → Refusal → Type 0
IsRefusedUnlessMemory (Ok found) r = ⊥
IsRefusedUnlessMemory (Err OutOfMemory) r = Unit {0}
IsRefusedUnlessMemory (Err (Model found)) r = found ≡ r
