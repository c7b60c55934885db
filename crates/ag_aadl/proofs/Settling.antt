-- Tokens are those of some packages, or break a rule first.
use Rattle.std.proofs.Common.{◌≡◌, ◌⊎◌, inl, inr, ℕ, List, Option, Some, None, Result, Ok, Err, refl}
use Rattle.ag_base.specs.declared.place.Refusal.{Refusal}
use Rattle.ag_grammar.specs.declared.grammar.Step.{Step}
use Rattle.ag_grammar.specs.Texts.{IsReading, AreForced}
use Rattle.ag_lex.specs.declared.token.Token.{Token}
use Rattle.ag_aadl.specs.declared.packages.Package.{Package}
use Rattle.ag_aadl.specs.declared.rules.Context.{Context}
use Rattle.ag_aadl.specs.Files.{IsFile, IsFirstWrong, first_wrong}
use Rattle.ag_aadl.specs.Grammar.{aadl}
use Rattle.ag_aadl.specs.Marked.{marked}
use Rattle.ag_aadl.specs.Meaning.{packages_of}
use Rattle.ag_aadl.specs.Rules.{run, start}
use Rattle.ag_aadl.specs.Words.{terminals_of}
use Rattle.ag_aadl.proofs.Answering.{rule-broken}

-- the tokens are those of some packages, or there is a rule that they break first
abbrev pub IsSettled : List ℕ → List Token → Type 0
IsSettled bytes ts = ((packages : List Package) × IsFile bytes ts packages) ⊎ ((r : Refusal) × IsFirstWrong bytes ts r)

-- by what the rules say of the tokens that were read, and whether the terminals were read to their end
by_rules : (bytes : List ℕ) (ts : List Token) (steps : List Step) (bad : Option ℕ) (o : Result Context Refusal) → IsReading aadl (terminals_of bytes ts) steps bad → AreForced aadl (terminals_of bytes ts) steps
    → run bytes start (marked (terminals_of bytes ts) ts steps) ≡ o → IsSettled bytes ts
by_rules bytes ts steps bad (Err r) reading forced e = inr (r, rule-broken bytes ts steps bad r reading forced e)
by_rules bytes ts steps None (Ok context) reading forced e =
    inl (packages_of bytes (marked (terminals_of bytes ts) ts steps), record { steps = steps; text = reading; obeyed = (context, e); told = refl })
by_rules bytes ts steps (Some at) (Ok context) reading forced e =
    inr (
      first_wrong bytes ts (marked (terminals_of bytes ts) ts steps) context.names at,
      inr (record { steps = steps; at = at; reading = reading; forced = forced; context = context; obeyed = e; told = refl }),
    )

-- so it is of all tokens, where lists of terminals are read
pub settled : ((xs : List ℕ) → (steps : List Step) × (bad : Option ℕ) × IsReading aadl xs steps bad × AreForced aadl xs steps) → (bytes : List ℕ) (ts : List Token) → IsSettled bytes ts
settled read bytes ts =
    let r = read (terminals_of bytes ts) in
    by_rules bytes ts r.0 r.1 (run bytes start (marked (terminals_of bytes ts) ts r.0)) r.2 r.3 refl
