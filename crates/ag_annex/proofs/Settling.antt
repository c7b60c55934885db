-- Tokens are those of some clauses, or break a rule first.
use Rattle.std.proofs.Common.{◌≡◌, ◌⊎◌, inl, inr, ℕ, List, Option, Some, None, Result, Ok, Err, refl}
use Rattle.ag_base.specs.declared.place.Refusal.{Refusal}
use Rattle.ag_grammar.specs.declared.grammar.Step.{Step}
use Rattle.ag_grammar.specs.Texts.{IsReading, AreForced}
use Rattle.ag_lex.specs.declared.token.Token.{Token}
use Rattle.ag_aadl.specs.Marked.{marked}
use Rattle.ag_terms.specs.declared.clauses.Clause.{Clause}
use Rattle.ag_terms.specs.declared.clauses.Site.{Site}
use Rattle.ag_annex.specs.declared.nesting.Open.{Open}
use Rattle.ag_annex.specs.Annexes.{IsAnnex, IsFirstWrong, refusal_at}
use Rattle.ag_annex.specs.Clauses.{clauses_of}
use Rattle.ag_annex.specs.Grammar.{annex}
use Rattle.ag_annex.specs.Rules.{run}
use Rattle.ag_annex.specs.Words.{terminals_of}
use Rattle.ag_annex.proofs.Answering.{rule-broken}

-- the tokens are those of some clauses, or there is a rule that they break first
abbrev pub IsSettled : List ℕ → List Token → Site → Type 0
IsSettled bytes ts site = ((clauses : List Clause) × IsAnnex bytes ts site clauses) ⊎ ((r : Refusal) × IsFirstWrong bytes ts site r)

-- by what the rules say of the tokens that were read, and whether the terminals were read to their end
by_rules : (bytes : List ℕ) (ts : List Token) (site : Site) (steps : List Step) (bad : Option ℕ) (o : Result (List Open) Refusal) → IsReading annex (terminals_of bytes ts) steps bad → AreForced annex (terminals_of bytes ts) steps
    → run site (marked (terminals_of bytes ts) ts steps) ≡ o → IsSettled bytes ts site
by_rules bytes ts site steps bad (Err r) reading forced e = inr (r, rule-broken bytes ts site steps bad r reading forced e)
by_rules bytes ts site steps None (Ok opens) reading forced e =
    inl (clauses_of bytes (marked (terminals_of bytes ts) ts steps), record { steps = steps; text = reading; obeyed = (opens, e); told = refl })
by_rules bytes ts site steps (Some at) (Ok opens) reading forced e =
    inr (refusal_at bytes ts at, inr (record { steps = steps; at = at; reading = reading; forced = forced; obeyed = (opens, e); told = refl }))

-- so it is of all tokens, where lists of terminals are read
pub settled : ((xs : List ℕ) → (steps : List Step) × (bad : Option ℕ) × IsReading annex xs steps bad × AreForced annex xs steps) → (bytes : List ℕ) (ts : List Token) (site : Site) → IsSettled bytes ts site
settled read bytes ts site =
    let r = read (terminals_of bytes ts) in
    by_rules bytes ts site r.0 r.1 (run site (marked (terminals_of bytes ts) ts r.0)) r.2 r.3 refl
