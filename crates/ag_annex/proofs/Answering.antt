-- What an answer says, by the steps that were read.
use Rattle.std.proofs.Common.{◌≡◌, ◌<◌, inl, ℕ, List, [], ◌∷◌, ◌++◌, Option, Some, None, Result, Ok, Err, IfOk, length, drop, refl, sym, subst, ◌∙◌, append_assoc, append-nil, arith}
use Rattle.std.proofs.lemmas.List.{take-append-drop}
use Rattle.ag_base.specs.declared.place.Refusal.{Refusal}
use Rattle.ag_base.specs.declared.place.Refused.{Refused}
use Rattle.ag_base.specs.declared.place.Refused.TheVariants.{Model, OutOfMemory}
use Rattle.ag_grammar.specs.declared.grammar.Step.{Step}
use Rattle.ag_grammar.specs.declared.grammar.Step.TheVariants.{Shift}
use Rattle.ag_grammar.specs.Texts.{IsText, IsReading, AreForced, Begins, shifts}
use Rattle.ag_lex.specs.declared.token.Token.{Token}
use Rattle.ag_terms.specs.declared.clauses.Clause.{Clause}
use Rattle.ag_terms.specs.declared.clauses.Site.{Site}
use Rattle.ag_annex.specs.Annexes.{IsAnnex, IsFirstWrong, IsReadUnlessMemory, IsRefusedUnlessMemory}
use Rattle.ag_annex.specs.Grammar.{annex}
use Rattle.ag_aadl.specs.Marked.{marked}
use Rattle.ag_annex.specs.Rules.{run}
use Rattle.ag_annex.specs.Words.{terminals_of}
use Rattle.ag_annex.proofs.Breaking.{broken-at}
use Rattle.ag_annex.proofs.Refusals.{many}
use Rattle.ag_aadl.proofs.Shifting.{begins-front}

-- steps that were read begin a text
begun : (xs : List ℕ) (steps : List Step) (bad : Option ℕ) → IsReading annex xs steps bad → Begins annex xs steps
begun xs steps None text =
    (drop (shifts steps) xs, [], subst (λ q. IsText annex q (steps ++ [])) (sym (take-append-drop (shifts steps) xs)) (subst (λ q. IsText annex xs q) (sym (append-nil steps)) text))
begun xs steps (Some at) r = r.1

pub rule-broken : (bytes : List ℕ) (ts : List Token) (site : Site) (steps : List Step) (bad : Option ℕ) (r : Refusal) → IsReading annex (terminals_of bytes ts) steps bad → AreForced annex (terminals_of bytes ts) steps → run site (marked (terminals_of bytes ts) ts steps) ≡ Err r → IsFirstWrong bytes ts site r
rule-broken bytes ts site steps bad r reading forced e =
    let xs = terminals_of bytes ts in
    let b = broken-at site xs ts [] steps r e in
    let w = b.within in
    let m = many bytes ts in
    let less : shifts b.before < length xs = omega (arith, w, m) in
    let parts : steps ≡ (b.before ++ Shift b.mark ∷ []) ++ b.behind = b.parts ∙ sym (append_assoc b.before (Shift b.mark ∷ []) b.behind) in
    inl (record {
      before = b.before;
      mark = b.mark;
      within = b.within;
      begins = begins-front annex xs (b.before ++ Shift b.mark ∷ []) b.behind (subst (λ q. Begins annex xs q) parts (begun xs steps bad reading));
      always = λ rest all text. (forced b.before b.behind (Shift b.mark) b.parts).here less all rest text;
      obeyed = (b.last, b.obeyed);
      broken = b.broken;
    })

-- what is answered where the answer is right: the clauses, if the tokens are those of an annex, or the refusal, if they are none
abbrev pub IsRight : List ℕ → List Token → Site → Result (List Clause) Refused → Type 0
IsRight bytes ts site result = IfOk result (λ clauses. IsAnnex bytes ts site clauses) × ((r : Refusal) → result ≡ Err (Model r) → IsFirstWrong bytes ts site r)

abbrev pub HaveOneReading : Type 0
HaveOneReading = (bytes : List ℕ) (ts : List Token) (site : Site) (clauses others : List Clause) → IsAnnex bytes ts site clauses → IsAnnex bytes ts site others → clauses ≡ others

abbrev pub HaveOneRefusal : Type 0
HaveOneRefusal = (bytes : List ℕ) (ts : List Token) (site : Site) (r s : Refusal) → IsFirstWrong bytes ts site r → IsFirstWrong bytes ts site s → r ≡ s

abbrev pub AreOneOrTheOther : Type 0
AreOneOrTheOther = (bytes : List ℕ) (ts : List Token) (site : Site) (r : Refusal) (clauses : List Clause) → IsFirstWrong bytes ts site r → IsAnnex bytes ts site clauses → ⊥

pub reads : HaveOneReading → AreOneOrTheOther → (bytes : List ℕ) (ts : List Token) (site : Site) (result : Result (List Clause) Refused) → IsRight bytes ts site result → (clauses : List Clause) → IsAnnex bytes ts site clauses → IsReadUnlessMemory result clauses
reads one none bytes ts site (Ok found) right clauses f = one bytes ts site found clauses right.0 f
reads one none bytes ts site (Err OutOfMemory) right clauses f = tt
reads one none bytes ts site (Err (Model r)) right clauses f = none bytes ts site r clauses (right.1 r refl) f

pub refuses : HaveOneRefusal → AreOneOrTheOther → (bytes : List ℕ) (ts : List Token) (site : Site) (result : Result (List Clause) Refused) → IsRight bytes ts site result → (r : Refusal) → IsFirstWrong bytes ts site r → IsRefusedUnlessMemory result r
refuses one none bytes ts site (Ok found) right r wrong = none bytes ts site r found wrong right.0
refuses one none bytes ts site (Err OutOfMemory) right r wrong = tt
refuses one none bytes ts site (Err (Model found)) right r wrong = one bytes ts site found r (right.1 found refl) wrong
