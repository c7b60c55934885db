-- What an answer says, by the steps that were read.
use Rattle.std.proofs.Common.{◌≡◌, ◌<◌, inl, ℕ, List, [], ◌∷◌, ◌++◌, Option, Some, None, Result, Ok, Err, IfOk, length, drop, refl, sym, subst, ◌∙◌, append_assoc, append-nil, arith}
use Rattle.std.proofs.lemmas.List.{take-append-drop}
use Rattle.ag_base.specs.declared.place.Refusal.{Refusal}
use Rattle.ag_base.specs.declared.place.Refused.{Refused}
use Rattle.ag_base.specs.declared.place.Refused.TheVariants.{Model, OutOfMemory}
use Rattle.ag_grammar.specs.declared.grammar.Step.{Step}
use Rattle.ag_grammar.specs.declared.grammar.Step.TheVariants.{Shift}
use Rattle.ag_grammar.specs.Texts.{IsText, IsReading, AreForced, Begins, shifts}
use Rattle.ag_lex.specs.declared.token.Token.{Token}
use Rattle.ag_aadl.specs.declared.packages.Package.{Package}
use Rattle.ag_aadl.specs.Files.{IsFile, IsFirstWrong, IsReadUnlessMemory, IsRefusedUnlessMemory}
use Rattle.ag_aadl.specs.Grammar.{aadl}
use Rattle.ag_aadl.specs.Marked.{marked}
use Rattle.ag_aadl.specs.Rules.{run, start}
use Rattle.ag_aadl.specs.Words.{terminals_of}
use Rattle.ag_aadl.proofs.Breaking.{broken-at}
use Rattle.ag_aadl.proofs.Refusals.{many}
use Rattle.ag_aadl.proofs.Shifting.{begins-front}

-- steps that were read begin a text
begun : (xs : List ℕ) (steps : List Step) (bad : Option ℕ) → IsReading aadl xs steps bad → Begins aadl xs steps
begun xs steps None text =
    (drop (shifts steps) xs, [], subst (λ q. IsText aadl q (steps ++ [])) (sym (take-append-drop (shifts steps) xs)) (subst (λ q. IsText aadl xs q) (sym (append-nil steps)) text))
begun xs steps (Some at) r = r.1

pub rule-broken : (bytes : List ℕ) (ts : List Token) (steps : List Step) (bad : Option ℕ) (r : Refusal) → IsReading aadl (terminals_of bytes ts) steps bad → AreForced aadl (terminals_of bytes ts) steps → run bytes start (marked (terminals_of bytes ts) ts steps) ≡ Err r → IsFirstWrong bytes ts r
rule-broken bytes ts steps bad r reading forced e =
    let xs = terminals_of bytes ts in
    let b = broken-at bytes xs ts start steps r e in
    let w = b.within in
    let m = many bytes ts in
    let less : shifts b.before < length xs = omega (arith, w, m) in
    let parts : steps ≡ (b.before ++ Shift b.mark ∷ []) ++ b.behind = b.parts ∙ sym (append_assoc b.before (Shift b.mark ∷ []) b.behind) in
    inl (record {
      before = b.before;
      mark = b.mark;
      within = b.within;
      begins = begins-front aadl xs (b.before ++ Shift b.mark ∷ []) b.behind (subst (λ q. Begins aadl xs q) parts (begun xs steps bad reading));
      always = λ rest all text. (forced b.before b.behind (Shift b.mark) b.parts).here less all rest text;
      obeyed = (b.last, b.obeyed);
      broken = b.broken;
    })

-- what is answered where the answer is right: the packages, if the tokens are a file, or the refusal, if they are none
abbrev pub IsRight : List ℕ → List Token → Result (List Package) Refused → Type 0
IsRight bytes ts result = IfOk result (λ packages. IsFile bytes ts packages) × ((r : Refusal) → result ≡ Err (Model r) → IsFirstWrong bytes ts r)

abbrev pub HaveOneReading : Type 0
HaveOneReading = (bytes : List ℕ) (ts : List Token) (packages others : List Package) → IsFile bytes ts packages → IsFile bytes ts others → packages ≡ others

abbrev pub HaveOneRefusal : Type 0
HaveOneRefusal = (bytes : List ℕ) (ts : List Token) (r s : Refusal) → IsFirstWrong bytes ts r → IsFirstWrong bytes ts s → r ≡ s

abbrev pub AreOneOrTheOther : Type 0
AreOneOrTheOther = (bytes : List ℕ) (ts : List Token) (r : Refusal) (packages : List Package) → IsFirstWrong bytes ts r → IsFile bytes ts packages → ⊥

pub reads : HaveOneReading → AreOneOrTheOther → (bytes : List ℕ) (ts : List Token) (result : Result (List Package) Refused) → IsRight bytes ts result → (packages : List Package) → IsFile bytes ts packages → IsReadUnlessMemory result packages
reads one none bytes ts (Ok found) right packages f = one bytes ts found packages right.0 f
reads one none bytes ts (Err OutOfMemory) right packages f = tt
reads one none bytes ts (Err (Model r)) right packages f = none bytes ts r packages (right.1 r refl) f

pub refuses : HaveOneRefusal → AreOneOrTheOther → (bytes : List ℕ) (ts : List Token) (result : Result (List Package) Refused) → IsRight bytes ts result → (r : Refusal) → IsFirstWrong bytes ts r → IsRefusedUnlessMemory result r
refuses one none bytes ts (Ok found) right r wrong = none bytes ts r found wrong right.0
refuses one none bytes ts (Err OutOfMemory) right r wrong = tt
refuses one none bytes ts (Err (Model found)) right r wrong = one bytes ts found r (right.1 found refl) wrong
