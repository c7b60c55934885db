-- Where a rule is broken first.
use Rattle.std.proofs.Common.{◌≡◌, ◌<◌, ℕ, List, [], ◌∷◌, ◌++◌, Result, Ok, Err, length, refl, ap, ◌∙◌, arith}
use Rattle.ag_base.specs.declared.place.Refusal.{Refusal}
use Rattle.ag_grammar.specs.declared.grammar.Step.{Step}
use Rattle.ag_grammar.specs.declared.grammar.Step.TheVariants.{Expand, Shift}
use Rattle.ag_grammar.specs.Texts.{shifts}
use Rattle.ag_lex.specs.declared.token.Token.{Token}
use Rattle.ag_aadl.specs.declared.rules.Context.{Context}
use Rattle.ag_aadl.specs.Marked.{marked}
use Rattle.ag_aadl.specs.Rules.{obey, run, run_from}

-- the shift at which the rule is broken
pub record BrokenAt (bytes xs : List ℕ) (ts : List Token) (c : Context) (steps : List Step) (r : Refusal) : Type 0 where
  pub before : List Step
  pub mark : ℕ
  pub behind : List Step
  pub parts : steps ≡ before ++ Shift mark ∷ behind
  pub within : shifts before < length ts
  pub last : Context
  pub obeyed : run bytes c (marked xs ts before) ≡ Ok last
  pub broken : run bytes c (marked xs ts (before ++ Shift mark ∷ [])) ≡ Err r

behind : (bytes xs : List ℕ) (ts : List Token) (c : Context) (steps : List Step) (r : Refusal) (x : ℕ) (t : Token) (k : ℕ) (o : Result Context Refusal) →
    ((d : Context) → run bytes d (marked xs ts steps) ≡ Err r → BrokenAt bytes xs ts d steps r) →
    obey bytes c (record { mark = k; terminal = x; token = t }) ≡ o → run_from bytes o (marked xs ts steps) ≡ Err r → BrokenAt bytes (x ∷ xs) (t ∷ ts) c (Shift k ∷ steps) r
behind bytes xs ts c steps r x t k (Err q) further o e = record {
  before = [];
  mark = k;
  behind = steps;
  parts = refl;
  within = omega arith;
  last = c;
  obeyed = refl;
  broken = ap (λ p. run_from bytes p []) o ∙ e;
}
behind bytes xs ts c steps r x t k (Ok d) further o e =
    let f = further d e in
    record {
      before = Shift k ∷ f.before;
      mark = f.mark;
      behind = f.behind;
      parts = ap (λ q. Shift k ∷ q) f.parts;
      within = omega (arith, f.within);
      last = f.last;
      obeyed = ap (λ p. run_from bytes p (marked xs ts f.before)) o ∙ f.obeyed;
      broken = ap (λ p. run_from bytes p (marked xs ts (f.before ++ Shift f.mark ∷ []))) o ∙ f.broken;
    }

pub broken-at : (bytes xs : List ℕ) (ts : List Token) (c : Context) (steps : List Step) (r : Refusal) → run bytes c (marked xs ts steps) ≡ Err r → BrokenAt bytes xs ts c steps r
broken-at bytes xs ts c [] r e = absurd cc
broken-at bytes xs ts c (Expand n ∷ steps) r e =
    let f = broken-at bytes xs ts c steps r e in
    record { before = Expand n ∷ f.before; mark = f.mark; behind = f.behind; parts = ap (λ q. Expand n ∷ q) f.parts; within = f.within; last = f.last; obeyed = f.obeyed; broken = f.broken }
broken-at bytes [] ts c (Shift k ∷ steps) r e = absurd cc
broken-at bytes (x ∷ xs) [] c (Shift k ∷ steps) r e = absurd cc
broken-at bytes (x ∷ xs) (t ∷ ts) c (Shift k ∷ steps) r e =
    behind bytes xs ts c steps r x t k (obey bytes c (record { mark = k; terminal = x; token = t })) (λ d q. broken-at bytes xs ts d steps r q) refl e
