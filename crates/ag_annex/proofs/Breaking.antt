-- Where a rule is broken first.
use Rattle.std.proofs.Common.{◌≡◌, ◌<◌, ℕ, List, [], ◌∷◌, ◌++◌, Result, Ok, Err, length, refl, ap, ◌∙◌, arith}
use Rattle.ag_base.specs.declared.place.Refusal.{Refusal}
use Rattle.ag_grammar.specs.declared.grammar.Step.{Step}
use Rattle.ag_grammar.specs.declared.grammar.Step.TheVariants.{Expand, Shift}
use Rattle.ag_grammar.specs.Texts.{shifts}
use Rattle.ag_lex.specs.declared.token.Token.{Token}
use Rattle.ag_terms.specs.declared.clauses.Site.{Site}
use Rattle.ag_annex.specs.declared.nesting.Open.{Open}
use Rattle.ag_aadl.specs.Marked.{marked}
use Rattle.ag_annex.specs.Rules.{obey, run_from}

-- the shift at which the rule is broken, from such a nesting on
pub record BrokenAt (site : Site) (xs : List ℕ) (ts : List Token) (opens : List Open) (steps : List Step) (r : Refusal) : Type 0 where
  pub before : List Step
  pub mark : ℕ
  pub behind : List Step
  pub parts : steps ≡ before ++ Shift mark ∷ behind
  pub within : shifts before < length ts
  pub last : List Open
  pub obeyed : run_from site (Ok opens) (marked xs ts before) ≡ Ok last
  pub broken : run_from site (Ok opens) (marked xs ts (before ++ Shift mark ∷ [])) ≡ Err r

behind : (site : Site) (xs : List ℕ) (ts : List Token) (opens : List Open) (steps : List Step) (r : Refusal) (x : ℕ) (t : Token) (k : ℕ) (o : Result (List Open) Refusal) →
    ((d : List Open) → run_from site (Ok d) (marked xs ts steps) ≡ Err r → BrokenAt site xs ts d steps r) →
    obey site opens (record { mark = k; terminal = x; token = t }) ≡ o → run_from site o (marked xs ts steps) ≡ Err r → BrokenAt site (x ∷ xs) (t ∷ ts) opens (Shift k ∷ steps) r
behind site xs ts opens steps r x t k (Err q) further o e = record {
  before = [];
  mark = k;
  behind = steps;
  parts = refl;
  within = omega arith;
  last = opens;
  obeyed = refl;
  broken = ap (λ p. run_from site p []) o ∙ e;
}
behind site xs ts opens steps r x t k (Ok d) further o e =
    let f = further d e in
    record {
      before = Shift k ∷ f.before;
      mark = f.mark;
      behind = f.behind;
      parts = ap (λ q. Shift k ∷ q) f.parts;
      within = omega (arith, f.within);
      last = f.last;
      obeyed = ap (λ p. run_from site p (marked xs ts f.before)) o ∙ f.obeyed;
      broken = ap (λ p. run_from site p (marked xs ts (f.before ++ Shift f.mark ∷ []))) o ∙ f.broken;
    }

pub broken-at : (site : Site) (xs : List ℕ) (ts : List Token) (opens : List Open) (steps : List Step) (r : Refusal) → run_from site (Ok opens) (marked xs ts steps) ≡ Err r → BrokenAt site xs ts opens steps r
broken-at site xs ts opens [] r e = absurd cc
broken-at site xs ts opens (Expand n ∷ steps) r e =
    let f = broken-at site xs ts opens steps r e in
    record { before = Expand n ∷ f.before; mark = f.mark; behind = f.behind; parts = ap (λ q. Expand n ∷ q) f.parts; within = f.within; last = f.last; obeyed = f.obeyed; broken = f.broken }
broken-at site [] ts opens (Shift k ∷ steps) r e = absurd cc
broken-at site (x ∷ xs) [] opens (Shift k ∷ steps) r e = absurd cc
broken-at site (x ∷ xs) (t ∷ ts) opens (Shift k ∷ steps) r e =
    behind site xs ts opens steps r x t k (obey site opens (record { mark = k; terminal = x; token = t })) (λ d q. broken-at site xs ts d steps r q) refl e
