-- What the rules say of some tokens and of those before them.
use Rattle.std.proofs.Common.{◌≡◌, ℕ, List, [], ◌∷◌, ◌++◌, Result, Ok, Err, drop, refl, sym, ap, ◌∙◌}
use Rattle.ag_base.specs.declared.place.Refusal.{Refusal}
use Rattle.ag_grammar.specs.declared.grammar.Step.{Step}
use Rattle.ag_grammar.specs.Texts.{shifts}
use Rattle.ag_lex.specs.declared.token.Token.{Token}
use Rattle.ag_aadl.specs.declared.marked.Marked.{Marked}
use Rattle.ag_aadl.specs.Marked.{marked}
use Rattle.ag_aadl.proofs.Shifting.{marked-append}
use Rattle.ag_terms.specs.declared.clauses.Site.{Site}
use Rattle.ag_annex.specs.declared.nesting.Open.{Open}
use Rattle.ag_annex.specs.Rules.{obey, run, run_from, Obeys}

pub run-append : (site : Site) (o : Result (List Open) Refusal) (a b : List Marked) → run_from site o (a ++ b) ≡ run_from site (run_from site o a) b
run-append site (Err r) a b = refl
run-append site (Ok opens) [] b = refl
run-append site (Ok opens) (m ∷ a) b = run-append site (obey site opens m) a b

-- a rule that is broken in the beginning of some steps is broken in them
pub not-broken : (site : Site) (xs : List ℕ) (ts : List Token) (front middle steps : List Step) (r : Refusal) → steps ≡ front ++ middle → run site (marked xs ts front) ≡ Err r → Obeys site (marked xs ts steps) → ⊥
not-broken site xs ts front middle steps r e broken obeyed =
    let rest = marked (drop (shifts front) xs) (drop (shifts front) ts) middle in
    let f : run site (marked xs ts steps) ≡ Err r =
    ap (λ q. run site (marked xs ts q)) e
    ∙ ap (run site) (marked-append xs ts front middle)
    ∙ run-append site (Ok []) (marked xs ts front) rest
    ∙ ap (λ q. run_from site q rest) broken in
    let g : run site (marked xs ts steps) ≡ Ok obeyed.0 = obeyed.1 in
    let h : Err r ≡ Ok obeyed.0 = sym f ∙ g in
    absurd cc
