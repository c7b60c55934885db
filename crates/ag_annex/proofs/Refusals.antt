-- Tokens break one rule first, and those of an annex none.
use Rattle.std.proofs.Common.{◌≡◌, ◌<◌, ◌≤◌, inl, inr, ℕ, suc, List, [], ◌∷◌, ◌++◌, Err, length, take, drop, refl, sym, ap, subst, ◌∙◌, append_assoc, arith}
use Rattle.std.proofs.lemmas.Bool.{cases_lt}
use Rattle.std.proofs.lemmas.List.{take-append-drop}
use Rattle.ag_base.specs.declared.place.Refusal.{Refusal}
use Rattle.ag_grammar.specs.declared.grammar.Step.{Step}
use Rattle.ag_grammar.specs.declared.grammar.Step.TheVariants.{Shift}
use Rattle.ag_grammar.specs.Texts.{IsText, IsFirstBad, Begins, shifts}
use Rattle.ag_lex.specs.declared.token.Token.{Token}
use Rattle.ag_terms.specs.declared.clauses.Clause.{Clause}
use Rattle.ag_terms.specs.declared.clauses.Site.{Site}
use Rattle.ag_annex.specs.Annexes.{IsAnnex, BreaksRule, BreaksGrammar, IsFirstWrong, refusal_at}
use Rattle.ag_annex.specs.Grammar.{annex}
use Rattle.ag_aadl.specs.Marked.{marked}
use Rattle.ag_annex.specs.Rules.{run, Obeys}
use Rattle.ag_annex.specs.Words.{terminals_of}
use Rattle.ag_aadl.proofs.Shifting.{shifts-append, inside, same-shift, regrouped, begins-front}
use Rattle.ag_annex.proofs.Running.{not-broken}

-- steps that begin a text and go past the token at which a rule is broken begin with the shift that breaks it
past : (bytes : List ℕ) (ts : List Token) (site : Site) (r : Refusal) (x : BreaksRule bytes ts site r) (steps : List Step) → Begins annex (terminals_of bytes ts) steps → shifts x.before < shifts steps →
    (middle : List Step) × (steps ≡ (x.before ++ Shift x.mark ∷ []) ++ middle)
past bytes ts site r x steps b h =
    let xs = terminals_of bytes ts in
    let n = suc (shifts x.before) in
    let up : n ≤ shifts steps = omega (arith, h) in
    let text : IsText annex (take n xs ++ (drop n (take (shifts steps) xs) ++ b.0)) (steps ++ b.1) =
    subst (λ q. IsText annex q (steps ++ b.1)) (regrouped xs b.0 n (shifts steps) up) b.2 in
    let z = x.always (drop n (take (shifts steps) xs) ++ b.0) (steps ++ b.1) text in
    inside steps b.1 x.before z.0 x.mark z.1 h

-- so these steps break a rule
not-past : (bytes : List ℕ) (ts : List Token) (site : Site) (r : Refusal) (x : BreaksRule bytes ts site r) (steps : List Step) → Begins annex (terminals_of bytes ts) steps → shifts x.before < shifts steps → Obeys site (marked (terminals_of bytes ts) ts steps) → ⊥
not-past bytes ts site r x steps b h obeyed =
    let z = past bytes ts site r x steps b h in
    not-broken site (terminals_of bytes ts) ts (x.before ++ Shift x.mark ∷ []) z.0 steps r z.1 x.broken obeyed

-- of two rules that are broken first none is broken before the other
not-before : (bytes : List ℕ) (ts : List Token) (site : Site) (r s : Refusal) (x : BreaksRule bytes ts site r) (y : BreaksRule bytes ts site s) → shifts x.before < shifts y.before → ⊥
not-before bytes ts site r s x y h =
    not-past bytes ts site r x y.before (begins-front annex (terminals_of bytes ts) y.before (Shift y.mark ∷ []) y.begins) h y.obeyed

-- and at one token there is one
at-one : (bytes : List ℕ) (ts : List Token) (site : Site) (r s : Refusal) (x : BreaksRule bytes ts site r) (y : BreaksRule bytes ts site s) → shifts x.before ≡ shifts y.before → r ≡ s
at-one bytes ts site r s x y h =
    let n = shifts-append y.before (Shift y.mark ∷ []) in
    let less : shifts x.before < shifts (y.before ++ Shift y.mark ∷ []) = omega (arith, h, n) in
    let z = past bytes ts site r x (y.before ++ Shift y.mark ∷ []) y.begins less in
    let same : y.before ++ Shift y.mark ∷ [] ≡ x.before ++ Shift x.mark ∷ [] =
    same-shift y.before x.before y.mark x.mark [] z.0 (z.1 ∙ append_assoc x.before (Shift x.mark ∷ []) z.0) (sym h) in
    let one = x.broken in
    let other = y.broken in
    let both : Err r ≡ Err s = sym one ∙ ap (λ q. run site (marked (terminals_of bytes ts) ts q)) (sym same) ∙ other in
    cc

two-rules : (bytes : List ℕ) (ts : List Token) (site : Site) (r s : Refusal) → BreaksRule bytes ts site r → BreaksRule bytes ts site s → r ≡ s
two-rules bytes ts site r s x y =
    elim (cases_lt (shifts x.before) (shifts y.before)) [
      | inl h ↦ absurd (not-before bytes ts site r s x y h)
      | inr h ↦ elim (cases_lt (shifts y.before) (shifts x.before)) [
        | inl k ↦ absurd (not-before bytes ts site s r y x k)
        | inr k ↦ at-one bytes ts site r s x y (omega (arith, h, k))
      ]
    ]

pub many : (bytes : List ℕ) (ts : List Token) → length (terminals_of bytes ts) ≡ length ts
many bytes [] = refl
many bytes (t ∷ ts) = ap suc (many bytes ts)

-- a rule and the grammar aren't both broken first
rule-and-grammar : (bytes : List ℕ) (ts : List Token) (site : Site) (r s : Refusal) → BreaksRule bytes ts site r → BreaksGrammar bytes ts site s → ⊥
rule-and-grammar bytes ts site r s x y =
    let xs = terminals_of bytes ts in
    let at : y.at ≡ shifts y.steps = y.reading.0 in
    elim (cases_lt (shifts x.before) (shifts y.steps)) [
      | inl h ↦ not-past bytes ts site r x y.steps y.reading.1 h y.obeyed
      | inr h ↦
          let n = shifts-append x.before (Shift x.mark ∷ []) in
          let w = x.within in
          let m = many bytes ts in
          let up : suc y.at ≤ shifts (x.before ++ Shift x.mark ∷ []) = omega (arith, h, n, at) in
          let less : y.at < length xs = omega (arith, h, w, m, at) in
          let b = x.begins in
          let bad : IsFirstBad annex xs y.at = y.reading.2 in
          bad.here less (
            drop (suc y.at) (take (shifts (x.before ++ Shift x.mark ∷ [])) xs) ++ b.0,
            (x.before ++ Shift x.mark ∷ []) ++ b.1,
            subst (λ q. IsText annex q ((x.before ++ Shift x.mark ∷ []) ++ b.1)) (regrouped xs b.0 (suc y.at) (shifts (x.before ++ Shift x.mark ∷ [])) up) b.2,
          )
    ]

two-grammar : (bytes : List ℕ) (ts : List Token) (site : Site) (r s : Refusal) (x : BreaksGrammar bytes ts site r) (y : BreaksGrammar bytes ts site s) → x.at ≡ y.at → r ≡ s
two-grammar bytes ts site r s x y at = x.told ∙ ap (refusal_at bytes ts) at ∙ sym y.told

pub one : ((xs : List ℕ) (at other : ℕ) → IsFirstBad annex xs at → IsFirstBad annex xs other → at ≡ other) →
    (bytes : List ℕ) (ts : List Token) (site : Site) (r s : Refusal) → IsFirstWrong bytes ts site r → IsFirstWrong bytes ts site s → r ≡ s
one place bytes ts site r s (inl x) (inl y) = two-rules bytes ts site r s x y
one place bytes ts site r s (inl x) (inr y) = absurd (rule-and-grammar bytes ts site r s x y)
one place bytes ts site r s (inr x) (inl y) = absurd (rule-and-grammar bytes ts site s r y x)
one place bytes ts site r s (inr x) (inr y) = two-grammar bytes ts site r s x y (place (terminals_of bytes ts) x.at y.at x.reading.2 y.reading.2)

pub none : ((xs : List ℕ) (at : ℕ) (steps : List Step) → IsFirstBad annex xs at → IsText annex xs steps → ⊥) →
    (bytes : List ℕ) (ts : List Token) (site : Site) (r : Refusal) (cs : List Clause) → IsFirstWrong bytes ts site r → IsAnnex bytes ts site cs → ⊥
none place bytes ts site r ps (inl x) f =
    let xs = terminals_of bytes ts in
    let n = suc (shifts x.before) in
    let z = x.always (drop n xs) f.steps (subst (λ q. IsText annex q f.steps) (sym (take-append-drop n xs)) f.text) in
    not-broken site xs ts (x.before ++ Shift x.mark ∷ []) z.0 f.steps r (z.1 ∙ sym (append_assoc x.before (Shift x.mark ∷ []) z.0)) x.broken f.obeyed
none place bytes ts site r ps (inr y) f = place (terminals_of bytes ts) y.at f.steps y.reading.2 f.text
