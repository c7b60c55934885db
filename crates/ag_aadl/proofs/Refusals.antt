-- Tokens break one rule first, and those of a file none.
use Rattle.std.proofs.Common.{◌≡◌, ◌<◌, ◌≤◌, ◌+◌, inl, inr, ℕ, suc, List, [], ◌∷◌, ◌++◌, Ok, Err, length, take, drop, refl, sym, ap, subst, ◌∙◌, append_assoc, arith}
use Rattle.std.proofs.lemmas.Bool.{cases_lt}
use Rattle.std.proofs.lemmas.List.{take-append-drop}
use Rattle.ag_base.specs.declared.place.Refusal.{Refusal}
use Rattle.ag_grammar.specs.declared.grammar.Step.{Step}
use Rattle.ag_grammar.specs.declared.grammar.Step.TheVariants.{Shift}
use Rattle.ag_grammar.specs.Texts.{IsText, IsFirstBad, AreForced, Begins, shifts}
use Rattle.ag_lex.specs.declared.token.Token.{Token}
use Rattle.ag_aadl.specs.declared.packages.Package.{Package}
use Rattle.ag_aadl.specs.declared.rules.Context.{Context}
use Rattle.ag_aadl.specs.Files.{IsFile, BreaksRule, BreaksGrammar, IsFirstWrong, first_wrong}
use Rattle.ag_aadl.specs.Grammar.{aadl}
use Rattle.ag_aadl.specs.Marked.{marked}
use Rattle.ag_aadl.specs.Rules.{run, start, Obeys}
use Rattle.ag_aadl.specs.Words.{terminals_of}
use Rattle.ag_aadl.proofs.Shifting.{shifts-append, marked-append, none-shifted, inside, same-shift, last-shift, regrouped, begins-front, not-broken}

-- steps that begin a text and go past the token at which a rule is broken begin with the shift that breaks it
past : (bytes : List ℕ) (ts : List Token) (r : Refusal) (x : BreaksRule bytes ts r) (steps : List Step) → Begins aadl (terminals_of bytes ts) steps → shifts x.before < shifts steps →
    (middle : List Step) × (steps ≡ (x.before ++ Shift x.mark ∷ []) ++ middle)
past bytes ts r x steps b h =
    let xs = terminals_of bytes ts in
    let n = suc (shifts x.before) in
    let up : n ≤ shifts steps = omega (arith, h) in
    let text : IsText aadl (take n xs ++ (drop n (take (shifts steps) xs) ++ b.0)) (steps ++ b.1) =
    subst (λ q. IsText aadl q (steps ++ b.1)) (regrouped xs b.0 n (shifts steps) up) b.2 in
    let z = x.always (drop n (take (shifts steps) xs) ++ b.0) (steps ++ b.1) text in
    inside steps b.1 x.before z.0 x.mark z.1 h

-- so these steps break a rule
not-past : (bytes : List ℕ) (ts : List Token) (r : Refusal) (x : BreaksRule bytes ts r) (steps : List Step) → Begins aadl (terminals_of bytes ts) steps → shifts x.before < shifts steps → Obeys bytes (marked (terminals_of bytes ts) ts steps) → ⊥
not-past bytes ts r x steps b h obeyed =
    let z = past bytes ts r x steps b h in
    not-broken bytes (terminals_of bytes ts) ts (x.before ++ Shift x.mark ∷ []) z.0 steps r z.1 x.broken obeyed

-- of two rules that are broken first none is broken before the other
not-before : (bytes : List ℕ) (ts : List Token) (r s : Refusal) (x : BreaksRule bytes ts r) (y : BreaksRule bytes ts s) → shifts x.before < shifts y.before → ⊥
not-before bytes ts r s x y h =
    not-past bytes ts r x y.before (begins-front aadl (terminals_of bytes ts) y.before (Shift y.mark ∷ []) y.begins) h y.obeyed

-- and at one token there is one
at-one : (bytes : List ℕ) (ts : List Token) (r s : Refusal) (x : BreaksRule bytes ts r) (y : BreaksRule bytes ts s) → shifts x.before ≡ shifts y.before → r ≡ s
at-one bytes ts r s x y h =
    let n = shifts-append y.before (Shift y.mark ∷ []) in
    let less : shifts x.before < shifts (y.before ++ Shift y.mark ∷ []) = omega (arith, h, n) in
    let z = past bytes ts r x (y.before ++ Shift y.mark ∷ []) y.begins less in
    let same : y.before ++ Shift y.mark ∷ [] ≡ x.before ++ Shift x.mark ∷ [] =
    same-shift y.before x.before y.mark x.mark [] z.0 (z.1 ∙ append_assoc x.before (Shift x.mark ∷ []) z.0) (sym h) in
    let one = x.broken in
    let other = y.broken in
    let both : Err r ≡ Err s = sym one ∙ ap (λ q. run bytes start (marked (terminals_of bytes ts) ts q)) (sym same) ∙ other in
    cc

two-rules : (bytes : List ℕ) (ts : List Token) (r s : Refusal) → BreaksRule bytes ts r → BreaksRule bytes ts s → r ≡ s
two-rules bytes ts r s x y =
    elim (cases_lt (shifts x.before) (shifts y.before)) [
      | inl h ↦ absurd (not-before bytes ts r s x y h)
      | inr h ↦ elim (cases_lt (shifts y.before) (shifts x.before)) [
        | inl k ↦ absurd (not-before bytes ts s r y x k)
        | inr k ↦ at-one bytes ts r s x y (omega (arith, h, k))
      ]
    ]

pub many : (bytes : List ℕ) (ts : List Token) → length (terminals_of bytes ts) ≡ length ts
many bytes [] = refl
many bytes (t ∷ ts) = ap suc (many bytes ts)

-- a rule and the grammar aren't both broken first
rule-and-grammar : (bytes : List ℕ) (ts : List Token) (r s : Refusal) → BreaksRule bytes ts r → BreaksGrammar bytes ts s → ⊥
rule-and-grammar bytes ts r s x y =
    let xs = terminals_of bytes ts in
    let at : y.at ≡ shifts y.steps = y.reading.0 in
    elim (cases_lt (shifts x.before) (shifts y.steps)) [
      | inl h ↦ not-past bytes ts r x y.steps y.reading.1 h (y.context, y.obeyed)
      | inr h ↦
          let n = shifts-append x.before (Shift x.mark ∷ []) in
          let w = x.within in
          let m = many bytes ts in
          let up : suc y.at ≤ shifts (x.before ++ Shift x.mark ∷ []) = omega (arith, h, n, at) in
          let less : y.at < length xs = omega (arith, h, w, m, at) in
          let b = x.begins in
          let bad : IsFirstBad aadl xs y.at = y.reading.2 in
          bad.here less (
            drop (suc y.at) (take (shifts (x.before ++ Shift x.mark ∷ [])) xs) ++ b.0,
            (x.before ++ Shift x.mark ∷ []) ++ b.1,
            subst (λ q. IsText aadl q ((x.before ++ Shift x.mark ∷ []) ++ b.1)) (regrouped xs b.0 (suc y.at) (shifts (x.before ++ Shift x.mark ∷ [])) up) b.2,
          )
    ]

-- forced steps and others that begin a text of as many of the tokens shift them under the same marks
same-marked : (bytes : List ℕ) (ts : List Token) (steps others : List Step) → AreForced aadl (terminals_of bytes ts) steps → Begins aadl (terminals_of bytes ts) others → shifts steps ≡ shifts others → shifts steps ≤ length (terminals_of bytes ts) →
    marked (terminals_of bytes ts) ts steps ≡ marked (terminals_of bytes ts) ts others
same-marked bytes ts steps others forced b same within =
    let xs = terminals_of bytes ts in
    elim (last-shift steps) [
      | inl h ↦ none-shifted xs ts steps h ∙ sym (none-shifted xs ts others (sym same ∙ h))
      | inr l ↦
          let before = l.0 in
          let mark = l.1 in
          let behind = l.2 in
          let front = before ++ Shift mark ∷ [] in
          let parts : steps ≡ front ++ behind = l.3 ∙ sym (append_assoc before (Shift mark ∷ []) behind) in
          let count : shifts steps ≡ shifts front + shifts behind = ap shifts parts ∙ shifts-append front behind in
          let fronts = shifts-append before (Shift mark ∷ []) in
          let none = l.4 in
          let here : suc (shifts before) ≡ shifts others = omega (arith, count, fronts, none, same) in
          let less : shifts before < length xs = omega (arith, here, same, within) in
          let text : IsText aadl (take (suc (shifts before)) xs ++ b.0) (others ++ b.1) = subst (λ n. IsText aadl (take n xs ++ b.0) (others ++ b.1)) (sym here) b.2 in
          let z = (forced before behind (Shift mark) l.3).here less (others ++ b.1) b.0 text in
          let w = inside others b.1 before z.0 mark z.1 (omega (arith, here)) in
          let rest : shifts w.0 ≡ 0 = omega (arith, here, ap shifts w.1, shifts-append front w.0, fronts) in
          ap (marked xs ts) parts ∙ marked-append xs ts front behind ∙ ap (λ q. marked xs ts front ++ q) (none-shifted (drop (shifts front) xs) (drop (shifts front) ts) behind none)
          ∙ sym (ap (marked xs ts) w.1 ∙ marked-append xs ts front w.0 ∙ ap (λ q. marked xs ts front ++ q) (none-shifted (drop (shifts front) xs) (drop (shifts front) ts) w.0 rest))
    ]

two-grammar : (bytes : List ℕ) (ts : List Token) (r s : Refusal) (x : BreaksGrammar bytes ts r) (y : BreaksGrammar bytes ts s) → x.at ≡ y.at → r ≡ s
two-grammar bytes ts r s x y at =
    let xs = terminals_of bytes ts in
    let bad : IsFirstBad aadl xs x.at = x.reading.2 in
    let count : shifts x.steps ≡ shifts y.steps = sym x.reading.0 ∙ at ∙ y.reading.0 in
    let within : shifts x.steps ≤ length xs = subst (λ n. n ≤ length xs) x.reading.0 bad.within in
    let ms : marked xs ts x.steps ≡ marked xs ts y.steps = same-marked bytes ts x.steps y.steps x.forced y.reading.1 count within in
    let contexts : Ok x.context ≡ Ok y.context = sym x.obeyed ∙ ap (run bytes start) ms ∙ y.obeyed in
    let context : x.context ≡ y.context = cc in
    x.told ∙ ap (λ q. first_wrong bytes ts q x.context.names x.at) ms ∙ ap (λ (q : Context). first_wrong bytes ts (marked xs ts y.steps) q.names x.at) context ∙ ap (λ n. first_wrong bytes ts (marked xs ts y.steps) y.context.names n) at ∙ sym y.told

pub one : ((xs : List ℕ) (at other : ℕ) → IsFirstBad aadl xs at → IsFirstBad aadl xs other → at ≡ other) →
    (bytes : List ℕ) (ts : List Token) (r s : Refusal) → IsFirstWrong bytes ts r → IsFirstWrong bytes ts s → r ≡ s
one place bytes ts r s (inl x) (inl y) = two-rules bytes ts r s x y
one place bytes ts r s (inl x) (inr y) = absurd (rule-and-grammar bytes ts r s x y)
one place bytes ts r s (inr x) (inl y) = absurd (rule-and-grammar bytes ts s r y x)
one place bytes ts r s (inr x) (inr y) = two-grammar bytes ts r s x y (place (terminals_of bytes ts) x.at y.at x.reading.2 y.reading.2)

pub none : ((xs : List ℕ) (at : ℕ) (steps : List Step) → IsFirstBad aadl xs at → IsText aadl xs steps → ⊥) →
    (bytes : List ℕ) (ts : List Token) (r : Refusal) (ps : List Package) → IsFirstWrong bytes ts r → IsFile bytes ts ps → ⊥
none place bytes ts r ps (inl x) f =
    let xs = terminals_of bytes ts in
    let n = suc (shifts x.before) in
    let z = x.always (drop n xs) f.steps (subst (λ q. IsText aadl q f.steps) (sym (take-append-drop n xs)) f.text) in
    not-broken bytes xs ts (x.before ++ Shift x.mark ∷ []) z.0 f.steps r (z.1 ∙ sym (append_assoc x.before (Shift x.mark ∷ []) z.0)) x.broken f.obeyed
none place bytes ts r ps (inr y) f = place (terminals_of bytes ts) y.at f.steps y.reading.2 f.text
