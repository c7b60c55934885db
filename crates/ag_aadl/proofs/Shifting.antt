-- Steps, the tokens that they shift, and what the rules say of these.
use Rattle.std.proofs.Common.{◌≡◌, ◌<◌, ◌≤◌, ◌+◌, ◌⊎◌, inl, inr, ℕ, suc, List, [], ◌∷◌, ◌++◌, Result, Ok, Err, take, drop, refl, sym, ap, subst, ◌∙◌, append_assoc, arith}
use Rattle.std.proofs.lemmas.List.{take-append-drop, take-take}
use Rattle.ag_base.specs.declared.place.Refusal.{Refusal}
use Rattle.ag_grammar.specs.declared.grammar.Step.{Step}
use Rattle.ag_grammar.specs.declared.grammar.Step.TheVariants.{Expand, Shift}
use Rattle.ag_grammar.specs.Grammar.{PlainGrammar}
use Rattle.ag_grammar.specs.Texts.{IsText, Begins, shifts}
use Rattle.ag_lex.specs.declared.token.Token.{Token}
use Rattle.ag_aadl.specs.declared.marked.Marked.{Marked}
use Rattle.ag_aadl.specs.declared.rules.Context.{Context}
use Rattle.ag_aadl.specs.Marked.{marked}
use Rattle.ag_aadl.specs.Rules.{obey, run, run_from, start, Obeys}

pub shifts-append : (a b : List Step) → shifts (a ++ b) ≡ shifts a + shifts b
shifts-append [] b = omega arith
shifts-append (Expand n ∷ a) b = shifts-append a b
shifts-append (Shift k ∷ a) b = omega (arith, shifts-append a b)

-- where no terminal or no token is left none is marked
none-left : (ts : List Token) (steps : List Step) → marked [] ts steps ≡ []
none-left ts [] = refl
none-left ts (Expand n ∷ steps) = none-left ts steps
none-left ts (Shift k ∷ steps) = refl

no-token : (xs : List ℕ) (steps : List Step) → marked xs [] steps ≡ []
no-token xs [] = refl
no-token xs (Expand n ∷ steps) = no-token xs steps
no-token [] (Shift k ∷ steps) = refl
no-token (x ∷ xs) (Shift k ∷ steps) = refl

pub marked-append : (xs : List ℕ) (ts : List Token) (a b : List Step) → marked xs ts (a ++ b) ≡ marked xs ts a ++ marked (drop (shifts a) xs) (drop (shifts a) ts) b
marked-append xs ts [] b = refl
marked-append xs ts (Expand n ∷ a) b = marked-append xs ts a b
marked-append [] ts (Shift k ∷ a) b = sym (none-left (drop (suc (shifts a)) ts) b)
marked-append (x ∷ xs) [] (Shift k ∷ a) b = sym (no-token (drop (shifts a) xs) b)
marked-append (x ∷ xs) (t ∷ ts) (Shift k ∷ a) b = ap (λ ms. record { mark = k; terminal = x; token = t } ∷ ms) (marked-append xs ts a b)

-- steps that shift nothing mark nothing
pub none-shifted : (xs : List ℕ) (ts : List Token) (steps : List Step) → shifts steps ≡ 0 → marked xs ts steps ≡ []
none-shifted xs ts [] h = refl
none-shifted xs ts (Expand n ∷ steps) h = none-shifted xs ts steps h
none-shifted xs ts (Shift k ∷ steps) h = absurd (omega (arith, h))

pub run-append : (bytes : List ℕ) (o : Result Context Refusal) (a b : List Marked) → run_from bytes o (a ++ b) ≡ run_from bytes (run_from bytes o a) b
run-append bytes (Err r) a b = refl
run-append bytes (Ok c) [] b = refl
run-append bytes (Ok c) (m ∷ a) b = run-append bytes (obey bytes c m) a b

-- of two beginnings of one list of steps the one that shifts fewer tokens lies, with its next shift, in the other
pub inside : (steps more before behind : List Step) (mark : ℕ) → steps ++ more ≡ before ++ Shift mark ∷ behind → shifts before < shifts steps →
    (middle : List Step) × (steps ≡ (before ++ Shift mark ∷ []) ++ middle)
inside [] more before behind mark e h = absurd (omega (arith, h))
inside (s ∷ steps) more [] behind mark e h = let f : s ≡ Shift mark = cc in (steps, ap (λ q. q ∷ steps) f)
inside (s ∷ steps) more (b ∷ before) behind mark e h =
    let f : s ≡ b = cc in
    let g : steps ++ more ≡ before ++ Shift mark ∷ behind = cc in
    let k : shifts (s ∷ []) ≡ shifts (b ∷ []) = ap (λ q. shifts (q ∷ [])) f in
    let less : shifts before < shifts steps = omega (arith, h, k, shifts-append (s ∷ []) steps, shifts-append (b ∷ []) before) in
    let r = inside steps more before behind mark g less in
    (r.0, ap (λ q. q ∷ steps) f ∙ ap (λ q. b ∷ q) r.1)

-- two shifts behind as many tokens are the same
pub same-shift : (p q : List Step) (j k : ℕ) (a b : List Step) → p ++ Shift j ∷ a ≡ q ++ Shift k ∷ b → shifts p ≡ shifts q → p ++ Shift j ∷ [] ≡ q ++ Shift k ∷ []
same-shift [] [] j k a b e h = let f : j ≡ k = cc in ap (λ n. Shift n ∷ []) f
same-shift [] (s ∷ q) j k a b e h =
    let f : s ≡ Shift j = cc in
    let n : shifts (s ∷ []) ≡ 1 = ap (λ x. shifts (x ∷ [])) f in
    absurd (omega (arith, h, n, shifts-append (s ∷ []) q))
same-shift (s ∷ p) [] j k a b e h =
    let f : s ≡ Shift k = cc in
    let n : shifts (s ∷ []) ≡ 1 = ap (λ x. shifts (x ∷ [])) f in
    absurd (omega (arith, h, n, shifts-append (s ∷ []) p))
same-shift (s ∷ p) (u ∷ q) j k a b e h =
    let f : s ≡ u = cc in
    let g : p ++ Shift j ∷ a ≡ q ++ Shift k ∷ b = cc in
    let n : shifts (s ∷ []) ≡ shifts (u ∷ []) = ap (λ x. shifts (x ∷ [])) f in
    let same : shifts p ≡ shifts q = omega (arith, h, n, shifts-append (s ∷ []) p, shifts-append (u ∷ []) q) in
    ap (λ x. x ∷ (p ++ Shift j ∷ [])) f ∙ ap (λ x. u ∷ x) (same-shift p q j k a b g same)

-- steps that shift something have a last shift
pub last-shift : (steps : List Step) → (shifts steps ≡ 0) ⊎ ((before : List Step) × (mark : ℕ) × (behind : List Step) × (steps ≡ before ++ Shift mark ∷ behind) × (shifts behind ≡ 0))
last-shift [] = inl refl
last-shift (Expand n ∷ steps) = elim (last-shift steps) [
  | inl h ↦ inl h
  | inr r ↦ inr (Expand n ∷ r.0, r.1, r.2, ap (λ q. Expand n ∷ q) r.3, r.4)
]
last-shift (Shift k ∷ steps) = elim (last-shift steps) [
  | inl h ↦ inr ([], k, steps, refl, h)
  | inr r ↦ inr (Shift k ∷ r.0, r.1, r.2, ap (λ q. Shift k ∷ q) r.3, r.4)
]

-- a text that begins with m tokens begins with the first n of them
pub regrouped : (xs rest : List ℕ) (n m : ℕ) → n ≤ m → take m xs ++ rest ≡ take n xs ++ (drop n (take m xs) ++ rest)
regrouped xs rest n m h =
    ap (λ q. q ++ rest) (sym (take-append-drop n (take m xs)) ∙ ap (λ q. q ++ drop n (take m xs)) (take-take n m xs h))
    ∙ append_assoc (take n xs) (drop n (take m xs)) rest

-- what begins a text begins with a front that begins one
pub begins-front : (g : PlainGrammar) (xs : List ℕ) (a b : List Step) → Begins g xs (a ++ b) → Begins g xs a
begins-front g xs a b t =
    let n = shifts-append a b in
    let less : shifts a ≤ shifts (a ++ b) = omega (arith, n) in
    let rest = drop (shifts a) (take (shifts (a ++ b)) xs) ++ t.0 in
    (rest, b ++ t.1, subst (λ q. IsText g q (a ++ (b ++ t.1))) (regrouped xs t.0 (shifts a) (shifts (a ++ b)) less) (subst (λ q. IsText g (take (shifts (a ++ b)) xs ++ t.0) q) (append_assoc a b t.1) t.2))

-- a rule that is broken in the beginning of some steps is broken in them
pub not-broken : (bytes xs : List ℕ) (ts : List Token) (front middle steps : List Step) (r : Refusal) → steps ≡ front ++ middle → run bytes start (marked xs ts front) ≡ Err r → Obeys bytes (marked xs ts steps) → ⊥
not-broken bytes xs ts front middle steps r e broken obeyed =
    let rest = marked (drop (shifts front) xs) (drop (shifts front) ts) middle in
    let f : run bytes start (marked xs ts steps) ≡ Err r =
    ap (λ q. run bytes start (marked xs ts q)) e
    ∙ ap (λ q. run bytes start q) (marked-append xs ts front middle)
    ∙ run-append bytes (Ok start) (marked xs ts front) rest
    ∙ ap (λ q. run_from bytes q rest) broken in
    let g : run bytes start (marked xs ts steps) ≡ Ok obeyed.0 = obeyed.1 in
    let h : Err r ≡ Ok obeyed.0 = sym f ∙ g in
    absurd cc
