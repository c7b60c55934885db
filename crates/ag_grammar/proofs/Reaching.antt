-- Where a reader stands, from step to step.
use Rattle.std.proofs.Common.{◌≡◌, ℕ, suc, ◌+◌, ◌<◌, ◌≤◌, List, [], ◌∷◌, ◌++◌, ◌⊎◌, length, take, drop, get_or, reverse, Option, Some, None, refl, sym, ap, subst, ◌∙◌, append_assoc, inl, inr, arith}
use Rattle.std.proofs.lemmas.List.{append-nil, take_more, drop_more, take_all, drop_all, take-append-drop, take-take}
use Rattle.std.proofs.lemmas.Bool.{cases_lt, cases_order}
use Rattle.ag_grammar.specs.declared.grammar.Symbol.{Symbol}
use Rattle.ag_grammar.specs.declared.grammar.Symbol.TheVariants.{Terminal, Nonterminal}
use Rattle.ag_grammar.specs.declared.grammar.Step.{Step}
use Rattle.ag_grammar.specs.declared.grammar.Step.TheVariants.{Expand, Shift}
use Rattle.ag_grammar.specs.Grammar.{PlainProduction, PlainGrammar, IsProductionOf, Derives}
use Rattle.ag_grammar.specs.Texts.{IsReading, IsText, IsViable, IsFirstBad, shifts, Begins, IsForced, AreForced}
use Rattle.ag_grammar.specs.Deterministic.{next_of, chosen, IsLl1}
use Rattle.ag_grammar.specs.Reading.{IsReady, IsReached}
use Rattle.ag_grammar.proofs.Laws.{laws, choice_forced}
use Rattle.ag_grammar.proofs.Productive.{ready_derives, ready_more, ready_start}

-- ---- one step of a derivation

pub record Shifted (g : PlainGrammar) (t mark x : ℕ) (steps : List Step) (symbols : List Symbol) (xs : List ℕ) : Type 0 where
  pub same : x ≡ t
  pub behind : List Step
  pub parts : steps ≡ Shift mark ∷ behind
  pub derives : Derives g behind symbols xs

shifted : (g : PlainGrammar) (t mark x : ℕ) (steps : List Step) (symbols : List Symbol) (xs : List ℕ) → Derives g steps (Terminal t mark ∷ symbols) (x ∷ xs) → Shifted g t mark x steps symbols xs
shifted g t mark x (Shift m ∷ steps) symbols xs d = record { same = d.0; behind = steps; parts = ap (λ (k : ℕ). Shift k ∷ steps) d.1; derives = d.2 }
shifted g t mark x _ symbols xs d = absurd d

no_terminal_at_end : (g : PlainGrammar) (t mark : ℕ) (steps : List Step) (symbols : List Symbol) → Derives g steps (Terminal t mark ∷ symbols) [] → ⊥
no_terminal_at_end g t mark [] symbols d = d
no_terminal_at_end g t mark (Shift m ∷ steps) symbols d = d
no_terminal_at_end g t mark (Expand name ∷ steps) symbols d = d

pub record Expanded (g : PlainGrammar) (n : ℕ) (steps : List Step) (symbols : List Symbol) (xs : List ℕ) : Type 0 where
  pub production : PlainProduction
  pub is : IsProductionOf g n production
  pub behind : List Step
  pub parts : steps ≡ Expand production.name ∷ behind
  pub derives : Derives g behind (production.right ++ symbols) xs

expanded : (g : PlainGrammar) (n : ℕ) (steps : List Step) (symbols : List Symbol) (xs : List ℕ) → Derives g steps (Nonterminal n ∷ symbols) xs → Expanded g n steps symbols xs
expanded g n (Expand name ∷ steps) symbols xs d = record { production = d.0; is = d.1; behind = steps; parts = ap (λ (k : ℕ). Expand k ∷ steps) d.2; derives = d.3 }
expanded g n [] symbols xs d = absurd d
expanded g n (Shift mark ∷ steps) symbols xs d = absurd d

nothing_derived : (g : PlainGrammar) (steps : List Step) (x : ℕ) (xs : List ℕ) → Derives g steps [] (x ∷ xs) → ⊥
nothing_derived g [] x xs d = d
nothing_derived g (Shift mark ∷ steps) x xs d = d
nothing_derived g (Expand name ∷ steps) x xs d = d

-- ---- one derivation

abbrev some : PlainProduction → Option PlainProduction
some p = Some p

some_same : (p q : PlainProduction) → some p ≡ some q → p ≡ q
some_same p q e = cc

one_way : (g : PlainGrammar) (ll1 : IsLl1 g) (steps others : List Step) (symbols : List Symbol) (xs : List ℕ) → IsReady g ll1.0 symbols → Derives g steps symbols xs → Derives g others symbols xs → steps ≡ others
one_way g ll1 [] [] symbols xs r d e = refl
one_way g ll1 [] (o ∷ others) [] [] r d e = absurd (no_step o others e)
  where
    no_step : (o : Step) (others : List Step) → Derives g (o ∷ others) [] [] → ⊥
    no_step (Shift mark) others e = e
    no_step (Expand name) others e = e
one_way g ll1 (Shift mark ∷ steps) others (Terminal t m ∷ symbols) (x ∷ xs) r d e =
    let s = shifted g t m x others symbols xs e in
    ap (λ (k : ℕ). Shift k ∷ steps) d.1 ∙ ap (λ (z : List Step). Shift m ∷ z) (one_way g ll1 steps s.behind symbols xs r d.2 s.derives) ∙ sym s.parts
one_way g ll1 (Expand name ∷ steps) others (Nonterminal n ∷ symbols) xs r d e =
    let l = laws g ll1.0 ll1.1 in
    let s = expanded g n others symbols xs e in
    let mine = choice_forced g ll1.0 l n d.0 symbols steps xs r d.1 d.3 in
    let theirs = choice_forced g ll1.0 l n s.production symbols s.behind xs r s.is s.derives in
    let same : d.0 ≡ s.production = some_same d.0 s.production (sym mine ∙ theirs) in
    let behind : Derives g s.behind (d.0.right ++ symbols) xs = subst (λ (p : PlainProduction). Derives g s.behind (p.right ++ symbols) xs) (sym same) s.derives in
    ap (λ (k : ℕ). Expand k ∷ steps) (d.2 ∙ ap (λ (p : PlainProduction). p.name) same)
    ∙ ap (λ (z : List Step). Expand s.production.name ∷ z) (one_way g ll1 steps s.behind (d.0.right ++ symbols) xs (ready_more g ll1.0 l n d.0 symbols d.1 r) d.3 behind) ∙ sym s.parts
one_way g ll1 _ others _ _ r d e = absurd d

pub one_derivation : (g : PlainGrammar) (xs : List ℕ) (steps others : List Step) → IsLl1 g → IsText g xs steps → IsText g xs others → steps ≡ others
one_derivation g xs steps others ll1 d e = one_way g ll1 steps others (Nonterminal g.start ∷ []) xs (ready_start g ll1.0 (laws g ll1.0 ll1.1)) d e

-- ---- one place

shorter_viable : (g : PlainGrammar) (xs : List ℕ) (m n : ℕ) → m ≤ n → n ≤ length xs → IsViable g (take n xs) → IsViable g (take m xs)
shorter_viable g xs m n le within v =
    let front = take n xs in
    let parts : take m xs ++ drop m front ≡ front = ap (λ (z : List ℕ). z ++ drop m front) (sym (take-take m n xs le)) ∙ take-append-drop m front in
    (drop m front ++ v.0, v.1, subst (λ (z : List ℕ). IsText g z v.1) (sym (ap (λ (z : List ℕ). z ++ v.0) parts) ∙ append_assoc (take m xs) (drop m front) v.0) v.2)

pub one_place : (g : PlainGrammar) (xs : List ℕ) (at other : ℕ) → IsFirstBad g xs at → IsFirstBad g xs other → at ≡ other
one_place g xs at other a b =
    elim (cases_order at other) [
      | inl same ↦ same
      | inr differ ↦ elim differ [
        | inl before ↦ let within = b.within in absurd (a.here (omega arith) (shorter_viable g xs (suc at) other (omega arith) b.within b.before))
        | inr behind ↦ let within = a.within in absurd (b.here (omega arith) (shorter_viable g xs (suc other) at (omega arith) a.within a.before))
      ]
    ]

pub no_place : (g : PlainGrammar) (xs : List ℕ) (at : ℕ) (steps : List Step) → IsFirstBad g xs at → IsText g xs steps → ⊥
no_place g xs at steps b d =
    let within = b.within in
    elim (cases_lt at (length xs)) [
      | inl before ↦ b.here before (drop (suc at) xs, steps, subst (λ (z : List ℕ). IsText g z steps) (sym (take-append-drop (suc at) xs)) d)
      | inr end ↦ b.end (omega arith) steps d
    ]

-- ---- from step to step

pub shifts-append : (a b : List Step) → shifts (a ++ b) ≡ shifts a + shifts b
shifts-append [] b = omega arith
shifts-append (Shift mark ∷ a) b = let h = shifts-append a b in omega arith
shifts-append (Expand name ∷ a) b = shifts-append a b

abbrev terminal_at : List ℕ → ℕ → ℕ
terminal_at xs at = get_or xs at 0

-- the terminal ahead, in what is left and behind what is read
next_is : (xs : List ℕ) (at : ℕ) → at < length xs → next_of (drop at xs) ≡ terminal_at xs at
next_is xs at lt = ap next_of (drop_more xs at 0 lt)

one_on : (xs rest : List ℕ) (at : ℕ) → at < length xs → take (at + 1) xs ++ rest ≡ take at xs ++ (terminal_at xs at ∷ rest)
one_on xs rest at lt = ap (λ (z : List ℕ). z ++ rest) (take_more xs at 0 lt) ∙ append_assoc (take at xs) (terminal_at xs at ∷ []) rest

one_on_suc : (xs rest : List ℕ) (at : ℕ) → at < length xs → take (suc at) xs ++ rest ≡ take at xs ++ (terminal_at xs at ∷ rest)
one_on_suc xs rest at lt = let e : suc at ≡ at + 1 = omega arith in ap (λ (n : ℕ). take n xs ++ rest) e ∙ one_on xs rest at lt

pub reached_start : (g : PlainGrammar) (xs : List ℕ) → IsReached g xs 0 [] (Nonterminal g.start ∷ [])
reached_start g xs = record {
  within = omega arith;
  count = refl;
  sound = λ more rest d. d;
  only = λ all rest same d. (all, refl, d);
  ready = λ c h. ready_start g c (laws g c h);
}

pub reached_shift : (g : PlainGrammar) (xs : List ℕ) (at : ℕ) (steps : List Step) (t mark : ℕ) (symbols : List Symbol) → IsReached g xs at steps (Terminal t mark ∷ symbols) → at < length xs → terminal_at xs at ≡ t
    → IsReached g xs (at + 1) (steps ++ Shift mark ∷ []) symbols
reached_shift g xs at steps t mark symbols r lt e =
    let x = terminal_at xs at in
    let count = r.count in
    record {
      within = omega arith;
      count = shifts-append steps (Shift mark ∷ []) ∙ omega arith;
      sound = λ more rest d.
          subst (λ (z : List ℕ). IsText g z ((steps ++ Shift mark ∷ []) ++ more)) (sym (one_on xs rest at lt))
          (subst (λ (s : List Step). IsText g (take at xs ++ (x ∷ rest)) s) (sym (append_assoc steps (Shift mark ∷ []) more)) (r.sound (Shift mark ∷ more) (x ∷ rest) (e, refl, d)));
      only = λ all rest same d.
          let y = r.only all (x ∷ rest) (sym (next_is xs at lt)) (subst (λ (z : List ℕ). IsText g z all) (one_on xs rest at lt) d) in
          let s = shifted g t mark x y.0 symbols rest y.2 in
          (s.behind, y.1 ∙ ap (λ (z : List Step). steps ++ z) s.parts ∙ sym (append_assoc steps (Shift mark ∷ []) s.behind), s.derives);
      ready = λ c h. r.ready c h;
    }

-- what every derivation of the rest goes on with
only_choice : (g : PlainGrammar) (ll1 : IsLl1 g) (xs : List ℕ) (at : ℕ) (steps : List Step) (n : ℕ) (symbols : List Symbol) → IsReached g xs at steps (Nonterminal n ∷ symbols) → (more : List Step) (rest : List ℕ)
    → next_of rest ≡ next_of (drop at xs) → (s : Expanded g n more symbols rest) → chosen g n (next_of (drop at xs)) ≡ Some s.production
only_choice g ll1 xs at steps n symbols r more rest same s =
    ap (chosen g n) (sym same) ∙ choice_forced g ll1.0 (laws g ll1.0 ll1.1) n s.production symbols s.behind rest (r.ready ll1.0 ll1.1) s.is s.derives

pub reached_expand : (g : PlainGrammar) (ll1 : IsLl1 g) (xs : List ℕ) (at : ℕ) (steps : List Step) (n : ℕ) (p : PlainProduction) (symbols : List Symbol) → IsReached g xs at steps (Nonterminal n ∷ symbols)
    → IsProductionOf g n p → chosen g n (next_of (drop at xs)) ≡ Some p → IsReached g xs at (steps ++ Expand p.name ∷ []) (p.right ++ symbols)
reached_expand g ll1 xs at steps n p symbols r is e =
    let count = r.count in
    record {
      within = r.within;
      count = shifts-append steps (Expand p.name ∷ []) ∙ omega arith;
      sound = λ more rest d. subst (λ (s : List Step). IsText g (take at xs ++ rest) s) (sym (append_assoc steps (Expand p.name ∷ []) more)) (r.sound (Expand p.name ∷ more) rest (p, is, refl, d));
      only = λ all rest same d.
          let y = r.only all rest same d in
          let s = expanded g n y.0 symbols rest y.2 in
          let it : s.production ≡ p = some_same s.production p (sym (only_choice g ll1 xs at steps n symbols r y.0 rest same s) ∙ e) in (
            s.behind,
            y.1 ∙ ap (λ (z : List Step). steps ++ z) s.parts ∙ ap (λ (q : PlainProduction). steps ++ Expand q.name ∷ s.behind) it ∙ sym (append_assoc steps (Expand p.name ∷ []) s.behind),
            subst (λ (q : PlainProduction). Derives g s.behind (q.right ++ symbols) rest) it s.derives,
          );
      ready = λ c h. ready_more g c (laws g c h) n p symbols is (r.ready c h);
    }

-- ---- the first bad place

pub goes_on : (g : PlainGrammar) (ll1 : IsLl1 g) (xs : List ℕ) (at : ℕ) (steps : List Step) (symbols : List Symbol) → IsReached g xs at steps symbols → (rest : List ℕ) × (more : List Step) × IsText g (take at xs ++ rest) (steps ++ more)
goes_on g ll1 xs at steps symbols r =
    let m = ready_derives g ll1.0 symbols (r.ready ll1.0 ll1.1) in
    (m.terminals, m.steps, r.sound m.steps m.terminals m.derives)

pub begins : (g : PlainGrammar) (ll1 : IsLl1 g) (xs : List ℕ) (at : ℕ) (steps : List Step) (symbols : List Symbol) → IsReached g xs at steps symbols → Begins g xs steps
begins g ll1 xs at steps symbols r =
    let m = goes_on g ll1 xs at steps symbols r in
    (m.0, m.1, subst (λ (n : ℕ). IsText g (take n xs ++ m.0) (steps ++ m.1)) (sym r.count) m.2)

nothing_left : (xs : List ℕ) (at : ℕ) → length xs ≤ at → drop at xs ≡ []
nothing_left xs at le = drop_all at xs le

all_read : (xs : List ℕ) (at : ℕ) → at ≡ length xs → take at xs ++ [] ≡ xs
all_read xs at e = append-nil (take at xs) ∙ take_all at xs (omega arith)

refuse : (g : PlainGrammar) (ll1 : IsLl1 g) (xs : List ℕ) (at : ℕ) (steps : List Step) (symbols : List Symbol) → IsReached g xs at steps symbols
    → (at < length xs → (more : List Step) (rest : List ℕ) → Derives g more symbols (terminal_at xs at ∷ rest) → ⊥) → (at ≡ length xs → (more : List Step) → Derives g more symbols [] → ⊥) → IsFirstBad g xs at
refuse g ll1 xs at steps symbols r bad short =
    let m = goes_on g ll1 xs at steps symbols r in
    record {
      within = r.within;
      before = (m.0, steps ++ m.1, m.2);
      here = λ lt v.
          let y = r.only v.1 (terminal_at xs at ∷ v.0) (sym (next_is xs at lt)) (subst (λ (z : List ℕ). IsText g z v.1) (one_on_suc xs v.0 at lt) v.2) in
          bad lt y.0 v.0 y.2;
      end = λ e all d.
          let y = r.only all [] (ap next_of (sym (nothing_left xs at (omega arith)))) (subst (λ (z : List ℕ). IsText g z all) (sym (all_read xs at e)) d) in
          short e y.0 y.2;
    }

pub refuse_terminal : (g : PlainGrammar) (ll1 : IsLl1 g) (xs : List ℕ) (at : ℕ) (steps : List Step) (t mark : ℕ) (symbols : List Symbol) → IsReached g xs at steps (Terminal t mark ∷ symbols) → (at < length xs → terminal_at xs at ≡ t → ⊥) → IsFirstBad g xs at
refuse_terminal g ll1 xs at steps t mark symbols r differs =
    refuse g ll1 xs at steps (Terminal t mark ∷ symbols) r
    (λ lt more rest d. differs lt (shifted g t mark (terminal_at xs at) more symbols rest d).same)
    (λ e more d. no_terminal_at_end g t mark more symbols d)

pub refuse_rest : (g : PlainGrammar) (ll1 : IsLl1 g) (xs : List ℕ) (at : ℕ) (steps : List Step) → IsReached g xs at steps [] → at < length xs → IsFirstBad g xs at
refuse_rest g ll1 xs at steps r lt =
    refuse g ll1 xs at steps [] r
    (λ before more rest d. nothing_derived g more (terminal_at xs at) rest d)
    (λ e more d. omega arith)

pub refuse_nonterminal : (g : PlainGrammar) (ll1 : IsLl1 g) (xs : List ℕ) (at : ℕ) (steps : List Step) (n : ℕ) (symbols : List Symbol) → IsReached g xs at steps (Nonterminal n ∷ symbols) → chosen g n (next_of (drop at xs)) ≡ None → IsFirstBad g xs at
refuse_nonterminal g ll1 xs at steps n symbols r none =
    let never : (more : List Step) (rest : List ℕ) → next_of rest ≡ next_of (drop at xs) → Derives g more (Nonterminal n ∷ symbols) rest → ⊥ =
    λ more rest same d.
    let s = expanded g n more symbols rest d in
    let bad : None ≡ some s.production = sym none ∙ only_choice g ll1 xs at steps n symbols r more rest same s in
    cc in
    refuse g ll1 xs at steps (Nonterminal n ∷ symbols) r
    (λ lt more rest d. never more (terminal_at xs at ∷ rest) (sym (next_is xs at lt)) d)
    (λ e more d. never more [] (ap next_of (sym (nothing_left xs at (omega arith)))) d)

-- with nothing left to derive and no terminal left, a text is read
pub reached_end : (g : PlainGrammar) (xs : List ℕ) (at : ℕ) (steps : List Step) → IsReached g xs at steps [] → length xs ≤ at → IsText g xs steps
reached_end g xs at steps r le =
    let within = r.within in
    let e : at ≡ length xs = omega arith in
    subst (λ (z : List ℕ). IsText g z steps) (all_read xs at e) (subst (λ (s : List Step). IsText g (take at xs ++ []) s) (append-nil steps) (r.sound [] [] tt))

-- ---- steps that are forced

force : (g : PlainGrammar) (ll1 : IsLl1 g) (xs : List ℕ) (at : ℕ) (steps : List Step) (symbols : List Symbol) (next : Step) → IsReached g xs at steps symbols
    → (at < length xs → (more : List Step) (rest : List ℕ) → Derives g more symbols (terminal_at xs at ∷ rest) → (behind : List Step) × (more ≡ next ∷ behind))
    → (at ≡ length xs → (more : List Step) → Derives g more symbols [] → (behind : List Step) × (more ≡ next ∷ behind)) → IsForced g xs steps next
force g ll1 xs at steps symbols next r goes ends =
    let count = r.count in
    let inside = r.within in
    record {
      within = omega arith;
      before = begins g ll1 xs at steps symbols r;
      here = λ lt all rest d.
          let lt_at : at < length xs = omega arith in
          let d_at : IsText g (take (suc at) xs ++ rest) all = subst (λ (n : ℕ). IsText g (take (suc n) xs ++ rest) all) count d in
          let y = r.only all (terminal_at xs at ∷ rest) (sym (next_is xs at lt_at)) (subst (λ (z : List ℕ). IsText g z all) (one_on_suc xs rest at lt_at) d_at) in
          let z = goes lt_at y.0 rest y.2 in
          (z.0, y.1 ∙ ap (λ (s : List Step). steps ++ s) z.1);
      end = λ e all d.
          let e_at : at ≡ length xs = omega arith in
          let y = r.only all [] (ap next_of (sym (nothing_left xs at (omega arith)))) (subst (λ (z : List ℕ). IsText g z all) (sym (all_read xs at e_at)) d) in
          let z = ends e_at y.0 y.2 in
          (z.0, y.1 ∙ ap (λ (s : List Step). steps ++ s) z.1);
    }

pub force_shift : (g : PlainGrammar) (ll1 : IsLl1 g) (xs : List ℕ) (at : ℕ) (steps : List Step) (t mark : ℕ) (symbols : List Symbol) → IsReached g xs at steps (Terminal t mark ∷ symbols) → at < length xs → IsForced g xs steps (Shift mark)
force_shift g ll1 xs at steps t mark symbols r lt =
    force g ll1 xs at steps (Terminal t mark ∷ symbols) (Shift mark) r
    (λ before more rest d. let s = shifted g t mark (terminal_at xs at) more symbols rest d in (s.behind, s.parts))
    (λ e more d. absurd (omega arith))

pub force_expand : (g : PlainGrammar) (ll1 : IsLl1 g) (xs : List ℕ) (at : ℕ) (steps : List Step) (n : ℕ) (p : PlainProduction) (symbols : List Symbol) → IsReached g xs at steps (Nonterminal n ∷ symbols) → chosen g n (next_of (drop at xs)) ≡ Some p → IsForced g xs steps (Expand p.name)
force_expand g ll1 xs at steps n p symbols r e =
    let goes : (more : List Step) (rest : List ℕ) → next_of rest ≡ next_of (drop at xs) → Derives g more (Nonterminal n ∷ symbols) rest → (behind : List Step) × (more ≡ Expand p.name ∷ behind) =
    λ more rest same d.
    let s = expanded g n more symbols rest d in
    let it : s.production ≡ p = some_same s.production p (sym (only_choice g ll1 xs at steps n symbols r more rest same s) ∙ e) in
    (s.behind, s.parts ∙ ap (λ (q : PlainProduction). Expand q.name ∷ s.behind) it) in
    force g ll1 xs at steps (Nonterminal n ∷ symbols) (Expand p.name) r
    (λ lt more rest d. goes more (terminal_at xs at ∷ rest) (sym (next_is xs at lt)) d)
    (λ end more d. goes more [] (ap next_of (sym (nothing_left xs at (omega arith)))) d)

empty_no_step : (before : List Step) (next : Step) (behind : List Step) → [] ≡ before ++ next ∷ behind → ⊥
empty_no_step [] next behind e = cc
empty_no_step (s ∷ before) next behind e = cc

pub none_forced : (g : PlainGrammar) (xs : List ℕ) → AreForced g xs []
none_forced g xs before behind next e = absurd (empty_no_step before next behind e)

-- the last of some steps, or one of those before
last_or_before : (steps before behind : List Step) (last next : Step) → steps ++ last ∷ [] ≡ before ++ next ∷ behind → ((steps ≡ before) × (last ≡ next)) ⊎ ((rest : List Step) × (steps ≡ before ++ next ∷ rest))
last_or_before [] [] behind last next e = inl (refl, (let h : last ≡ next = cc in h))
last_or_before [] (b ∷ before) behind last next e = absurd (empty_no_step before next behind (let h : [] ≡ before ++ next ∷ behind = cc in h))
last_or_before (s ∷ steps) [] behind last next e = let h : s ≡ next = cc in inr (steps, ap (λ (z : Step). z ∷ steps) h)
last_or_before (s ∷ steps) (b ∷ before) behind last next e =
    let heads : s ≡ b = cc in
    let tails : steps ++ last ∷ [] ≡ before ++ next ∷ behind = cc in
    elim (last_or_before steps before behind last next tails) [
      | inl this ↦ inl ((let h : s ∷ steps ≡ b ∷ before = ap (λ (z : Step). z ∷ steps) heads ∙ ap (λ (z : List Step). b ∷ z) this.0 in h), this.1)
      | inr earlier ↦ inr (earlier.0, (let h : s ∷ steps ≡ b ∷ (before ++ next ∷ earlier.0) = ap (λ (z : Step). z ∷ steps) heads ∙ ap (λ (z : List Step). b ∷ z) earlier.1 in h))
    ]

pub one_more_forced : (g : PlainGrammar) (xs : List ℕ) (steps : List Step) (step : Step) → AreForced g xs steps → IsForced g xs steps step → AreForced g xs (steps ++ step ∷ [])
one_more_forced g xs steps step all one before behind next e =
    elim (last_or_before steps before behind step next e) [
      | inl this ↦ subst (λ (s : List Step). IsForced g xs s next) this.0 (subst (IsForced g xs steps) this.1 one)
      | inr earlier ↦ all before earlier.0 next earlier.1
    ]

-- ---- what was read

pub no_symbols : (symbols : List Symbol) → length symbols ≡ 0 → reverse symbols ≡ []
no_symbols [] e = refl
no_symbols (s ∷ symbols) e = absurd (omega arith)

pub derived_is : (g : PlainGrammar) (xs : List ℕ) (found steps : List Step) (bad : Option ℕ) → IsLl1 g → IsReading g xs found bad → IsText g xs steps → (found ≡ steps) × (bad ≡ None)
derived_is g xs found steps None ll1 r d = (one_derivation g xs found steps ll1 r d, refl)
derived_is g xs found steps (Some at) ll1 r d = absurd (no_place g xs at steps r.2 d)

pub bad_is : (g : PlainGrammar) (xs : List ℕ) (found : List Step) (bad : Option ℕ) (at : ℕ) → IsReading g xs found bad → IsFirstBad g xs at → bad ≡ Some at
bad_is g xs found None at r b = absurd (no_place g xs at found b r)
bad_is g xs found (Some m) at r b = ap (λ (n : ℕ). Some n) (one_place g xs m at r.2 b)
