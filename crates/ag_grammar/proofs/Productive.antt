-- What derives something, and what is still to be derived.
use Rattle.std.proofs.Common.{◌≡◌, ℕ, Bool, true, false, cond, ◌&&◌, ◌==◌, List, [], ◌∷◌, ◌++◌, refl, sym, subst, append_assoc, inl, inr}
use Rattle.std.specs.List.{list_all, list_any}
use Rattle.std.proofs.lemmas.Bool.{and_parts, or_cases, eqb-true}
use Rattle.std.proofs.lemmas.List.{append-nil}
use Rattle.ag_grammar.specs.declared.grammar.Symbol.{Symbol}
use Rattle.ag_grammar.specs.declared.grammar.Symbol.TheVariants.{Terminal, Nonterminal}
use Rattle.ag_grammar.specs.declared.grammar.Step.{Step}
use Rattle.ag_grammar.specs.declared.grammar.Step.TheVariants.{Expand, Shift}
use Rattle.ag_grammar.specs.Grammar.{PlainProduction, PlainGrammar, productions_of, IsProductionOf, Derives}
use Rattle.ag_grammar.specs.Deterministic.{the_end, has, Certificate, follow_of, starts, are_followed, are_known, known_by}
use Rattle.ag_grammar.specs.Reading.{IsProductive, IsReady}
use Rattle.ag_grammar.proofs.Sets.{all_has, starts-append, starts-wider, any_at}
use Rattle.ag_grammar.proofs.Laws.{GrammarLaws}

-- two derivations, one behind the other
pub derives-append : (g : PlainGrammar) (steps : List Step) (symbols : List Symbol) (xs : List ℕ) (more : List Step) (others : List Symbol) (ys : List ℕ)
    → Derives g steps symbols xs → Derives g more others ys → Derives g (steps ++ more) (symbols ++ others) (xs ++ ys)
derives-append g [] [] [] more others ys d e = e
derives-append g (Shift mark ∷ steps) (Terminal t m ∷ symbols) (x ∷ xs) more others ys d e = (d.0, d.1, derives-append g steps symbols xs more others ys d.2 e)
derives-append g (Expand name ∷ steps) (Nonterminal n ∷ symbols) xs more others ys d e = (
  d.0,
  d.1,
  d.2,
  subst (λ (ss : List Symbol). Derives g (steps ++ more) ss (xs ++ ys)) (append_assoc d.0.right symbols others) (derives-append g steps (d.0.right ++ symbols) xs more others ys d.3 e),
)
derives-append g _ _ _ more others ys d e = absurd d

-- a symbol that derives something, before others that do
terminal_before : (g : PlainGrammar) (t m : ℕ) (symbols : List Symbol) → IsProductive g symbols → IsProductive g (Terminal t m ∷ symbols)
terminal_before g t m symbols rest = record { terminals = t ∷ rest.terminals; steps = Shift m ∷ rest.steps; derives = (refl, refl, rest.derives) }

nonterminal_before : (g : PlainGrammar) (n : ℕ) (symbols : List Symbol) → IsProductive g (Nonterminal n ∷ []) → IsProductive g symbols → IsProductive g (Nonterminal n ∷ symbols)
nonterminal_before g n symbols one rest =
    record {
      terminals = one.terminals ++ rest.terminals;
      steps = one.steps ++ rest.steps;
      derives = derives-append g one.steps (Nonterminal n ∷ []) one.terminals rest.steps symbols rest.terminals one.derives rest.derives;
    }

abbrev AllDerive : PlainGrammar → List ℕ → Type 0
AllDerive g known = (n : ℕ) → has known n ≡ true → IsProductive g (Nonterminal n ∷ [])

known_derive : (g : PlainGrammar) (known : List ℕ) (symbols : List Symbol) → AllDerive g known → are_known known symbols ≡ true → IsProductive g symbols
known_derive g known [] all h = record { terminals = []; steps = []; derives = tt }
known_derive g known (Terminal t m ∷ symbols) all h = terminal_before g t m symbols (known_derive g known symbols all h)
known_derive g known (Nonterminal n ∷ symbols) all h =
    let parts = and_parts (has known n) (are_known known symbols) h in
    nonterminal_before g n symbols (all n parts.0) (known_derive g known symbols all parts.1)

by_production : (g : PlainGrammar) (n : ℕ) (p : PlainProduction) → IsProductionOf g n p → IsProductive g p.right → IsProductive g (Nonterminal n ∷ [])
by_production g n p is right =
    record {
      terminals = right.terminals;
      steps = Expand p.name ∷ right.steps;
      derives = (p, is, refl, subst (λ (ss : List Symbol). Derives g right.steps ss right.terminals) (sym (append-nil p.right)) right.derives);
    }

one_more : (g : PlainGrammar) (known : List ℕ) (n : ℕ) → AllDerive g known → (b : Bool) → list_any (λ p. are_known known p.right) (productions_of g n) ≡ b → AllDerive g (cond b (n ∷ known) known)
one_more g known n all false e m h = all m h
one_more g known n all true e m h =
    elim (or_cases (n == m) (has known m) h) [
      | inl here ↦
          let p = any_at (λ p. are_known known p.right) (productions_of g n) e in
          subst (λ (k : ℕ). IsProductive g (Nonterminal k ∷ [])) (eqb-true n m here) (by_production g n p.1 (p.0, p.2) (known_derive g known p.1.right all p.3))
      | inr later ↦ all m later
    ]

pub all_derive : (g : PlainGrammar) (known order : List ℕ) → AllDerive g known → AllDerive g (known_by g known order)
all_derive g known [] all = all
all_derive g known (n ∷ ns) all =
    let b = list_any (λ p. are_known known p.right) (productions_of g n) in
    all_derive g (cond b (n ∷ known) known) ns (one_more g known n all b refl)

pub none_known : (g : PlainGrammar) → AllDerive g []
none_known g n h = absurd cc

-- ---- what is ready

pub ready_derives : (g : PlainGrammar) (c : Certificate) (symbols : List Symbol) → IsReady g c symbols → IsProductive g symbols
ready_derives g c [] r = record { terminals = []; steps = []; derives = tt }
ready_derives g c (Terminal t m ∷ symbols) r = terminal_before g t m symbols (ready_derives g c symbols r)
ready_derives g c (Nonterminal n ∷ symbols) r = nonterminal_before g n symbols r.1 (ready_derives g c symbols r.2)

-- a right side in the place of its nonterminal
ready-append : (g : PlainGrammar) (c : Certificate) (n : ℕ) (known : List ℕ) (right symbols : List Symbol) → AllDerive g known
    → ((x : ℕ) → has (starts c (the_end ∷ []) symbols) x ≡ true → has (follow_of c n) x ≡ true)
    → are_followed c n right ≡ true → are_known known right ≡ true → IsReady g c symbols → IsReady g c (right ++ symbols)
ready-append g c n known [] symbols all up followed inside r = r
ready-append g c n known (Terminal t m ∷ right) symbols all up followed inside r = ready-append g c n known right symbols all up followed inside r
ready-append g c n known (Nonterminal m ∷ right) symbols all up followed inside r =
    let test = λ (x : ℕ). has (follow_of c m) x in
    let one = and_parts (list_all test (starts c (follow_of c n) right)) (are_followed c n right) followed in
    let two = and_parts (has known m) (are_known known right) inside in
    let followed_so = λ (x : ℕ) (h : has (starts c (the_end ∷ []) (right ++ symbols)) x ≡ true).
    let parts : has (starts c (starts c (the_end ∷ []) symbols) right) x ≡ true = subst (λ (xs : List ℕ). has xs x ≡ true) (starts-append c (the_end ∷ []) right symbols) h in
    all_has test (starts c (follow_of c n) right) x one.0 (starts-wider c (starts c (the_end ∷ []) symbols) (follow_of c n) right x (up x) parts) in
    (followed_so, all m two.0, ready-append g c n known right symbols all up one.1 two.1 r)

pub ready_more : (g : PlainGrammar) (c : Certificate) → GrammarLaws g c → (n : ℕ) (p : PlainProduction) (symbols : List Symbol) → IsProductionOf g n p → IsReady g c (Nonterminal n ∷ symbols) → IsReady g c (p.right ++ symbols)
ready_more g c l n p symbols is r =
    let law = l.productions n p is in
    ready-append g c n (known_by g [] c.order) p.right symbols (all_derive g [] c.order (none_known g)) r.0 law.followed law.inside r.2

and_end : (b : Bool) → b ≡ true → (b && true) ≡ true
and_end true e = refl
and_end false e = e

pub ready_start : (g : PlainGrammar) (c : Certificate) → GrammarLaws g c → IsReady g c (Nonterminal g.start ∷ [])
ready_start g c l =
    let follows = λ (y : ℕ). has (follow_of c g.start) y in
    (λ x h. all_has follows (the_end ∷ []) x (and_end (has (follow_of c g.start) the_end) l.ends) h, all_derive g [] c.order (none_known g) g.start l.begins, tt)
