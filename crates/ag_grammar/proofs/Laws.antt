-- What the test of a grammar says of its derivations.
use Rattle.std.proofs.Common.{◌≡◌, ℕ, zero, suc, ◌+◌, Bool, true, false, not, cond, ◌&&◌, ◌||◌, List, [], ◌∷◌, ◌++◌, Option, Some, None, refl, sym, ap, subst, ◌∙◌, inl, inr, arith}
use Rattle.std.specs.Prelude.{slice_index_or}
use Rattle.std.specs.List.{list_all}
use Rattle.std.proofs.lemmas.Bool.{and_parts, eqb-true}
use Rattle.ag_grammar.specs.declared.grammar.Symbol.{Symbol}
use Rattle.ag_grammar.specs.declared.grammar.Symbol.TheVariants.{Terminal, Nonterminal}
use Rattle.ag_grammar.specs.declared.grammar.Step.{Step}
use Rattle.ag_grammar.specs.declared.grammar.Step.TheVariants.{Expand, Shift}
use Rattle.ag_grammar.specs.Grammar.{PlainProduction, PlainGrammar, productions_of, IsProductionOf, Derives}
use Rattle.ag_grammar.specs.Deterministic.{the_end, next_of, has, chosen, Certificate, first_of, follow_of, may_be_empty, starts, all_empty, are_followed, are_known, known_by, is_named, is_good_production, names_differ, are_good_nonterminals, is_ll1}
use Rattle.ag_grammar.specs.Reading.{IsReady}
use Rattle.ag_grammar.proofs.Sets.{has-left, has-right, all_has, has_one, starts-append, starts-either, starts-wider, all_at, find_at, same_by_name}

-- what the test says of one production
pub record ProductionLaws (g : PlainGrammar) (c : Certificate) (known : List ℕ) (n : ℕ) (p : PlainProduction) : Type 0 where
  pub taken : (x : ℕ) → has (starts c (follow_of c n) p.right) x ≡ true → is_named p.name (chosen g n x) ≡ true
  pub first : (x : ℕ) → has (starts c [] p.right) x ≡ true → has (first_of c n) x ≡ true
  pub empty : all_empty c p.right ≡ true → may_be_empty c n ≡ true
  pub followed : are_followed c n p.right ≡ true
  pub inside : are_known known p.right ≡ true

implied : (a b : Bool) → (not a || b) ≡ true → a ≡ true → b ≡ true
implied true b h e = h
implied false b h e = absurd cc

production_laws : (g : PlainGrammar) (c : Certificate) (known : List ℕ) (n : ℕ) (p : PlainProduction) → is_good_production g c known n p ≡ true → ProductionLaws g c known n p
production_laws g c known n p h =
    let taken = λ (x : ℕ). is_named p.name (chosen g n x) in
    let first = λ (x : ℕ). has (first_of c n) x in
    let empty = not (all_empty c p.right) || may_be_empty c n in
    let one = and_parts (list_all taken (starts c (follow_of c n) p.right)) (list_all first (starts c [] p.right) && (empty && (are_followed c n p.right && are_known known p.right))) h in
    let two = and_parts (list_all first (starts c [] p.right)) (empty && (are_followed c n p.right && are_known known p.right)) one.1 in
    let three = and_parts empty (are_followed c n p.right && are_known known p.right) two.1 in
    let four = and_parts (are_followed c n p.right) (are_known known p.right) three.1 in
    record {
      taken = λ x is. all_has taken (starts c (follow_of c n) p.right) x one.0 is;
      first = λ x is. all_has first (starts c [] p.right) x two.0 is;
      empty = λ e. implied (all_empty c p.right) (may_be_empty c n) three.0 e;
      followed = four.0;
      inside = four.1;
    }

-- what it says of the grammar
pub record GrammarLaws (g : PlainGrammar) (c : Certificate) : Type 0 where
  pub ends : has (follow_of c g.start) the_end ≡ true
  pub begins : has (known_by g [] c.order) g.start ≡ true
  pub productions : (n : ℕ) (p : PlainProduction) → IsProductionOf g n p → ProductionLaws g c (known_by g [] c.order) n p
  pub names : (n : ℕ) → names_differ (productions_of g n) ≡ true

good_at : (g : PlainGrammar) (c : Certificate) (known : List ℕ) (n : ℕ) (pss : List (List PlainProduction)) (i : ℕ) → are_good_nonterminals g c known n pss ≡ true
    → (names_differ (slice_index_or pss i []) ≡ true) × (list_all (λ p. is_good_production g c known (n + i) p) (slice_index_or pss i []) ≡ true)
good_at g c known n [] i h = (refl, refl)
good_at g c known n (ps ∷ pss) zero h =
    let good = list_all (λ p. is_good_production g c known n p) ps in
    let one = and_parts (names_differ ps) (good && are_good_nonterminals g c known (suc n) pss) h in
    let two = and_parts good (are_good_nonterminals g c known (suc n) pss) one.1 in
    let same : n ≡ n + 0 = omega arith in
    (one.0, subst (λ (k : ℕ). list_all (λ p. is_good_production g c known k p) ps ≡ true) same two.0)
good_at g c known n (ps ∷ pss) (suc i) h =
    let good = list_all (λ p. is_good_production g c known n p) ps in
    let one = and_parts (names_differ ps) (good && are_good_nonterminals g c known (suc n) pss) h in
    let two = and_parts good (are_good_nonterminals g c known (suc n) pss) one.1 in
    let later = good_at g c known (suc n) pss i two.1 in
    let same : suc n + i ≡ n + suc i = omega arith in
    (later.0, subst (λ (k : ℕ). list_all (λ p. is_good_production g c known k p) (slice_index_or pss i []) ≡ true) same later.1)

pub laws : (g : PlainGrammar) (c : Certificate) → is_ll1 c g ≡ true → GrammarLaws g c
laws g c h =
    let known = known_by g [] c.order in
    let good = are_good_nonterminals g c known 0 g.nonterminals in
    let one = and_parts (has (follow_of c g.start) the_end) (has known g.start && good) h in
    let two = and_parts (has known g.start) good one.1 in
    record {
      ends = one.0;
      begins = two.0;
      productions = λ n p is.
          let at = good_at g c known 0 g.nonterminals n two.1 in
          let same : 0 + n ≡ n = omega arith in
          let here = subst (λ (k : ℕ). list_all (λ q. is_good_production g c known k q) (productions_of g n) ≡ true) same at.1 in
          production_laws g c known n p (all_at (λ q. is_good_production g c known n q) (productions_of g n) is.0 p here is.1);
      names = λ n. (good_at g c known 0 g.nonterminals n two.1).0;
    }

-- where a production's right side begins so, its nonterminal does
begins_by : (g : PlainGrammar) (c : Certificate) → GrammarLaws g c → (n : ℕ) (p : PlainProduction) (symbols : List Symbol) (x : ℕ) → IsProductionOf g n p
    → has (starts c (the_end ∷ []) (p.right ++ symbols)) x ≡ true → has (starts c (the_end ∷ []) (Nonterminal n ∷ symbols)) x ≡ true
begins_by g c l n p symbols x is h =
    let behind = starts c (the_end ∷ []) symbols in
    let rest = cond (may_be_empty c n) behind [] in
    let law = l.productions n p is in
    let parts : has (starts c behind p.right) x ≡ true = subst (λ (xs : List ℕ). has xs x ≡ true) (starts-append c (the_end ∷ []) p.right symbols) h in
    elim (starts-either c behind p.right x parts) [
      | inl own ↦ has-left (first_of c n) rest x (law.first x own)
      | inr later ↦ has-right (first_of c n) rest x (if_so (may_be_empty c n) behind x (law.empty later.0) later.1)
    ]
  where
    if_so : (b : Bool) (xs : List ℕ) (x : ℕ) → b ≡ true → has xs x ≡ true → has (cond b xs []) x ≡ true
    if_so true xs x e h = h
    if_so false xs x e h = absurd cc

-- symbols that derive terminals begin as these do
pub begins_so : (g : PlainGrammar) (c : Certificate) → GrammarLaws g c → (steps : List Step) (symbols : List Symbol) (xs : List ℕ) → Derives g steps symbols xs
    → has (starts c (the_end ∷ []) symbols) (next_of xs) ≡ true
begins_so g c l [] [] [] d = has_one the_end
begins_so g c l (Shift mark ∷ steps) (Terminal t m ∷ symbols) (x ∷ xs) d = subst (λ (z : ℕ). has (t ∷ []) z ≡ true) (sym d.0) (has_one t)
begins_so g c l (Expand name ∷ steps) (Nonterminal n ∷ symbols) xs d = begins_by g c l n d.0 symbols (next_of xs) d.1 (begins_so g c l steps (d.0.right ++ symbols) xs d.3)
begins_so g c l _ _ _ d = absurd d

named : (name : ℕ) (o : Option PlainProduction) → is_named name o ≡ true → (q : PlainProduction) × (o ≡ Some q) × (q.name ≡ name)
named name None h = absurd cc
named name (Some q) h = (q, refl, eqb-true q.name name h)

-- the terminal ahead chooses the production that a derivation goes on with
pub choice_forced : (g : PlainGrammar) (c : Certificate) → GrammarLaws g c → (n : ℕ) (p : PlainProduction) (symbols : List Symbol) (steps : List Step) (xs : List ℕ)
    → IsReady g c (Nonterminal n ∷ symbols) → IsProductionOf g n p → Derives g steps (p.right ++ symbols) xs → chosen g n (next_of xs) ≡ Some p
choice_forced g c l n p symbols steps xs ready is d =
    let x = next_of xs in
    let behind = starts c (the_end ∷ []) symbols in
    let parts : has (starts c behind p.right) x ≡ true = subst (λ (zs : List ℕ). has zs x ≡ true) (starts-append c (the_end ∷ []) p.right symbols) (begins_so g c l steps (p.right ++ symbols) xs d) in
    let wider = starts-wider c behind (follow_of c n) p.right x (ready.0 x) parts in
    let q = named p.name (chosen g n x) ((l.productions n p is).taken x wider) in
    let at = find_at (λ r. has r.ahead x) (productions_of g n) q.0 q.1 in
    q.1 ∙ ap (λ (z : PlainProduction). Some z) (same_by_name (productions_of g n) at.0 is.0 q.0 p (l.names n) at.1 is.1 q.2)
