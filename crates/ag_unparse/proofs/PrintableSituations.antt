-- The situations that the tokens of clauses lead through by their marks, and that none of a text of the grammar is lost.
use Rattle.std.proofs.Common.{◌≡◌, ℕ, zero, suc, Bool, true, false, ◌==◌, ◌&&◌, if◌then◌else◌, List, [], ◌∷◌, ◌++◌, Some, refl, sym, ap, subst, ◌∙◌, ◌+◌, arith, inl, inr}
use Rattle.std.specs.Prelude.{slice_get, slice_index_or}
use Rattle.std.specs.List.{list_all, list_any}
use Rattle.std.proofs.lemmas.Bool.{and_parts, and_from, or_cases, eqb-true}
use Rattle.ag_grammar.specs.declared.grammar.Symbol.{Symbol}
use Rattle.ag_grammar.specs.declared.grammar.Symbol.TheVariants.{Terminal, Nonterminal}
use Rattle.ag_grammar.specs.declared.grammar.Step.{Step}
use Rattle.ag_grammar.specs.declared.grammar.Step.TheVariants.{Expand, Shift}
use Rattle.ag_grammar.specs.Grammar.{PlainProduction, IsProductionOf, Derives}
use Rattle.ag_lex.specs.declared.token.Token.{Token}
use Rattle.ag_aadl.specs.declared.marked.Marked.{Marked}
use Rattle.ag_aadl.specs.Marked.{marked, is_among}
use Rattle.ag_annex.specs.Clauses.{clause_marks}
use Rattle.ag_annex.specs.Grammar.{annex}
use Rattle.ag_annex.specs.Marks.{eq_mark, assign_mark, const_mark, node_mark, variable_mark, target_mark, node_name_mark, returns_mark}
use Rattle.ag_annex.specs.Nonterminals.{equation, variables, more_variables, some_variables, variable, type_name, node}
use Rattle.ag_annex.specs.Words.{terminals_of}
use Rattle.ag_unparse.proofs.PrintableFitting.{all_at}

-- Behind `eq` and `const`, and behind the `(` of what a node returns, where a declared name must come; behind `assign`;
-- behind `node`, and in the head behind a node's name, up to `returns`; behind that; and lost, where no text leads to.
pub data Situation : Type 0 where
  Quiet : Situation
  BehindEq : Situation
  BehindAssign : Situation
  BehindNode : Situation
  InHead : Situation
  BehindReturns : Situation
  Lost : Situation

-- where a token with this mark leads
abbrev pub move : Situation → ℕ → Situation
move Quiet k =
    if is_among (eq_mark ∷ const_mark ∷ []) k then BehindEq
    else (if is_among (assign_mark ∷ []) k then BehindAssign
    else (if is_among (node_mark ∷ []) k then BehindNode
    else Quiet))
move BehindEq k = if is_among (variable_mark ∷ []) k then Quiet else Lost
move BehindAssign k = if is_among (target_mark ∷ []) k then Quiet else Lost
move BehindNode k = if is_among (node_name_mark ∷ []) k then InHead else Lost
move InHead k = if is_among (returns_mark ∷ []) k then BehindReturns else (if is_among clause_marks k then Lost else InHead)
move BehindReturns k = if is_among (0 ∷ []) k then BehindEq else Lost
move Lost k = Lost

abbrev pub walked : Situation → List Marked → Situation
walked s [] = s
walked s (m ∷ ms) = walked (move s m.mark) ms

-- where the text may end
abbrev pub is_calm : Situation → Bool
is_calm Quiet = true
is_calm _ = false

-- the tokens end in such a situation
abbrev pub accepted : Situation → List Marked → Bool
accepted s ms = is_calm (walked s ms)

-- ---- the situations in order

abbrev everything : List Situation
everything = Quiet ∷ BehindEq ∷ BehindAssign ∷ BehindNode ∷ InHead ∷ BehindReturns ∷ Lost ∷ []

abbrev number : Situation → ℕ
number Quiet = 0
number BehindEq = 1
number BehindAssign = 2
number BehindNode = 3
number InHead = 4
number BehindReturns = 5
number Lost = 6

listed : (s : Situation) → slice_get everything (number s) ≡ Some s
listed Quiet = refl
listed BehindEq = refl
listed BehindAssign = refl
listed BehindNode = refl
listed InHead = refl
listed BehindReturns = refl
listed Lost = refl

back : (s : Situation) → slice_index_or everything (number s) Lost ≡ s
back Quiet = refl
back BehindEq = refl
back BehindAssign = refl
back BehindNode = refl
back InHead = refl
back BehindReturns = refl
back Lost = refl

abbrev same : Situation → Situation → Bool
same s q = number s == number q

same-true : (s q : Situation) → same s q ≡ true → s ≡ q
same-true s q h = sym (back s) ∙ ap (λ (i : ℕ). slice_index_or everything i Lost) (eqb-true (number s) (number q) h) ∙ back q

-- ---- lists

all_wider : {A : Type 0} (test wider : A → Bool) (xs : List A) → ((x : A) → test x ≡ true → wider x ≡ true) → list_all test xs ≡ true → list_all wider xs ≡ true
all_wider test wider [] up h = refl
all_wider test wider (x ∷ xs) up h =
    let parts = and_parts (test x) (list_all test xs) h in
    and_from (wider x) (list_all wider xs) (up x parts.0) (all_wider test wider xs up parts.1)

-- a test holds of each situation that computes it
everywhere : (test : Situation → Bool) → list_all test everything ≡ true → (s : Situation) → test s ≡ true
everywhere test all s = all_at test everything (number s) s all (listed s)

among_passes : (test : Situation → Bool) (qs : List Situation) (q : Situation) → list_all test qs ≡ true → list_any (same q) qs ≡ true → test q ≡ true
among_passes test [] q all some = absurd cc
among_passes test (r ∷ qs) q all some =
    let parts = and_parts (test r) (list_all test qs) all in
    elim (or_cases (same q r) (list_any (same q) qs) some) [
      | inl this ↦ subst (λ (z : Situation). test z ≡ true) (sym (same-true q r this)) parts.0
      | inr later ↦ among_passes test qs q parts.1 later
    ]

-- ---- where nonterminals lead

-- the situations that a nonterminal may lead to; all of them where none is asked for
abbrev ends : ℕ → Situation → List Situation
ends n Quiet = Quiet ∷ []
ends n BehindEq = if is_among (variables ∷ variable ∷ []) n then Quiet ∷ [] else everything
ends n BehindAssign = if is_among (equation ∷ []) n then Quiet ∷ [] else everything
ends n BehindNode = if is_among (node ∷ []) n then Quiet ∷ [] else everything
ends n InHead = if is_among (some_variables ∷ variables ∷ more_variables ∷ variable ∷ type_name ∷ []) n then InHead ∷ [] else everything
ends n BehindReturns = everything
ends n Lost = Lost ∷ []

-- the test holds of each situation that the symbols may lead to
abbrev passes : List Symbol → Situation → (Situation → Bool) → Bool
passes [] s test = test s
passes (Terminal t k ∷ symbols) s test = passes symbols (move s k) test
passes (Nonterminal n ∷ symbols) s test = list_all (λ q. passes symbols q test) (ends n s)

-- a production leads where its nonterminal does
abbrev keeps : ℕ → PlainProduction → Situation → Bool
keeps n p s = passes p.right s (λ q. list_any (same q) (ends n s))

abbrev all_keep : ℕ → List (List PlainProduction) → Bool
all_keep n [] = true
all_keep n (ps ∷ more) = list_all (λ p. list_all (keeps n p) everything) ps && all_keep (suc n) more

annex_keeps : all_keep 0 annex.nonterminals ≡ true
annex_keeps = refl

kept_at : (n : ℕ) (pss : List (List PlainProduction)) (i : ℕ) → all_keep n pss ≡ true → list_all (λ p. list_all (keeps (n + i) p) everything) (slice_index_or pss i []) ≡ true
kept_at n [] i h = refl
kept_at n (ps ∷ pss) zero h =
    let here = and_parts (list_all (λ p. list_all (keeps n p) everything) ps) (all_keep (suc n) pss) h in
    let e : n ≡ n + 0 = omega arith in
    subst (λ (k : ℕ). list_all (λ p. list_all (keeps k p) everything) ps ≡ true) e here.0
kept_at n (ps ∷ pss) (suc i) h =
    let here = and_parts (list_all (λ p. list_all (keeps n p) everything) ps) (all_keep (suc n) pss) h in
    let e : suc n + i ≡ n + suc i = omega arith in
    subst (λ (k : ℕ). list_all (λ p. list_all (keeps k p) everything) (slice_index_or pss i []) ≡ true) e (kept_at (suc n) pss i here.1)

production_keeps : (n : ℕ) (p : PlainProduction) (s : Situation) → IsProductionOf annex n p → keeps n p s ≡ true
production_keeps n p s is =
    let ps = slice_index_or annex.nonterminals n [] in
    let e : 0 + n ≡ n = omega arith in
    let here = subst (λ (k : ℕ). list_all (λ q. list_all (keeps k q) everything) ps ≡ true) e (kept_at 0 annex.nonterminals n annex_keeps) in
    let one = all_at (λ q. list_all (keeps n q) everything) ps is.0 p here is.1 in
    everywhere (keeps n p) one s

passes_joined : (a b : List Symbol) (s : Situation) (inner test : Situation → Bool) → passes a s inner ≡ true → ((q : Situation) → inner q ≡ true → passes b q test ≡ true) → passes (a ++ b) s test ≡ true
passes_joined [] b s inner test h next = next s h
passes_joined (Terminal t k ∷ a) b s inner test h next = passes_joined a b (move s k) inner test h next
passes_joined (Nonterminal n ∷ a) b s inner test h next = all_wider (λ q. passes a q inner) (λ q. passes (a ++ b) q test) (ends n s) (λ q one. passes_joined a b q inner test one next) h

expanded : (n : ℕ) (p : PlainProduction) (symbols : List Symbol) (s : Situation) (test : Situation → Bool) → IsProductionOf annex n p → passes (Nonterminal n ∷ symbols) s test ≡ true → passes (p.right ++ symbols) s test ≡ true
expanded n p symbols s test is h = passes_joined p.right symbols s (λ q. list_any (same q) (ends n s)) test (production_keeps n p s is) (λ q one. among_passes (λ r. passes symbols r test) (ends n s) q h one)

-- the tokens of a derivation lead where its symbols may lead
leads : (bytes : List ℕ) (steps : List Step) (symbols : List Symbol) (tokens : List Token) (s : Situation) (test : Situation → Bool) → Derives annex steps symbols (terminals_of bytes tokens) → passes symbols s test ≡ true
    → test (walked s (marked (terminals_of bytes tokens) tokens steps)) ≡ true
leads bytes [] [] [] s test d h = h
leads bytes (Shift mark ∷ steps) (Terminal t k ∷ symbols) (token ∷ tokens) s test d h =
    subst (λ (z : ℕ). test (walked (move s z) (marked (terminals_of bytes tokens) tokens steps)) ≡ true) (sym d.1) (leads bytes steps symbols tokens (move s k) test d.2 h)
leads bytes (Expand name ∷ steps) (Nonterminal n ∷ symbols) tokens s test d h = leads bytes steps (d.0.right ++ symbols) tokens s test d.3 (expanded n d.0 symbols s test d.1 h)
leads bytes _ _ _ s test d h = absurd d

-- the tokens of a text lead to its end
pub text_walks : (bytes : List ℕ) (steps : List Step) (tokens : List Token) → Derives annex steps (Nonterminal annex.start ∷ []) (terminals_of bytes tokens) → accepted Quiet (marked (terminals_of bytes tokens) tokens steps) ≡ true
text_walks bytes steps tokens d = leads bytes steps (Nonterminal annex.start ∷ []) tokens Quiet is_calm d refl
