-- The situations that the tokens of a text lead through by their marks, and that none of a text of the grammar is lost.
use Rattle.std.proofs.Common.{◌≡◌, ℕ, zero, suc, Bool, true, false, ◌==◌, ◌&&◌, if◌then◌else◌, List, [], ◌∷◌, ◌++◌, Some, refl, sym, ap, subst, ◌∙◌, ◌+◌, arith, inl, inr}
use Rattle.std.specs.Prelude.{slice_get, slice_index_or}
use Rattle.std.specs.List.{list_all, list_any}
use Rattle.std.proofs.lemmas.Bool.{and_parts, and_from, or_cases, eqb-true}
use Rattle.ag_grammar.specs.declared.grammar.Symbol.{Symbol}
use Rattle.ag_grammar.specs.declared.grammar.Symbol.TheVariants.{Terminal, Nonterminal}
use Rattle.ag_grammar.specs.declared.grammar.Step.{Step}
use Rattle.ag_grammar.specs.declared.grammar.Step.TheVariants.{Expand, Shift}
use Rattle.ag_grammar.specs.Grammar.{PlainProduction, IsProductionOf, Derives}
use Rattle.ag_lex.specs.declared.token.Token.{Token}
use Rattle.ag_aadl.specs.declared.marked.Marked.{Marked}
use Rattle.ag_aadl.specs.Grammar.{aadl}
use Rattle.ag_aadl.specs.Marked.{marked, is_among}
use Rattle.ag_aadl.specs.Marks.{unmarked, package_mark, part_mark, import_mark, item_mark, owner_mark, declared_mark, feature_mark, data_mark, spot_mark, spot_port_mark, end_mark}
use Rattle.ag_aadl.specs.Nonterminals.{pname, declarations, package_properties, category, component, frame_or_body, frame_sections, features, feature_list, feature_items, feature, direction, port, event_port, data_port, some_braces, place, some_port, annex, flows, properties, skipped_list, skipped_items, other, skip, group, braces, inside, plain, quiet, bracket, foreign, behind_end, behind_name, behind_colons, behind_dot, behind_body}
use Rattle.ag_aadl.specs.Words.{terminals_of}

-- Behind `package`, `with` or its `,`, where a name must come; behind the type's name of an implementation, and the dot
-- there; behind a connection's first end; behind a feature's name, up to `data`; and lost, where no text leads to.
pub data Situation : Type 0 where
  Quiet : Situation
  BehindOpening : Situation
  BehindOwner : Situation
  BehindDot : Situation
  BehindSpot : Situation
  BehindFeature : Situation
  Lost : Situation

abbrev pub opens : ℕ → Bool
opens k = is_among (package_mark ∷ import_mark ∷ []) k

-- where a token with this mark leads
abbrev pub move : Situation → ℕ → Situation
move Quiet k =
    if opens k then BehindOpening
    else (if is_among (owner_mark ∷ []) k then BehindOwner
    else (if is_among (spot_mark ∷ []) k then BehindSpot
    else (if is_among (feature_mark ∷ []) k then BehindFeature
    else Quiet)))
move BehindOpening k = if is_among (part_mark ∷ []) k then Quiet else Lost
move BehindOwner k = if is_among (unmarked ∷ []) k then BehindDot else Lost
move BehindDot k = if is_among (declared_mark ∷ []) k then Quiet else Lost
move BehindSpot k =
    if is_among (spot_mark ∷ []) k then Quiet
    else (if is_among (unmarked ∷ spot_port_mark ∷ []) k then BehindSpot else Lost)
move BehindFeature k =
    if opens k then BehindOpening
    else (if is_among (data_mark ∷ item_mark ∷ end_mark ∷ []) k then Quiet
    else (if is_among (part_mark ∷ owner_mark ∷ spot_mark ∷ []) k then Lost
    else BehindFeature))
move Lost k = Lost

abbrev pub walked : Situation → List Marked → Situation
walked s [] = s
walked s (m ∷ ms) = walked (move s m.mark) ms

-- where a declaration, and the text, may end
abbrev pub is_calm : Situation → Bool
is_calm Quiet = true
is_calm BehindFeature = true
is_calm _ = false

-- the tokens end in such a situation
abbrev pub accepted : Situation → List Marked → Bool
accepted s ms = is_calm (walked s ms)

-- ---- the situations in order

abbrev pub everything : List Situation
everything = Quiet ∷ BehindOpening ∷ BehindOwner ∷ BehindDot ∷ BehindSpot ∷ BehindFeature ∷ Lost ∷ []

abbrev number : Situation → ℕ
number Quiet = 0
number BehindOpening = 1
number BehindOwner = 2
number BehindDot = 3
number BehindSpot = 4
number BehindFeature = 5
number Lost = 6

listed : (s : Situation) → slice_get everything (number s) ≡ Some s
listed Quiet = refl
listed BehindOpening = refl
listed BehindOwner = refl
listed BehindDot = refl
listed BehindSpot = refl
listed BehindFeature = refl
listed Lost = refl

back : (s : Situation) → slice_index_or everything (number s) Lost ≡ s
back Quiet = refl
back BehindOpening = refl
back BehindOwner = refl
back BehindDot = refl
back BehindSpot = refl
back BehindFeature = refl
back Lost = refl

abbrev same : Situation → Situation → Bool
same s q = number s == number q

same-true : (s q : Situation) → same s q ≡ true → s ≡ q
same-true s q h = sym (back s) ∙ ap (λ (i : ℕ). slice_index_or everything i Lost) (eqb-true (number s) (number q) h) ∙ back q

-- ---- lists

pub all_at : {A : Type 0} (test : A → Bool) (xs : List A) (i : ℕ) (x : A) → list_all test xs ≡ true → slice_get xs i ≡ Some x → test x ≡ true
all_at test [] i x all e = absurd cc
all_at {A = A} test (y ∷ xs) zero x all e = let one : y ≡ x = cc in subst (λ (z : A). test z ≡ true) one (and_parts (test y) (list_all test xs) all).0
all_at test (y ∷ xs) (suc i) x all e = all_at test xs i x (and_parts (test y) (list_all test xs) all).1 e

pub all_wider : {A : Type 0} (test wider : A → Bool) (xs : List A) → ((x : A) → test x ≡ true → wider x ≡ true) → list_all test xs ≡ true → list_all wider xs ≡ true
all_wider test wider [] up h = refl
all_wider test wider (x ∷ xs) up h =
    let parts = and_parts (test x) (list_all test xs) h in
    and_from (wider x) (list_all wider xs) (up x parts.0) (all_wider test wider xs up parts.1)

-- a test holds of each situation that computes it
pub everywhere : (test : Situation → Bool) → list_all test everything ≡ true → (s : Situation) → test s ≡ true
everywhere test all s = all_at test everything (number s) s all (listed s)

among_passes : (test : Situation → Bool) (qs : List Situation) (q : Situation) → list_all test qs ≡ true → list_any (same q) qs ≡ true → test q ≡ true
among_passes test [] q all some = absurd cc
among_passes test (r ∷ qs) q all some =
    let parts = and_parts (test r) (list_all test qs) all in
    elim (or_cases (same q r) (list_any (same q) qs) some) [
      | inl this ↦ subst (λ (z : Situation). test z ≡ true) (sym (same-true q r this)) parts.0
      | inr later ↦ among_passes test qs q parts.1 later
    ]

-- ---- where nonterminals lead

-- the situations that a nonterminal may lead to; all of them where none is asked for
abbrev ends : ℕ → Situation → List Situation
ends n Quiet =
    if is_among (declarations ∷ component ∷ frame_or_body ∷ frame_sections ∷ features ∷ feature_list ∷ feature_items ∷ []) n then Quiet ∷ BehindFeature ∷ []
    else (if n == place then BehindSpot ∷ [] else Quiet ∷ [])
ends n BehindOpening = if n == pname then Quiet ∷ [] else everything
ends n BehindOwner = everything
ends n BehindDot = everything
ends n BehindSpot = if n == place then Quiet ∷ [] else (if n == some_port then BehindSpot ∷ [] else everything)
ends n BehindFeature =
    if is_among (category ∷ data_port ∷ []) n then Quiet ∷ []
    else (if is_among (declarations ∷ component ∷ frame_sections ∷ features ∷ feature_list ∷ feature_items ∷ feature ∷ port ∷ event_port ∷ []) n then Quiet ∷ BehindFeature ∷ []
    else (if is_among (package_properties ∷ direction ∷ some_braces ∷ annex ∷ flows ∷ properties ∷ skipped_list ∷ skipped_items ∷ other ∷ skip ∷ group ∷ braces ∷ inside ∷ plain ∷ quiet ∷ bracket ∷ foreign ∷ behind_end ∷ behind_name ∷ behind_colons ∷ behind_dot ∷ behind_body ∷ []) n then BehindFeature ∷ []
    else everything))
ends n Lost = Lost ∷ []

-- the test holds of each situation that the symbols may lead to
abbrev passes : List Symbol → Situation → (Situation → Bool) → Bool
passes [] s test = test s
passes (Terminal t k ∷ symbols) s test = passes symbols (move s k) test
passes (Nonterminal n ∷ symbols) s test = list_all (λ q. passes symbols q test) (ends n s)

-- a production leads where its nonterminal does
abbrev keeps : ℕ → PlainProduction → Situation → Bool
keeps n p s = passes p.right s (λ q. list_any (same q) (ends n s))

abbrev all_keep : ℕ → List (List PlainProduction) → Bool
all_keep n [] = true
all_keep n (ps ∷ more) = list_all (λ p. list_all (keeps n p) everything) ps && all_keep (suc n) more

aadl_keeps : all_keep 0 aadl.nonterminals ≡ true
aadl_keeps = refl

kept_at : (n : ℕ) (pss : List (List PlainProduction)) (i : ℕ) → all_keep n pss ≡ true → list_all (λ p. list_all (keeps (n + i) p) everything) (slice_index_or pss i []) ≡ true
kept_at n [] i h = refl
kept_at n (ps ∷ pss) zero h =
    let here = and_parts (list_all (λ p. list_all (keeps n p) everything) ps) (all_keep (suc n) pss) h in
    let e : n ≡ n + 0 = omega arith in
    subst (λ (k : ℕ). list_all (λ p. list_all (keeps k p) everything) ps ≡ true) e here.0
kept_at n (ps ∷ pss) (suc i) h =
    let here = and_parts (list_all (λ p. list_all (keeps n p) everything) ps) (all_keep (suc n) pss) h in
    let e : suc n + i ≡ n + suc i = omega arith in
    subst (λ (k : ℕ). list_all (λ p. list_all (keeps k p) everything) (slice_index_or pss i []) ≡ true) e (kept_at (suc n) pss i here.1)

production_keeps : (n : ℕ) (p : PlainProduction) (s : Situation) → IsProductionOf aadl n p → keeps n p s ≡ true
production_keeps n p s is =
    let ps = slice_index_or aadl.nonterminals n [] in
    let e : 0 + n ≡ n = omega arith in
    let here = subst (λ (k : ℕ). list_all (λ q. list_all (keeps k q) everything) ps ≡ true) e (kept_at 0 aadl.nonterminals n aadl_keeps) in
    let one = all_at (λ q. list_all (keeps n q) everything) ps is.0 p here is.1 in
    everywhere (keeps n p) one s

passes_joined : (a b : List Symbol) (s : Situation) (inner test : Situation → Bool) → passes a s inner ≡ true → ((q : Situation) → inner q ≡ true → passes b q test ≡ true) → passes (a ++ b) s test ≡ true
passes_joined [] b s inner test h next = next s h
passes_joined (Terminal t k ∷ a) b s inner test h next = passes_joined a b (move s k) inner test h next
passes_joined (Nonterminal n ∷ a) b s inner test h next = all_wider (λ q. passes a q inner) (λ q. passes (a ++ b) q test) (ends n s) (λ q one. passes_joined a b q inner test one next) h

expanded : (n : ℕ) (p : PlainProduction) (symbols : List Symbol) (s : Situation) (test : Situation → Bool) → IsProductionOf aadl n p → passes (Nonterminal n ∷ symbols) s test ≡ true → passes (p.right ++ symbols) s test ≡ true
expanded n p symbols s test is h = passes_joined p.right symbols s (λ q. list_any (same q) (ends n s)) test (production_keeps n p s is) (λ q one. among_passes (λ r. passes symbols r test) (ends n s) q h one)

-- the tokens of a derivation lead where its symbols may lead
pub leads : (bytes : List ℕ) (steps : List Step) (symbols : List Symbol) (tokens : List Token) (s : Situation) (test : Situation → Bool) → Derives aadl steps symbols (terminals_of bytes tokens) → passes symbols s test ≡ true
    → test (walked s (marked (terminals_of bytes tokens) tokens steps)) ≡ true
leads bytes [] [] [] s test d h = h
leads bytes (Shift mark ∷ steps) (Terminal t k ∷ symbols) (token ∷ tokens) s test d h =
    subst (λ (z : ℕ). test (walked (move s z) (marked (terminals_of bytes tokens) tokens steps)) ≡ true) (sym d.1) (leads bytes steps symbols tokens (move s k) test d.2 h)
leads bytes (Expand name ∷ steps) (Nonterminal n ∷ symbols) tokens s test d h = leads bytes steps (d.0.right ++ symbols) tokens s test d.3 (expanded n d.0 symbols s test d.1 h)
leads bytes _ _ _ s test d h = absurd d

-- the tokens of a text lead to its end
pub text_walks : (bytes : List ℕ) (steps : List Step) (tokens : List Token) → Derives aadl steps (Nonterminal aadl.start ∷ []) (terminals_of bytes tokens) → accepted Quiet (marked (terminals_of bytes tokens) tokens steps) ≡ true
text_walks bytes steps tokens d = leads bytes steps (Nonterminal aadl.start ∷ []) tokens Quiet is_calm d refl
