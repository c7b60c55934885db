-- The clauses of an annex may stand where it stands, and have a canonical text.
use Rattle.std.proofs.Common.{◌≡◌, ℕ, ◌^◌, Bool, true, false, not, ◌&&◌, ◌||◌, ◌==◌, List, [], ◌∷◌, ◌++◌, map, Option, Some, None, refl, sym, ap, subst, ◌∙◌, inl, inr, if◌then◌else◌}
use Rattle.std.specs.Prelude.{Ok, Err, nat_lt, nat_le}
use Rattle.std.specs.List.{list_all}
use Rattle.std.proofs.lemmas.Bool.{both_ways, cases_Bool, and_parts, and_from, or_cases, or_left, or_right, not-true, not_from_false, eqb-true, eq-eqb}
use Rattle.std.proofs.lemmas.List.Folds.{list_all-map}
use Rattle.ag_base.specs.declared.place.Rule.TheVariants.{TooDeep, Misplaced}
use Rattle.ag_lex.specs.declared.token.Token.{Token}
use Rattle.ag_lex.specs.Rules.{decimal}
use Rattle.ag_aadl.specs.declared.marked.Marked.{Marked}
use Rattle.ag_aadl.specs.Marked.{marked, own, under, has_mark, first_of, is_among, up_to, segments}
use Rattle.ag_aadl.specs.Meaning.{begins_with}
use Rattle.ag_aadl.specs.Rules.{refused_at}
use Rattle.ag_terms.specs.declared.clauses.Clause.{Clause}
use Rattle.ag_terms.specs.declared.clauses.Clause.TheVariants as clause
use Rattle.ag_terms.specs.declared.clauses.Equal.{Equal}
use Rattle.ag_terms.specs.declared.clauses.Labelled.{Labelled}
use Rattle.ag_terms.specs.declared.clauses.NodeDef.{NodeDef}
use Rattle.ag_terms.specs.declared.clauses.Site.{Site}
use Rattle.ag_terms.specs.declared.clauses.Site.TheVariants.{Library, Frame, Body}
use Rattle.ag_terms.specs.declared.clauses.Var.{Var}
use Rattle.ag_annex.specs.declared.nesting.Open.{Open}
use Rattle.ag_terms.specs.declared.terms.Term.{Term}
use Rattle.ag_annex.specs.Annexes.{AreAnnexTokens, IsAnnex}
use Rattle.ag_annex.specs.Clauses.{after, value_of, some_value, var_of, vars_of, equal_of, label_of, labelled_of, parts_of_node, part_under, node_of, clause_under, clause_of, clause_marks, clauses_of}
use Rattle.ag_annex.specs.Marks.{assume_mark, guarantee_mark, lemma_mark, eq_mark, assign_mark, const_mark, node_mark, label_mark, variable_mark, target_mark, node_name_mark, returns_mark, locals_mark, let_mark, value_mark, end_mark, number_mark}
use Rattle.ag_annex.specs.Nesting.{behind, levels, most_levels}
use Rattle.ag_annex.specs.Rules.{is_misplaced, opened, run_from}
use Rattle.ag_annex.specs.Words.{terminals_of}
use Rattle.ag_unparse.specs.Printable.{is_plain_name, is_plain_ident, is_label, is_printable_term, is_printable_var, are_some_vars, is_printable_value, is_printable_equal, is_printable_labelled, is_printable_node, is_printable_clause, may_stand}
use Rattle.ag_unparse.specs.Rereading.{MayBePrinted}
use Rattle.ag_unparse.proofs.PrintableTokens.{annex_right}
use Rattle.ag_unparse.proofs.PrintableFitting.{is_name_mark, is_fit, text_fits}
use Rattle.ag_unparse.proofs.PrintableSituations.{Situation, Quiet, BehindEq, BehindAssign, BehindNode, InHead, BehindReturns, Lost, move, is_calm, accepted, text_walks}
use Rattle.ag_unparse.proofs.PrintableTerms.{term_printable}

-- ---- fit tokens

abbrev Fit : List ℕ → List Marked → Type 0
Fit bytes ms = list_all (is_fit bytes) ms ≡ true

either_fit : (bytes : List ℕ) (c : Bool) (a b : List Marked) → Fit bytes a → Fit bytes b → Fit bytes (if c then a else b)
either_fit bytes true a b f g = f
either_fit bytes false a b f g = g

fit_after : (bytes : List ℕ) (k : ℕ) (ms : List Marked) → Fit bytes ms → Fit bytes (after k ms)
fit_after bytes k [] h = refl
fit_after bytes k (m ∷ ms) h =
    let parts = and_parts (is_fit bytes m) (list_all (is_fit bytes) ms) h in
    either_fit bytes (m.mark == k) ms (after k ms) parts.1 (fit_after bytes k ms parts.1)

fit_up_to : (bytes ks : List ℕ) (ms : List Marked) → Fit bytes ms → Fit bytes (up_to ks ms)
fit_up_to bytes ks [] h = refl
fit_up_to bytes ks (m ∷ ms) h =
    let parts = and_parts (is_fit bytes m) (list_all (is_fit bytes) ms) h in
    either_fit bytes (is_among ks m.mark) [] (m ∷ up_to ks ms) refl (and_from (is_fit bytes m) (list_all (is_fit bytes) (up_to ks ms)) parts.0 (fit_up_to bytes ks ms parts.1))

abbrev AllFit : List ℕ → List (List Marked) → Type 0
AllFit bytes parts = list_all (list_all (is_fit bytes)) parts ≡ true

fit_segments : (bytes ks : List ℕ) (ms : List Marked) → Fit bytes ms → AllFit bytes (segments ks ms)
fit_segments bytes ks [] h = refl
fit_segments bytes ks (m ∷ ms) h =
    let parts = and_parts (is_fit bytes m) (list_all (is_fit bytes) ms) h in
    step (is_among ks m.mark) (fit_segments bytes ks ms parts.1)
    (and_from (is_fit bytes m) (list_all (is_fit bytes) (up_to ks ms)) parts.0 (fit_up_to bytes ks ms parts.1))
  where
    step : (c : Bool) → AllFit bytes (segments ks ms) → Fit bytes (m ∷ up_to ks ms) → AllFit bytes (if c then (m ∷ up_to ks ms) ∷ segments ks ms else segments ks ms)
    step true more one = and_from (list_all (is_fit bytes) (m ∷ up_to ks ms)) (list_all (list_all (is_fit bytes)) (segments ks ms)) one more
    step false more one = more

fit_part : (bytes : List ℕ) (k : ℕ) (parts : List (List Marked)) → AllFit bytes parts → Fit bytes (part_under k parts)
fit_part bytes k [] h = refl
fit_part bytes k (part ∷ parts) h =
    let both = and_parts (list_all (is_fit bytes) part) (list_all (list_all (is_fit bytes)) parts) h in
    either_fit bytes (begins_with k part) part (part_under k parts) both.0 (fit_part bytes k parts both.1)

given : (a b : Bool) → (not a || b) ≡ true → a ≡ true → b ≡ true
given true b h e = h
given false b h e = absurd cc

name_part : (bytes : List ℕ) (m : Marked) → is_fit bytes m ≡ true → is_name_mark m.mark ≡ true → is_plain_name (own bytes m.token) ≡ true
name_part bytes m h named =
    given (is_name_mark m.mark) (is_plain_name (own bytes m.token)) (and_parts (not (is_name_mark m.mark) || is_plain_name (own bytes m.token))
    ((not (m.mark == number_mark) || nat_le (decimal (own bytes m.token)) (2 ^ 47)) && (not (m.mark == label_mark) || is_label (label_of bytes m.token))) h).0 named

label_part : (bytes : List ℕ) (m : Marked) → is_fit bytes m ≡ true → (m.mark == label_mark) ≡ true → is_label (label_of bytes m.token) ≡ true
label_part bytes m h labelled =
    let small = not (m.mark == number_mark) || nat_le (decimal (own bytes m.token)) (2 ^ 47) in
    let quoted = not (m.mark == label_mark) || is_label (label_of bytes m.token) in
    given (m.mark == label_mark) (is_label (label_of bytes m.token)) (and_parts small quoted (and_parts (not (is_name_mark m.mark) || is_plain_name (own bytes m.token)) (small && quoted) h).1).1 labelled

-- the first name under a mark
first_plain : (bytes : List ℕ) (k : ℕ) (ms : List Marked) → is_name_mark k ≡ true → Fit bytes ms → has_mark k ms ≡ true → is_plain_name (own bytes (first_of (under k ms))) ≡ true
first_plain bytes k [] named h has = absurd cc
first_plain bytes k (m ∷ ms) named h has =
    let parts = and_parts (is_fit bytes m) (list_all (is_fit bytes) ms) h in
    go (m.mark == k) refl parts.0 (first_plain bytes k ms named parts.1)
  where
    go : (b : Bool) → (m.mark == k) ≡ b → is_fit bytes m ≡ true → (has_mark k ms ≡ true → is_plain_name (own bytes (first_of (under k ms))) ≡ true)
        → is_plain_name (own bytes (first_of (if b then m.token ∷ under k ms else under k ms))) ≡ true
    go true e fit later = name_part bytes m fit (subst (λ (z : ℕ). is_name_mark z ≡ true) (sym (eqb-true m.mark k e)) named)
    go false e fit later = later (elim (or_cases (m.mark == k) (has_mark k ms) has) [ inl one ↦ absurd (both_ways (m.mark == k) e one) | inr rest ↦ rest ])

-- the label, or none
label_good : (bytes : List ℕ) (ms : List Marked) → Fit bytes ms → is_label (label_of bytes (first_of (under label_mark ms))) ≡ true
label_good bytes [] h = refl
label_good bytes (m ∷ ms) h =
    let parts = and_parts (is_fit bytes m) (list_all (is_fit bytes) ms) h in
    go (m.mark == label_mark) refl parts.0 (label_good bytes ms parts.1)
  where
    go : (b : Bool) → (m.mark == label_mark) ≡ b → is_fit bytes m ≡ true → is_label (label_of bytes (first_of (under label_mark ms))) ≡ true
        → is_label (label_of bytes (first_of (if b then m.token ∷ under label_mark ms else under label_mark ms))) ≡ true
    go true e fit later = label_part bytes m fit e
    go false e fit later = later

value_good : (bytes : List ℕ) (ms : List Marked) → Fit bytes ms → is_printable_term (value_of bytes ms) ≡ true
value_good bytes ms h = term_printable bytes (up_to (end_mark ∷ []) (after value_mark ms)) (fit_up_to bytes (end_mark ∷ []) (after value_mark ms) (fit_after bytes value_mark ms h))

some_value_good : (bytes : List ℕ) (ms : List Marked) → Fit bytes ms → is_printable_value (some_value bytes ms) ≡ true
some_value_good bytes ms h = go (has_mark value_mark ms)
  where
    go : (b : Bool) → is_printable_value (if b then Some (value_of bytes ms) else None) ≡ true
    go true = value_good bytes ms h
    go false = refl

-- ---- segments

-- a test that holds of each segment, where it holds of those that begin with such a token
each : (bytes ks : List ℕ) (p : List Marked → Bool) → ((m : Marked) (rest : List Marked) → is_among ks m.mark ≡ true → Fit bytes (m ∷ rest) → p (m ∷ rest) ≡ true) → (ms : List Marked) → Fit bytes ms → list_all p (segments ks ms) ≡ true
each bytes ks p holds [] h = refl
each bytes ks p holds (m ∷ ms) h =
    let parts = and_parts (is_fit bytes m) (list_all (is_fit bytes) ms) h in
    go (is_among ks m.mark) refl (each bytes ks p holds ms parts.1) (and_from (is_fit bytes m) (list_all (is_fit bytes) (up_to ks ms)) parts.0 (fit_up_to bytes ks ms parts.1))
  where
    go : (b : Bool) → is_among ks m.mark ≡ b → list_all p (segments ks ms) ≡ true → Fit bytes (m ∷ up_to ks ms) → list_all p (if b then (m ∷ up_to ks ms) ∷ segments ks ms else segments ks ms) ≡ true
    go true e more fit = and_from (p (m ∷ up_to ks ms)) (list_all p (segments ks ms)) (holds m (up_to ks ms) e fit) more
    go false e more fit = more

only : (k j : ℕ) → is_among (k ∷ []) j ≡ true → j ≡ k
only k j h = elim (or_cases (k == j) false h) [ inl one ↦ sym (eqb-true k j one) | inr none ↦ absurd cc ]

-- a segment that begins under a mark has a token under it
begins_so : (k : ℕ) (m : Marked) (rest : List Marked) → is_among (k ∷ []) m.mark ≡ true → has_mark k (m ∷ rest) ≡ true
begins_so k m rest h = or_left (m.mark == k) (has_mark k rest) (eq-eqb m.mark k (only k m.mark h))

vars_good : (bytes : List ℕ) (ms : List Marked) → Fit bytes ms → list_all is_printable_var (vars_of bytes ms) ≡ true
vars_good bytes ms h =
    list_all-map is_printable_var (var_of bytes) (segments (variable_mark ∷ []) ms)
    ∙ each bytes (variable_mark ∷ []) (λ (part : List Marked). is_printable_var (var_of bytes part))
    (λ (m : Marked) (rest : List Marked) (e : is_among (variable_mark ∷ []) m.mark ≡ true) (fit : Fit bytes (m ∷ rest)). first_plain bytes variable_mark (m ∷ rest) refl fit (begins_so variable_mark m rest e)) ms h

equal_good : (bytes : List ℕ) (ms : List Marked) → Fit bytes ms → has_mark target_mark ms ≡ true → is_printable_equal (equal_of bytes ms) ≡ true
equal_good bytes ms h has = and_from (is_plain_name (own bytes (first_of (under target_mark ms)))) (is_printable_term (value_of bytes ms)) (first_plain bytes target_mark ms refl h has) (value_good bytes ms h)

equations_good : (bytes : List ℕ) (ms : List Marked) → Fit bytes ms → list_all is_printable_equal (map (equal_of bytes) (segments (target_mark ∷ []) ms)) ≡ true
equations_good bytes ms h =
    list_all-map is_printable_equal (equal_of bytes) (segments (target_mark ∷ []) ms)
    ∙ each bytes (target_mark ∷ []) (λ (part : List Marked). is_printable_equal (equal_of bytes part))
    (λ (m : Marked) (rest : List Marked) (e : is_among (target_mark ∷ []) m.mark ≡ true) (fit : Fit bytes (m ∷ rest)). equal_good bytes (m ∷ rest) fit (begins_so target_mark m rest e)) ms h

-- some declared names, where the first token is one
some_vars : (bytes : List ℕ) (m : Marked) (rest : List Marked) → m.mark ≡ variable_mark → Fit bytes (m ∷ rest) → are_some_vars (vars_of bytes (m ∷ rest)) ≡ true
some_vars bytes m rest e h =
    let here : is_among (variable_mark ∷ []) m.mark ≡ true = ap (is_among (variable_mark ∷ [])) e in
    let vars = map (var_of bytes) ((m ∷ up_to (variable_mark ∷ []) rest) ∷ segments (variable_mark ∷ []) rest) in
    let whole : vars_of bytes (m ∷ rest) ≡ vars = ap (λ (c : Bool). map (var_of bytes) (if c then (m ∷ up_to (variable_mark ∷ []) rest) ∷ segments (variable_mark ∷ []) rest else segments (variable_mark ∷ []) rest)) here in
    ap are_some_vars whole ∙ subst (λ (z : List Var). list_all is_printable_var z ≡ true) whole (vars_good bytes (m ∷ rest) h)

-- ---- the next token

not_lost : (ms : List Marked) → accepted Lost ms ≡ true → ⊥
not_lost [] h = absurd cc
not_lost (m ∷ ms) h = not_lost ms h

record Next (ms : List Marked) (j : ℕ) (there : Situation) : Type 0 where
  token : Marked
  rest : List Marked
  whole : ms ≡ token ∷ rest
  mark : token.mark ≡ j
  walks : accepted there rest ≡ true

next_by : (s there : Situation) (j : ℕ) → is_calm s ≡ false → ((k : ℕ) → move s k ≡ (if is_among (j ∷ []) k then there else Lost)) → (ms : List Marked) → accepted s ms ≡ true → Next ms j there
next_by s there j calm moves [] h = absurd (both_ways (is_calm s) calm h)
next_by s there j calm moves (m ∷ ms) h = go (is_among (j ∷ []) m.mark) refl (subst (λ (z : Situation). accepted z ms ≡ true) (moves m.mark) h)
  where
    go : (b : Bool) → is_among (j ∷ []) m.mark ≡ b → accepted (if b then there else Lost) ms ≡ true → Next (m ∷ ms) j there
    go true e walks = record { token = m; rest = ms; whole = refl; mark = only j m.mark e; walks = walks }
    go false e walks = absurd (not_lost ms walks)

-- a token under such a mark leads from where nothing is awaited
from_quiet : (s there : Situation) (k : ℕ) (ms : List Marked) → move Quiet k ≡ there → move BehindEq k ≡ Lost → move BehindAssign k ≡ Lost → move BehindNode k ≡ Lost → move InHead k ≡ Lost → move BehindReturns k ≡ Lost
    → accepted (move s k) ms ≡ true → accepted there ms ≡ true
from_quiet Quiet there k ms a b c d e f h = subst (λ (z : Situation). accepted z ms ≡ true) a h
from_quiet BehindEq there k ms a b c d e f h = absurd (not_lost ms (subst (λ (z : Situation). accepted z ms ≡ true) b h))
from_quiet BehindAssign there k ms a b c d e f h = absurd (not_lost ms (subst (λ (z : Situation). accepted z ms ≡ true) c h))
from_quiet BehindNode there k ms a b c d e f h = absurd (not_lost ms (subst (λ (z : Situation). accepted z ms ≡ true) d h))
from_quiet InHead there k ms a b c d e f h = absurd (not_lost ms (subst (λ (z : Situation). accepted z ms ≡ true) e h))
from_quiet BehindReturns there k ms a b c d e f h = absurd (not_lost ms (subst (λ (z : Situation). accepted z ms ≡ true) f h))
from_quiet Lost there k ms a b c d e f h = absurd (not_lost ms h)

-- the first word of a clause, and the tokens behind it as the walk goes on
abbrev Leads : ℕ → Situation → Marked → List Marked → Type 0
Leads k there m ms = (s : Situation) → m.mark ≡ k → accepted s (m ∷ ms) ≡ true → accepted there ms ≡ true

leads_eq : (m : Marked) (ms : List Marked) → Leads eq_mark BehindEq m ms
leads_eq m ms s e h = from_quiet s BehindEq eq_mark ms refl refl refl refl refl refl (subst (λ (z : ℕ). accepted (move s z) ms ≡ true) e h)

leads_const : (m : Marked) (ms : List Marked) → Leads const_mark BehindEq m ms
leads_const m ms s e h = from_quiet s BehindEq const_mark ms refl refl refl refl refl refl (subst (λ (z : ℕ). accepted (move s z) ms ≡ true) e h)

leads_assign : (m : Marked) (ms : List Marked) → Leads assign_mark BehindAssign m ms
leads_assign m ms s e h = from_quiet s BehindAssign assign_mark ms refl refl refl refl refl refl (subst (λ (z : ℕ). accepted (move s z) ms ≡ true) e h)

leads_node : (m : Marked) (ms : List Marked) → Leads node_mark BehindNode m ms
leads_node m ms s e h = from_quiet s BehindNode node_mark ms refl refl refl refl refl refl (subst (λ (z : ℕ). accepted (move s z) ms ≡ true) e h)

-- what stands up to the next clause, if its first mark is none of a clause's
up_to_next : (ks : List ℕ) (ms : List Marked) (j : ℕ) (there : Situation) (n : Next ms j there) → is_among ks j ≡ false → up_to ks ms ≡ n.token ∷ up_to ks n.rest
up_to_next ks ms j there n free =
    ap (up_to ks) n.whole ∙ ap (λ (c : Bool). if c then [] else n.token ∷ up_to ks n.rest) (ap (is_among ks) n.mark ∙ free)

-- ---- where clauses stand

assume_stands : (site : Site) (l : Labelled) → is_misplaced site assume_mark ≡ false → may_stand site (clause.Assume l) ≡ true
assume_stands Library l h = absurd cc
assume_stands Frame l h = refl
assume_stands Body l h = absurd cc

guarantee_stands : (site : Site) (l : Labelled) → is_misplaced site guarantee_mark ≡ false → may_stand site (clause.Guarantee l) ≡ true
guarantee_stands Library l h = absurd cc
guarantee_stands Frame l h = refl
guarantee_stands Body l h = absurd cc

lemma_stands : (site : Site) (l : Labelled) → is_misplaced site lemma_mark ≡ false → may_stand site (clause.Lemma l) ≡ true
lemma_stands Library l h = absurd cc
lemma_stands Frame l h = absurd cc
lemma_stands Body l h = refl

eq_stands : (site : Site) (names : List Var) (value : Option Term) → is_misplaced site eq_mark ≡ false → may_stand site (clause.Eq names value) ≡ true
eq_stands Library names value h = absurd cc
eq_stands Frame names value h = refl
eq_stands Body names value h = refl

assign_stands : (site : Site) (e : Equal) → is_misplaced site assign_mark ≡ false → may_stand site (clause.Assign e) ≡ true
assign_stands Library e h = absurd cc
assign_stands Frame e h = absurd cc
assign_stands Body e h = refl

const_stands : (site : Site) (name : Var) (value : Term) → may_stand site (clause.Const name value) ≡ true
const_stands Library name value = refl
const_stands Frame name value = refl
const_stands Body name value = refl

node_stands : (site : Site) (n : NodeDef) → may_stand site (clause.Node n) ≡ true
node_stands Library n = refl
node_stands Frame n = refl
node_stands Body n = refl

-- each token stands where it may
well_placed : (site : Site) (ms : List Marked) (opens last : List Open) → run_from site (Ok opens) ms ≡ Ok last → list_all (λ m. not (is_misplaced site m.mark)) ms ≡ true
well_placed site [] opens last h = refl
well_placed site (m ∷ ms) opens last h = go (is_misplaced site m.mark) refl (behind m.mark opens) h (λ next e. well_placed site ms next last e)
  where
    deep : (next : List Open) (b : Bool) → run_from site (if b then Err (refused_at TooDeep m.token) else Ok next) ms ≡ Ok last → (run_from site (Ok next) ms ≡ Ok last → list_all (λ n. not (is_misplaced site n.mark)) ms ≡ true)
        → list_all (λ n. not (is_misplaced site n.mark)) ms ≡ true
    deep next true e more = absurd cc
    deep next false e more = more e

    go : (b : Bool) → is_misplaced site m.mark ≡ b → (o : Option (List Open)) → run_from site (if b then Err (refused_at Misplaced m.token) else opened m o) ms ≡ Ok last
        → ((next : List Open) → run_from site (Ok next) ms ≡ Ok last → list_all (λ n. not (is_misplaced site n.mark)) ms ≡ true) → list_all (λ n. not (is_misplaced site n.mark)) (m ∷ ms) ≡ true
    go true e o r more = absurd cc
    go false e None r more = absurd cc
    go false e (Some next) r more =
        and_from (not (is_misplaced site m.mark)) (list_all (λ n. not (is_misplaced site n.mark)) ms) (not_from_false (is_misplaced site m.mark) e) (deep next (nat_lt most_levels (levels next)) r (more next))

-- ---- nodes

-- the first `returns` behind a node's name, with the `(` and the first declared name behind it
record Returned (ms : List Marked) : Type 0 where
  front : List Marked
  word : Marked
  bracket : Marked
  name : Marked
  rest : List Marked
  whole : ms ≡ front ++ word ∷ bracket ∷ name ∷ rest
  apart : list_all (λ m. not (is_among clause_marks m.mark)) front ≡ true
  before : list_all (λ m. not (is_among (returns_mark ∷ []) m.mark)) front ≡ true
  first : word.mark ≡ returns_mark
  second : bracket.mark ≡ 0
  third : name.mark ≡ variable_mark

head_returns : (ms : List Marked) → accepted InHead ms ≡ true → Returned ms
head_returns [] h = absurd cc
head_returns (m ∷ ms) h = go (is_among (returns_mark ∷ []) m.mark) refl (is_among clause_marks m.mark) refl h (head_returns ms)
  where
    go : (b : Bool) → is_among (returns_mark ∷ []) m.mark ≡ b → (c : Bool) → is_among clause_marks m.mark ≡ c → accepted (if b then BehindReturns else (if c then Lost else InHead)) ms ≡ true → (accepted InHead ms ≡ true → Returned ms) → Returned (m ∷ ms)
    go true e c f walks later =
        let n = next_by BehindReturns BehindEq 0 refl (λ (k : ℕ). refl) ms walks in
        let v = next_by BehindEq Quiet variable_mark refl (λ (k : ℕ). refl) n.rest n.walks in
        record {
          front = [];
          word = m;
          bracket = n.token;
          name = v.token;
          rest = v.rest;
          whole = ap (λ (z : List Marked). m ∷ z) (n.whole ∙ ap (λ (z : List Marked). n.token ∷ z) v.whole);
          apart = refl;
          before = refl;
          first = only returns_mark m.mark e;
          second = n.mark;
          third = v.mark;
        }
    go false e true f walks later = absurd (not_lost ms walks)
    go false e false f walks later =
        let r = later walks in
        record {
          front = m ∷ r.front;
          word = r.word;
          bracket = r.bracket;
          name = r.name;
          rest = r.rest;
          whole = ap (λ (z : List Marked). m ∷ z) r.whole;
          apart = and_from (not (is_among clause_marks m.mark)) (list_all (λ n. not (is_among clause_marks n.mark)) r.front) (not_from_false (is_among clause_marks m.mark) f) r.apart;
          before = and_from (not (is_among (returns_mark ∷ []) m.mark)) (list_all (λ n. not (is_among (returns_mark ∷ []) n.mark)) r.front) (not_from_false (is_among (returns_mark ∷ []) m.mark) e) r.before;
          first = r.first;
          second = r.second;
          third = r.third;
        }

up_to_free : (ks : List ℕ) (a b : List Marked) → list_all (λ m. not (is_among ks m.mark)) a ≡ true → up_to ks (a ++ b) ≡ a ++ up_to ks b
up_to_free ks [] b h = refl
up_to_free ks (m ∷ a) b h =
    let parts = and_parts (not (is_among ks m.mark)) (list_all (λ n. not (is_among ks n.mark)) a) h in
    rw (not-true (is_among ks m.mark) parts.0) (ap (λ (z : List Marked). m ∷ z) (up_to_free ks a b parts.1))

past : (ks : List ℕ) (m : Marked) (j : ℕ) (ms : List Marked) → m.mark ≡ j → is_among ks j ≡ false → up_to ks (m ∷ ms) ≡ m ∷ up_to ks ms
past ks m j ms e free = ap (λ (c : Bool). if c then [] else m ∷ up_to ks ms) (ap (is_among ks) e ∙ free)

-- the marks of the words that the parts of a node begin with
abbrev part_marks : List ℕ
part_marks = node_mark ∷ returns_mark ∷ locals_mark ∷ let_mark ∷ []

other_way : (k j : ℕ) → (k == j) ≡ false → (j == k) ≡ false
other_way k j h =
    elim (cases_Bool (j == k)) [
      | inl so ↦
          let e = eqb-true j k so in
          absurd (both_ways (k == j) h (eq-eqb k j (sym e)))
      | inr free ↦ free
    ]

no_returns : (m : Marked) → not (is_among (returns_mark ∷ []) m.mark) ≡ true → (m.mark == returns_mark) ≡ false
no_returns m h = go (returns_mark == m.mark) refl h
  where
    go : (b : Bool) → (returns_mark == m.mark) ≡ b → not (b || false) ≡ true → (m.mark == returns_mark) ≡ false
    go true e g = absurd cc
    go false e g = other_way returns_mark m.mark e

part_found : (front : List Marked) (word : Marked) (rest : List Marked) → list_all (λ m. not (is_among (returns_mark ∷ []) m.mark)) front ≡ true → word.mark ≡ returns_mark
    → part_under returns_mark (parts_of_node (front ++ word ∷ rest)) ≡ word ∷ up_to part_marks rest
part_found [] word rest h e =
    let ks = part_marks in
    ap (λ (c : Bool). part_under returns_mark (if c then (word ∷ up_to ks rest) ∷ segments ks rest else segments ks rest)) (ap (is_among ks) e)
    ∙ ap (λ (c : Bool). if c then word ∷ up_to ks rest else part_under returns_mark (segments ks rest)) (eq-eqb word.mark returns_mark e)
part_found (m ∷ front) word rest h e =
    let parts = and_parts (not (is_among (returns_mark ∷ []) m.mark)) (list_all (λ n. not (is_among (returns_mark ∷ []) n.mark)) front) h in
    go (is_among part_marks m.mark) (no_returns m parts.0) (part_found front word rest parts.1 e)
  where
    go : (b : Bool) → (m.mark == returns_mark) ≡ false → part_under returns_mark (segments part_marks (front ++ word ∷ rest)) ≡ word ∷ up_to part_marks rest
        → part_under returns_mark (if b then (m ∷ up_to part_marks (front ++ word ∷ rest)) ∷ segments part_marks (front ++ word ∷ rest)
        else segments part_marks (front ++ word ∷ rest)) ≡ word ∷ up_to part_marks rest
    go true g more =
        ap (λ (c : Bool). if c then m ∷ up_to part_marks (front ++ word ∷ rest)
        else part_under returns_mark (segments part_marks (front ++ word ∷ rest))) g ∙ more
    go false g more = more

-- two tokens that are no names, and then one
two_before : (bytes : List ℕ) (a b v : Marked) (rest : List Marked) → is_among (variable_mark ∷ []) a.mark ≡ false → is_among (variable_mark ∷ []) b.mark ≡ false → v.mark ≡ variable_mark → Fit bytes (v ∷ rest)
    → are_some_vars (vars_of bytes (a ∷ b ∷ v ∷ rest)) ≡ true
two_before bytes a b v rest e f g h =
    let ks = variable_mark ∷ [] in
    ap (λ (c : Bool). are_some_vars (map (var_of bytes) (if c then (a ∷ up_to ks (b ∷ v ∷ rest)) ∷ segments ks (b ∷ v ∷ rest) else segments ks (b ∷ v ∷ rest)))) e
    ∙ ap (λ (c : Bool). are_some_vars (map (var_of bytes) (if c then (b ∷ up_to ks (v ∷ rest)) ∷ segments ks (v ∷ rest) else segments ks (v ∷ rest)))) f
    ∙ some_vars bytes v rest g h

-- the returned names, in the part of the node that `returns` begins
outputs_good : (bytes : List ℕ) (front : List Marked) (word bracket name : Marked) (rest : List Marked) → list_all (λ m. not (is_among (returns_mark ∷ []) m.mark)) front ≡ true → word.mark ≡ returns_mark → bracket.mark ≡ 0 → name.mark ≡ variable_mark
    → Fit bytes (front ++ word ∷ bracket ∷ name ∷ rest) → are_some_vars (vars_of bytes (part_under returns_mark (parts_of_node (front ++ word ∷ bracket ∷ name ∷ rest)))) ≡ true
outputs_good bytes front word bracket name rest h d e f fit =
    let ks = part_marks in
    let part = word ∷ bracket ∷ name ∷ up_to ks rest in
    let found : part_under returns_mark (parts_of_node (front ++ word ∷ bracket ∷ name ∷ rest)) ≡ part =
    part_found front word (bracket ∷ name ∷ rest) h d ∙ ap (λ (z : List Marked). word ∷ z) (past ks bracket 0 (name ∷ rest) e refl ∙ ap (λ (z : List Marked). bracket ∷ z) (past ks name variable_mark rest f refl)) in
    let fits : Fit bytes part = subst (Fit bytes) found (fit_part bytes returns_mark (parts_of_node (front ++ word ∷ bracket ∷ name ∷ rest)) (fit_segments bytes ks (front ++ word ∷ bracket ∷ name ∷ rest) fit)) in
    let inner = (and_parts (is_fit bytes bracket) (list_all (is_fit bytes) (name ∷ up_to ks rest)) (and_parts (is_fit bytes word) (list_all (is_fit bytes) (bracket ∷ name ∷ up_to ks rest)) fits).1).1 in
    ap (λ (z : List Marked). are_some_vars (vars_of bytes z)) found ∙ two_before bytes word bracket name (up_to ks rest) (ap (is_among (variable_mark ∷ [])) d) (ap (is_among (variable_mark ∷ [])) e) f inner

node_good : (bytes : List ℕ) (ms : List Marked) → Fit bytes ms → has_mark node_name_mark ms ≡ true → are_some_vars (vars_of bytes (part_under returns_mark (parts_of_node ms))) ≡ true → is_printable_node (node_of bytes ms) ≡ true
node_good bytes ms h named outputs =
    let parts = parts_of_node ms in
    let fits = fit_segments bytes part_marks ms h in
    let n = node_of bytes ms in
    and_from (is_plain_ident n.name) (list_all is_printable_var n.inputs && (are_some_vars n.outputs && (list_all is_printable_var n.locals && list_all is_printable_equal n.equations))) (first_plain bytes node_name_mark ms refl h named)
    (and_from (list_all is_printable_var n.inputs) (are_some_vars n.outputs && (list_all is_printable_var n.locals && list_all is_printable_equal n.equations)) (vars_good bytes (part_under node_mark parts) (fit_part bytes node_mark parts fits))
    (and_from (are_some_vars n.outputs) (list_all is_printable_var n.locals && list_all is_printable_equal n.equations) outputs
    (and_from (list_all is_printable_var n.locals) (list_all is_printable_equal n.equations) (vars_good bytes (part_under locals_mark parts) (fit_part bytes locals_mark parts fits))
    (equations_good bytes (part_under let_mark parts) (fit_part bytes let_mark parts fits)))))

-- ---- clauses

-- the clause may stand there, and has a canonical text
abbrev is_good : Site → Clause → Bool
is_good site c = is_printable_clause c && may_stand site c

-- the tokens of a clause: its first word, and those behind it up to the next clause
abbrev piece : Marked → List Marked → List Marked
piece m ms = m ∷ up_to clause_marks ms

-- a clause's tokens in the text
record Piece (site : Site) (bytes : List ℕ) (m : Marked) (ms : List Marked) : Type 0 where
  fits : Fit bytes (m ∷ ms)
  free : is_misplaced site m.mark ≡ false
  before : Situation
  walks : accepted before (m ∷ ms) ≡ true

piece_fits : (site : Site) (bytes : List ℕ) (m : Marked) (ms : List Marked) → Piece site bytes m ms → Fit bytes (piece m ms)
piece_fits site bytes m ms p =
    let parts = and_parts (is_fit bytes m) (list_all (is_fit bytes) ms) p.fits in
    and_from (is_fit bytes m) (list_all (is_fit bytes) (up_to clause_marks ms)) parts.0 (fit_up_to bytes clause_marks ms parts.1)

free_at : (site : Site) (bytes : List ℕ) (m : Marked) (ms : List Marked) (k : ℕ) → Piece site bytes m ms → m.mark ≡ k → is_misplaced site k ≡ false
free_at site bytes m ms k p e = subst (λ (z : ℕ). is_misplaced site z ≡ false) e p.free

labelled_good : (bytes : List ℕ) (k : ℕ) (ms : List Marked) → Fit bytes ms → is_printable_labelled (labelled_of bytes k ms) ≡ true
labelled_good bytes k ms h = and_from (is_label (label_of bytes (first_of (under label_mark ms)))) (is_printable_term (value_of bytes ms)) (label_good bytes ms h) (value_good bytes ms h)

-- the clause by the mark of its first word
abbrev clause_at : List ℕ → Marked → List Marked → ℕ → Clause
clause_at bytes m ms k = clause_under bytes k (piece m ms)

good_as : (site : Site) (bytes : List ℕ) (m : Marked) (ms : List Marked) (k : ℕ) → m.mark ≡ k → is_printable_clause (clause_at bytes m ms k) ≡ true → may_stand site (clause_at bytes m ms k) ≡ true → is_good site (clause_of bytes (piece m ms)) ≡ true
good_as site bytes m ms k e f g = ap (λ (z : ℕ). is_good site (clause_at bytes m ms z)) e ∙ and_from (is_printable_clause (clause_at bytes m ms k)) (may_stand site (clause_at bytes m ms k)) f g

assume_good : (site : Site) (bytes : List ℕ) (m : Marked) (ms : List Marked) → Piece site bytes m ms → m.mark ≡ assume_mark → is_good site (clause_of bytes (piece m ms)) ≡ true
assume_good site bytes m ms p e =
    good_as site bytes m ms assume_mark e (labelled_good bytes assume_mark (piece m ms) (piece_fits site bytes m ms p)) (assume_stands site (labelled_of bytes assume_mark (piece m ms)) (free_at site bytes m ms assume_mark p e))

guarantee_good : (site : Site) (bytes : List ℕ) (m : Marked) (ms : List Marked) → Piece site bytes m ms → m.mark ≡ guarantee_mark → is_good site (clause_of bytes (piece m ms)) ≡ true
guarantee_good site bytes m ms p e =
    good_as site bytes m ms guarantee_mark e (labelled_good bytes guarantee_mark (piece m ms) (piece_fits site bytes m ms p)) (guarantee_stands site (labelled_of bytes guarantee_mark (piece m ms)) (free_at site bytes m ms guarantee_mark p e))

lemma_good : (site : Site) (bytes : List ℕ) (m : Marked) (ms : List Marked) → Piece site bytes m ms → m.mark ≡ lemma_mark → is_good site (clause_of bytes (piece m ms)) ≡ true
lemma_good site bytes m ms p e =
    good_as site bytes m ms lemma_mark e (labelled_good bytes lemma_mark (piece m ms) (piece_fits site bytes m ms p)) (lemma_stands site (labelled_of bytes lemma_mark (piece m ms)) (free_at site bytes m ms lemma_mark p e))

eq_good : (site : Site) (bytes : List ℕ) (m : Marked) (ms : List Marked) → Piece site bytes m ms → m.mark ≡ eq_mark → is_good site (clause_of bytes (piece m ms)) ≡ true
eq_good site bytes m ms p e =
    let fits = piece_fits site bytes m ms p in
    let n = next_by BehindEq Quiet variable_mark refl (λ (k : ℕ). refl) ms (leads_eq m ms p.before e p.walks) in
    let up = up_to_next clause_marks ms variable_mark Quiet n refl in
    let more = n.token ∷ up_to clause_marks n.rest in
    let inner : Fit bytes more = subst (Fit bytes) up (and_parts (is_fit bytes m) (list_all (is_fit bytes) (up_to clause_marks ms)) fits).1 in
    let skip : vars_of bytes (piece m ms) ≡ vars_of bytes (up_to clause_marks ms) =
    ap (λ (c : Bool). map (var_of bytes) (if c then (m ∷ up_to (variable_mark ∷ []) (up_to clause_marks ms)) ∷ segments (variable_mark ∷ []) (up_to clause_marks ms) else segments (variable_mark ∷ []) (up_to clause_marks ms))) (ap (is_among (variable_mark ∷ [])) e) in
    let names : are_some_vars (vars_of bytes (piece m ms)) ≡ true = ap are_some_vars skip ∙ ap (λ (z : List Marked). are_some_vars (vars_of bytes z)) up ∙ some_vars bytes n.token (up_to clause_marks n.rest) n.mark inner in
    good_as site bytes m ms eq_mark e
    (and_from (are_some_vars (vars_of bytes (piece m ms))) (is_printable_value (some_value bytes (piece m ms))) names (some_value_good bytes (piece m ms) fits))
    (eq_stands site (vars_of bytes (piece m ms)) (some_value bytes (piece m ms)) (free_at site bytes m ms eq_mark p e))

-- the token behind the first has the mark
second_has : (ms : List Marked) (m : Marked) (j : ℕ) (there : Situation) (n : Next ms j there) → is_among clause_marks j ≡ false → has_mark j (piece m ms) ≡ true
second_has ms m j there n free =
    or_right (m.mark == j) (has_mark j (up_to clause_marks ms))
    (ap (has_mark j) (up_to_next clause_marks ms j there n free) ∙ or_left (n.token.mark == j) (has_mark j (up_to clause_marks n.rest)) (eq-eqb n.token.mark j n.mark))

assign_good : (site : Site) (bytes : List ℕ) (m : Marked) (ms : List Marked) → Piece site bytes m ms → m.mark ≡ assign_mark → is_good site (clause_of bytes (piece m ms)) ≡ true
assign_good site bytes m ms p e =
    let n = next_by BehindAssign Quiet target_mark refl (λ (k : ℕ). refl) ms (leads_assign m ms p.before e p.walks) in
    good_as site bytes m ms assign_mark e (equal_good bytes (piece m ms) (piece_fits site bytes m ms p) (second_has ms m target_mark Quiet n refl)) (assign_stands site (equal_of bytes (piece m ms)) (free_at site bytes m ms assign_mark p e))

const_good : (site : Site) (bytes : List ℕ) (m : Marked) (ms : List Marked) → Piece site bytes m ms → m.mark ≡ const_mark → is_good site (clause_of bytes (piece m ms)) ≡ true
const_good site bytes m ms p e =
    let fits = piece_fits site bytes m ms p in
    let n = next_by BehindEq Quiet variable_mark refl (λ (k : ℕ). refl) ms (leads_const m ms p.before e p.walks) in
    good_as site bytes m ms const_mark e
    (and_from (is_printable_var (var_of bytes (piece m ms))) (is_printable_term (value_of bytes (piece m ms))) (first_plain bytes variable_mark (piece m ms) refl fits (second_has ms m variable_mark Quiet n refl)) (value_good bytes (piece m ms) fits))
    (const_stands site (var_of bytes (piece m ms)) (value_of bytes (piece m ms)))

node_piece_good : (site : Site) (bytes : List ℕ) (m : Marked) (ms : List Marked) → Piece site bytes m ms → m.mark ≡ node_mark → is_good site (clause_of bytes (piece m ms)) ≡ true
node_piece_good site bytes m ms p e =
    let fits = piece_fits site bytes m ms p in
    let n = next_by BehindNode InHead node_name_mark refl (λ (k : ℕ). refl) ms (leads_node m ms p.before e p.walks) in
    let r = head_returns n.rest n.walks in
    let last = up_to clause_marks r.rest in
    let front = m ∷ n.token ∷ r.front in
    let behind_front : up_to clause_marks (r.word ∷ r.bracket ∷ r.name ∷ r.rest) ≡ r.word ∷ r.bracket ∷ r.name ∷ last =
    past clause_marks r.word returns_mark (r.bracket ∷ r.name ∷ r.rest) r.first refl
    ∙ ap (λ (z : List Marked). r.word ∷ z) (past clause_marks r.bracket 0 (r.name ∷ r.rest) r.second refl ∙ ap (λ (z : List Marked). r.bracket ∷ z) (past clause_marks r.name variable_mark r.rest r.third refl)) in
    let whole : piece m ms ≡ front ++ r.word ∷ r.bracket ∷ r.name ∷ last =
    ap (λ (z : List Marked). m ∷ z)
    (up_to_next clause_marks ms node_name_mark InHead n refl
    ∙ ap (λ (z : List Marked). n.token ∷ z) (ap (up_to clause_marks) r.whole ∙ up_to_free clause_marks r.front (r.word ∷ r.bracket ∷ r.name ∷ r.rest) r.apart ∙ ap (λ (z : List Marked). r.front ++ z) behind_front)) in
    let none : list_all (λ q. not (is_among (returns_mark ∷ []) q.mark)) front ≡ true =
    and_from (not (is_among (returns_mark ∷ []) m.mark)) (list_all (λ q. not (is_among (returns_mark ∷ []) q.mark)) (n.token ∷ r.front)) (ap (λ (z : ℕ). not (is_among (returns_mark ∷ []) z)) e)
    (and_from (not (is_among (returns_mark ∷ []) n.token.mark)) (list_all (λ q. not (is_among (returns_mark ∷ []) q.mark)) r.front) (ap (λ (z : ℕ). not (is_among (returns_mark ∷ []) z)) n.mark) r.before) in
    let outputs : are_some_vars (vars_of bytes (part_under returns_mark (parts_of_node (piece m ms)))) ≡ true =
    ap (λ (z : List Marked). are_some_vars (vars_of bytes (part_under returns_mark (parts_of_node z)))) whole
    ∙ outputs_good bytes front r.word r.bracket r.name last none r.first r.second r.third (subst (Fit bytes) whole fits) in
    good_as site bytes m ms node_mark e (node_good bytes (piece m ms) fits (second_has ms m node_name_mark InHead n refl) outputs) (node_stands site (node_of bytes (piece m ms)))

clause_good : (site : Site) (bytes : List ℕ) (m : Marked) (ms : List Marked) → Piece site bytes m ms → is_among clause_marks m.mark ≡ true → is_good site (clause_of bytes (piece m ms)) ≡ true
clause_good site bytes m ms p h =
    elim (or_cases (assume_mark == m.mark) _ h) [
      | inl e ↦ assume_good site bytes m ms p (sym (eqb-true assume_mark m.mark e))
      | inr h1 ↦ elim (or_cases (guarantee_mark == m.mark) _ h1) [
        | inl e ↦ guarantee_good site bytes m ms p (sym (eqb-true guarantee_mark m.mark e))
        | inr h2 ↦ elim (or_cases (lemma_mark == m.mark) _ h2) [
          | inl e ↦ lemma_good site bytes m ms p (sym (eqb-true lemma_mark m.mark e))
          | inr h3 ↦ elim (or_cases (eq_mark == m.mark) _ h3) [
            | inl e ↦ eq_good site bytes m ms p (sym (eqb-true eq_mark m.mark e))
            | inr h4 ↦ elim (or_cases (assign_mark == m.mark) _ h4) [
              | inl e ↦ assign_good site bytes m ms p (sym (eqb-true assign_mark m.mark e))
              | inr h5 ↦ elim (or_cases (const_mark == m.mark) _ h5) [
                | inl e ↦ const_good site bytes m ms p (sym (eqb-true const_mark m.mark e))
                | inr h6 ↦ elim (or_cases (node_mark == m.mark) false h6) [
                  | inl e ↦ node_piece_good site bytes m ms p (sym (eqb-true node_mark m.mark e))
                  | inr none ↦ absurd cc
                ]
              ]
            ]
          ]
        ]
      ]
    ]

clauses_good : (site : Site) (bytes : List ℕ) (ms : List Marked) (s : Situation) → Fit bytes ms → list_all (λ m. not (is_misplaced site m.mark)) ms ≡ true → accepted s ms ≡ true
    → list_all (λ part. is_good site (clause_of bytes part)) (segments clause_marks ms) ≡ true
clauses_good site bytes [] s fit free walks = refl
clauses_good site bytes (m ∷ ms) s fit free walks =
    let fits = and_parts (is_fit bytes m) (list_all (is_fit bytes) ms) fit in
    let frees = and_parts (not (is_misplaced site m.mark)) (list_all (λ n. not (is_misplaced site n.mark)) ms) free in
    let here : Piece site bytes m ms = record { fits = fit; free = not-true (is_misplaced site m.mark) frees.0; before = s; walks = walks } in
    go (is_among clause_marks m.mark) (clause_good site bytes m ms here) (clauses_good site bytes ms (move s m.mark) fits.1 frees.1 walks)
  where
    go : (b : Bool) → (b ≡ true → is_good site (clause_of bytes (piece m ms)) ≡ true) → list_all (λ part. is_good site (clause_of bytes part)) (segments clause_marks ms) ≡ true
        → list_all (λ part. is_good site (clause_of bytes part)) (if b then piece m ms ∷ segments clause_marks ms else segments clause_marks ms) ≡ true
    go true one more = and_from (is_good site (clause_of bytes (piece m ms))) (list_all (λ part. is_good site (clause_of bytes part)) (segments clause_marks ms)) (one refl) more
    go false one more = more

-- ---- the law

both_all : {A : Type 0} (p q : A → Bool) (xs : List A) → list_all (λ x. p x && q x) xs ≡ true → (list_all p xs ≡ true) × (list_all q xs ≡ true)
both_all p q [] h = (refl, refl)
both_all p q (x ∷ xs) h =
    let parts = and_parts (p x && q x) (list_all (λ y. p y && q y) xs) h in
    let one = and_parts (p x) (q x) parts.0 in
    let more = both_all p q xs parts.1 in
    (and_from (p x) (list_all p xs) one.0 more.0, and_from (q x) (list_all q xs) one.1 more.1)

pub may_be_printed : (bytes : List ℕ) (tokens : List Token) (site : Site) (clauses : List Clause) → AreAnnexTokens bytes tokens → IsAnnex bytes tokens site clauses → MayBePrinted site clauses
may_be_printed bytes tokens site clauses a i =
    let ms = marked (terminals_of bytes tokens) tokens i.steps in
    let fit = text_fits bytes i.steps tokens i.text (annex_right bytes tokens a) in
    let free = well_placed site ms [] i.obeyed.0 i.obeyed.1 in
    let good = clauses_good site bytes ms Quiet fit free (text_walks bytes i.steps tokens i.text) in
    let all : list_all (is_good site) (clauses_of bytes ms) ≡ true = list_all-map (is_good site) (clause_of bytes) (segments clause_marks ms) ∙ good in
    let both = both_all is_printable_clause (may_stand site) (clauses_of bytes ms) all in
    subst (MayBePrinted site) (sym i.told) (record { printable = both.0; placed = both.1 })
