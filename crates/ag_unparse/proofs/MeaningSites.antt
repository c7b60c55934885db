-- The words of clauses break no rule where the clauses may stand.
use Rattle.std.proofs.Common.{◌≡◌, ℕ, Bool, true, false, not, ◌&&◌, List, [], ◌∷◌, ◌++◌, Option, Some, None, refl, codes, arith}
use Rattle.std.specs.List.{list_all, flat_map}
use Rattle.std.proofs.lemmas.Bool.{and_parts, not-true}
use Rattle.ag_terms.specs.declared.clauses.Clause.{Clause}
use Rattle.ag_terms.specs.declared.clauses.Clause.TheVariants as clause
use Rattle.ag_terms.specs.declared.clauses.Equal.{Equal}
use Rattle.ag_terms.specs.declared.clauses.Labelled.{Labelled}
use Rattle.ag_terms.specs.declared.clauses.NodeDef.{NodeDef}
use Rattle.ag_terms.specs.declared.clauses.Site.{Site}
use Rattle.ag_terms.specs.declared.clauses.Site.TheVariants.{Library, Frame, Body}
use Rattle.ag_terms.specs.declared.clauses.Var.{Var}
use Rattle.ag_annex.specs.declared.nesting.Open.{Open}
use Rattle.ag_terms.specs.declared.terms.Term.{Term}
use Rattle.ag_annex.specs.Marks.{assume_mark, guarantee_mark, lemma_mark, eq_mark, assign_mark, const_mark, node_mark, target_mark, node_name_mark, returns_mark, locals_mark, let_mark, tel_mark, value_mark}
use Rattle.ag_annex.specs.Nesting.{behind}
use Rattle.ag_annex.specs.Rules.{is_misplaced}
use Rattle.ag_unparse.specs.Canonical.{name_at, sign, sign_at, label_word, term_words, var_words, vars_words, value_words, some_value_words, equal_words, local_words, locals_words, node_words, clause_words}
use Rattle.ag_unparse.specs.Depth.{Fits, ValueFits, EquationsFit, IsShallow, AreShallow}
use Rattle.ag_unparse.specs.Layout.{Spelled}
use Rattle.ag_unparse.specs.Printable.{may_stand}
use Rattle.ag_unparse.specs.Spelling.{clauses_words}
use Rattle.ag_unparse.proofs.MeaningMarks.{var_set, var_marks, vars_marks, locals_marks}
use Rattle.ag_unparse.proofs.MeaningRules.{Runs, runs_nothing, runs_join, runs_word, well_placed, term_keeps}
use Rattle.ag_unparse.proofs.MeaningSegments.{within, within_passes}
use Rattle.ag_unparse.proofs.MeaningValues.{end_word}

-- ---- words with nothing open

abbrev is_shut : Option (List Open) → Bool
is_shut None = false
is_shut (Some []) = true
is_shut (Some (o ∷ opens)) = false

-- the mark may stand everywhere, and opens nothing where nothing is open
abbrev is_still : ℕ → Bool
is_still k = not (is_misplaced Library k) && is_shut (behind k [])

shut : (o : Option (List Open)) → is_shut o ≡ true → o ≡ Some []
shut None h = absurd cc
shut (Some []) h = refl
shut (Some (o ∷ opens)) h = absurd cc

-- words of a clause from where nothing is open to where nothing is open
abbrev Shut : Site → List ℕ → List Spelled → Type 0
Shut site bytes ws = Runs site bytes [] ws []

still : (site : Site) (bytes : List ℕ) (w : Spelled) (ws : List Spelled) → is_still w.mark ≡ true → Shut site bytes ws → Shut site bytes (w ∷ ws)
still site bytes w ws h r =
    let parts = and_parts (not (is_misplaced Library w.mark)) (is_shut (behind w.mark [])) h in
    runs_word site bytes [] [] [] w ws (well_placed site w.mark (not-true (is_misplaced Library w.mark) parts.0)) (shut (behind w.mark []) parts.1) (omega arith) r

all_still : (site : Site) (bytes : List ℕ) (ws : List Spelled) → list_all (λ w. is_still w.mark) ws ≡ true → Shut site bytes ws
all_still site bytes [] h = runs_nothing site bytes []
all_still site bytes (w ∷ ws) h =
    let parts = and_parts (is_still w.mark) (list_all (λ v. is_still v.mark) ws) h in
    still site bytes w ws parts.0 (all_still site bytes ws parts.1)

joined : (site : Site) (bytes : List ℕ) (ws vs : List Spelled) → Shut site bytes ws → Shut site bytes vs → Shut site bytes (ws ++ vs)
joined site bytes ws vs r q = runs_join site bytes [] [] [] ws vs r q

pub names_run : (site : Site) (bytes : List ℕ) (ws : List Spelled) → within var_set ws ≡ true → Shut site bytes ws
names_run site bytes ws h = all_still site bytes ws (within_passes var_set is_still ws refl h)

-- the first word of a clause
begins : (site : Site) (bytes : List ℕ) (w : Spelled) (ws : List Spelled) → is_misplaced site w.mark ≡ false → behind w.mark [] ≡ Some [] → Shut site bytes ws → Shut site bytes (w ∷ ws)
begins site bytes w ws free step r = runs_word site bytes [] [] [] w ws free step (omega arith) r

-- ---- parts of clauses

value_runs : (site : Site) (bytes before : List ℕ) (t : Term) → Fits 0 t → Shut site bytes (value_words before t)
value_runs site bytes before t f =
    still site bytes (sign_at value_mark before) (term_words t ++ end_word ∷ []) refl
    (joined site bytes (term_words t) (end_word ∷ []) (term_keeps site bytes t 0 (omega arith) f [] refl) (still site bytes end_word [] refl (runs_nothing site bytes [])))

some_value_runs : (site : Site) (bytes : List ℕ) (value : Option Term) → ValueFits value → Shut site bytes (some_value_words value)
some_value_runs site bytes None f = all_still site bytes (some_value_words None) refl
some_value_runs site bytes (Some t) f = value_runs site bytes (codes "=") t f

claim_runs : (site : Site) (bytes : List ℕ) (l : Labelled) → Fits 0 l.claim → Shut site bytes (label_word l.label ∷ value_words (codes ":") l.claim)
claim_runs site bytes l f = still site bytes (label_word l.label) (value_words (codes ":") l.claim) refl (value_runs site bytes (codes ":") l.claim f)

pub equal_runs : (site : Site) (bytes : List ℕ) (e : Equal) → Fits 0 e.value → Shut site bytes (equal_words e)
equal_runs site bytes e f = still site bytes (name_at target_mark e.name.text) (value_words (codes "=") e.value) refl (value_runs site bytes (codes "=") e.value f)

equations_run : (site : Site) (bytes : List ℕ) (es : List Equal) → EquationsFit es → Shut site bytes (flat_map equal_words es)
equations_run site bytes [] f = runs_nothing site bytes []
equations_run site bytes (e ∷ es) f = joined site bytes (equal_words e) (flat_map equal_words es) (equal_runs site bytes e f.0) (equations_run site bytes es f.1)

pub locals_run : (site : Site) (bytes : List ℕ) (vs : List Var) → Shut site bytes (locals_words vs)
locals_run site bytes [] = runs_nothing site bytes []
locals_run site bytes (v ∷ vs) = still site bytes (name_at locals_mark (codes "var")) (flat_map local_words (v ∷ vs)) refl (names_run site bytes (flat_map local_words (v ∷ vs)) (locals_marks (v ∷ vs)))

node_runs : (site : Site) (bytes : List ℕ) (n : NodeDef) → EquationsFit n.equations → Shut site bytes (node_words n)
node_runs site bytes n f =
    let tel_words = name_at tel_mark (codes "tel") ∷ sign (codes ";") ∷ [] in
    let body = flat_map equal_words n.equations ++ tel_words in
    let last = locals_words n.locals ++ name_at let_mark (codes "let") ∷ body in
    let returned = vars_words n.outputs ++ sign (codes ")") ∷ sign (codes ";") ∷ last in
    let of_body = joined site bytes (flat_map equal_words n.equations) tel_words (equations_run site bytes n.equations f) (all_still site bytes tel_words refl) in
    let of_last = joined site bytes (locals_words n.locals) (name_at let_mark (codes "let") ∷ body) (locals_run site bytes n.locals) (still site bytes (name_at let_mark (codes "let")) body refl of_body) in
    let of_returned = joined site bytes (vars_words n.outputs) (sign (codes ")") ∷ sign (codes ";") ∷ last) (names_run site bytes (vars_words n.outputs) (vars_marks n.outputs))
    (still site bytes (sign (codes ")")) (sign (codes ";") ∷ last) refl (still site bytes (sign (codes ";")) last refl of_last)) in
    let of_inputs = joined site bytes (vars_words n.inputs) (sign (codes ")") ∷ name_at returns_mark (codes "returns") ∷ sign (codes "(") ∷ returned) (names_run site bytes (vars_words n.inputs) (vars_marks n.inputs))
    (still site bytes (sign (codes ")")) (name_at returns_mark (codes "returns") ∷ sign (codes "(") ∷ returned) refl
    (still site bytes (name_at returns_mark (codes "returns")) (sign (codes "(") ∷ returned) refl (still site bytes (sign (codes "(")) returned refl of_returned))) in
    still site bytes (name_at node_mark (codes "node")) _ refl (still site bytes (name_at node_name_mark n.name.text) _ refl (still site bytes (sign (codes "(")) _ refl of_inputs))

-- ---- clauses where they may stand

assume_placed : (site : Site) (l : Labelled) → may_stand site (clause.Assume l) ≡ true → is_misplaced site assume_mark ≡ false
assume_placed Library l h = absurd cc
assume_placed Frame l h = refl
assume_placed Body l h = absurd cc

guarantee_placed : (site : Site) (l : Labelled) → may_stand site (clause.Guarantee l) ≡ true → is_misplaced site guarantee_mark ≡ false
guarantee_placed Library l h = absurd cc
guarantee_placed Frame l h = refl
guarantee_placed Body l h = absurd cc

lemma_placed : (site : Site) (l : Labelled) → may_stand site (clause.Lemma l) ≡ true → is_misplaced site lemma_mark ≡ false
lemma_placed Library l h = absurd cc
lemma_placed Frame l h = absurd cc
lemma_placed Body l h = refl

eq_placed : (site : Site) (names : List Var) (value : Option Term) → may_stand site (clause.Eq names value) ≡ true → is_misplaced site eq_mark ≡ false
eq_placed Library names value h = absurd cc
eq_placed Frame names value h = refl
eq_placed Body names value h = refl

assign_placed : (site : Site) (e : Equal) → may_stand site (clause.Assign e) ≡ true → is_misplaced site assign_mark ≡ false
assign_placed Library e h = absurd cc
assign_placed Frame e h = absurd cc
assign_placed Body e h = refl

pub clause_runs : (site : Site) (bytes : List ℕ) (c : Clause) → may_stand site c ≡ true → IsShallow c → Shut site bytes (clause_words c)
clause_runs site bytes (clause.Assume l) h f = begins site bytes (name_at assume_mark (codes "assume")) (label_word l.label ∷ value_words (codes ":") l.claim) (assume_placed site l h) refl (claim_runs site bytes l f)
clause_runs site bytes (clause.Guarantee l) h f = begins site bytes (name_at guarantee_mark (codes "guarantee")) (label_word l.label ∷ value_words (codes ":") l.claim) (guarantee_placed site l h) refl (claim_runs site bytes l f)
clause_runs site bytes (clause.Lemma l) h f = begins site bytes (name_at lemma_mark (codes "lemma")) (label_word l.label ∷ value_words (codes ":") l.claim) (lemma_placed site l h) refl (claim_runs site bytes l f)
clause_runs site bytes (clause.Eq names value) h f =
    begins site bytes (name_at eq_mark (codes "eq")) (vars_words names ++ some_value_words value) (eq_placed site names value h) refl
    (joined site bytes (vars_words names) (some_value_words value) (names_run site bytes (vars_words names) (vars_marks names)) (some_value_runs site bytes value f))
clause_runs site bytes (clause.Assign e) h f = begins site bytes (name_at assign_mark (codes "assign")) (equal_words e) (assign_placed site e h) refl (equal_runs site bytes e f)
clause_runs site bytes (clause.Const name value) h f =
    still site bytes (name_at const_mark (codes "const")) (var_words name ++ value_words (codes "=") value) refl
    (joined site bytes (var_words name) (value_words (codes "=") value) (names_run site bytes (var_words name) (var_marks name)) (value_runs site bytes (codes "=") value f))
clause_runs site bytes (clause.Node n) h f = node_runs site bytes n f

pub clauses_run : (site : Site) (bytes : List ℕ) (cs : List Clause) → list_all (may_stand site) cs ≡ true → AreShallow cs → Runs site bytes [] (clauses_words cs) []
clauses_run site bytes [] h f = runs_nothing site bytes []
clauses_run site bytes (c ∷ cs) h f =
    let parts = and_parts (may_stand site c) (list_all (may_stand site) cs) h in
    joined site bytes (clause_words c) (clauses_words cs) (clause_runs site bytes c parts.0 f.0) (clauses_run site bytes cs parts.1 f.1)
