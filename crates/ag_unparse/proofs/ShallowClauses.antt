-- Where the words of clauses break no rule, no level in them passes the limit; so canonical text that is read as clauses has none.
use Rattle.std.proofs.Common.{◌≡◌, ℕ, List, [], ◌∷◌, ◌++◌, Option, Some, None, true, refl, sym, ap, subst, ◌∙◌, codes, arith}
use Rattle.std.specs.Prelude.{Ok}
use Rattle.std.specs.List.{list_all, flat_map}
use Rattle.std.proofs.lemmas.Bool.{and_parts}
use Rattle.ag_grammar.specs.declared.grammar.Step.{Step}
use Rattle.ag_grammar.specs.Texts.{IsText, marks_of}
use Rattle.ag_lex.specs.declared.token.Language.TheVariants.{Agree}
use Rattle.ag_lex.specs.declared.token.Token.{Token}
use Rattle.ag_lex.specs.Answers.{AreKept}
use Rattle.ag_lex.specs.Tokens.{AreTokens}
use Rattle.ag_terms.specs.declared.clauses.Clause.{Clause}
use Rattle.ag_terms.specs.declared.clauses.Clause.TheVariants as clause
use Rattle.ag_terms.specs.declared.clauses.Equal.{Equal}
use Rattle.ag_terms.specs.declared.clauses.Labelled.{Labelled}
use Rattle.ag_terms.specs.declared.clauses.NodeDef.{NodeDef}
use Rattle.ag_terms.specs.declared.clauses.Site.{Site}
use Rattle.ag_terms.specs.declared.clauses.Var.{Var}
use Rattle.ag_terms.specs.declared.terms.Term.{Term}
use Rattle.ag_annex.specs.Annexes.{IsAnnex}
use Rattle.ag_annex.specs.Grammar.{annex}
use Rattle.ag_annex.specs.Nesting.{behind}
use Rattle.ag_annex.specs.Rules.{run_from}
use Rattle.ag_annex.specs.Words.{terminals_of}
use Rattle.ag_unparse.specs.Canonical.{inside_text, term_words, var_words, vars_words, value_words, some_value_words, equal_words, labelled_words, locals_words, node_words, clause_words}
use Rattle.ag_unparse.specs.Depth.{Fits, ValueFits, EquationsFit, IsShallow, AreShallow}
use Rattle.ag_unparse.specs.Layout.{Spelled}
use Rattle.ag_unparse.specs.Printable.{may_stand}
use Rattle.ag_unparse.specs.Rereading.{MayBePrinted, around}
use Rattle.ag_unparse.specs.Spelling.{StandAs, clauses_words}
use Rattle.ag_unparse.proofs.MeaningMarks.{var_marks, vars_marks}
use Rattle.ag_unparse.proofs.MeaningPlaced.{marked_placed}
use Rattle.ag_unparse.proofs.MeaningSites.{names_run, locals_run, equal_runs, clause_runs}
use Rattle.ag_unparse.proofs.RereadingClauses.{AreAllRead, terminals_are}
use Rattle.ag_unparse.proofs.ShallowTerms.{Passes, behind_word, front, rest, term_fits}
use Rattle.ag_unparse.proofs.SpellsClauses.{spells}

-- ---- parts of clauses

-- a word that opens nothing, and declared names
next : {site : Site} {bytes : List ℕ} {w : Spelled} {ws : List Spelled} → Passes site bytes 0 [] (w ∷ ws) → behind w.mark [] ≡ Some [] → Passes site bytes 0 [] ws
next p step = behind_word p [] 0 step refl

behind_names : {site : Site} {bytes : List ℕ} (vs : List Var) (ws : List Spelled) → Passes site bytes 0 [] (vars_words vs ++ ws) → Passes site bytes 0 [] ws
behind_names {site} {bytes} vs ws p = rest (vars_words vs) ws (names_run site bytes (vars_words vs) (vars_marks vs)) p

value_fits : {site : Site} {bytes : List ℕ} (before : List ℕ) (t : Term) → Passes site bytes 0 [] (value_words before t) → Fits 0 t
value_fits before t p = term_fits t 0 (front (term_words t) _ (next p refl))

some_value_fits : {site : Site} {bytes : List ℕ} (value : Option Term) → Passes site bytes 0 [] (some_value_words value) → ValueFits value
some_value_fits None p = tt
some_value_fits (Some t) p = value_fits (codes "=") t p

equal_fits : {site : Site} {bytes : List ℕ} (e : Equal) → Passes site bytes 0 [] (equal_words e) → Fits 0 e.value
equal_fits e p = value_fits (codes "=") e.value (next p refl)

equations_fit : {site : Site} {bytes : List ℕ} (es : List Equal) → Passes site bytes 0 [] (flat_map equal_words es) → EquationsFit es
equations_fit [] p = tt
equations_fit {site} {bytes} (e ∷ es) p =
    let of_first = equal_fits e (front (equal_words e) _ p) in
    (of_first, equations_fit es (rest (equal_words e) _ (equal_runs site bytes e of_first) p))

node_fits : {site : Site} {bytes : List ℕ} (n : NodeDef) → Passes site bytes 0 [] (node_words n) → EquationsFit n.equations
node_fits {site} {bytes} n p =
    let inputs = behind_names n.inputs _ (next (next (next p refl) refl) refl) in
    let outputs = behind_names n.outputs _ (next (next (next inputs refl) refl) refl) in
    let locals = rest (locals_words n.locals) _ (locals_run site bytes n.locals) (next (next outputs refl) refl) in
    equations_fit n.equations (front (flat_map equal_words n.equations) _ (next locals refl))

-- ---- clauses

claim_fits : {site : Site} {bytes : List ℕ} (first : Spelled) (l : Labelled) → Passes site bytes 0 [] (labelled_words first l) → behind first.mark [] ≡ Some [] → Fits 0 l.claim
claim_fits first l p step = value_fits (codes ":") l.claim (next (next p step) refl)

clause_fits : {site : Site} {bytes : List ℕ} (c : Clause) → Passes site bytes 0 [] (clause_words c) → IsShallow c
clause_fits (clause.Assume l) p = claim_fits _ l p refl
clause_fits (clause.Guarantee l) p = claim_fits _ l p refl
clause_fits (clause.Lemma l) p = claim_fits _ l p refl
clause_fits (clause.Eq names value) p = some_value_fits value (behind_names names _ (next p refl))
clause_fits (clause.Assign e) p = equal_fits e (next p refl)
clause_fits {site} {bytes} (clause.Const name value) p = value_fits (codes "=") value (rest (var_words name) _ (names_run site bytes (var_words name) (var_marks name)) (next p refl))
clause_fits (clause.Node n) p = node_fits n p

clauses_fit : {site : Site} {bytes : List ℕ} (cs : List Clause) → list_all (may_stand site) cs ≡ true → Passes site bytes 0 [] (clauses_words cs) → AreShallow cs
clauses_fit [] h p = tt
clauses_fit {site} {bytes} (c ∷ cs) h p =
    let parts = and_parts (may_stand site c) (list_all (may_stand site) cs) h in
    let of_first = clause_fits c (front (clause_words c) _ p) in
    (of_first, clauses_fit cs parts.1 (rest (clause_words c) _ (clause_runs site bytes c parts.0 of_first) p))

-- ---- the law

-- one list of tokens, and one derivation of clauses
abbrev pub OneReading : Type 0
OneReading = (file : ℕ) (before text : List ℕ) (tokens others : List Token) → AreTokens Agree file before text tokens → AreTokens Agree file before text others → tokens ≡ others

abbrev pub OneDerivation : Type 0
OneDerivation = (xs : List ℕ) (steps others : List Step) → IsText annex xs steps → IsText annex xs others → steps ≡ others

pub shallow_where_read : AreAllRead → OneReading → OneDerivation → (site : Site) (file : ℕ) (before after : List ℕ) (clauses : List Clause) (tokens : List Token) (found : List Clause) → MayBePrinted site clauses
    → AreKept Agree file before (inside_text clauses) tokens → IsAnnex (around before clauses after) tokens site found → AreShallow clauses
shallow_where_read law reading derivation site file before after clauses tokens found may kept read =
    let bytes = around before clauses after in
    let ws = clauses_words clauses in
    let xs = terminals_of bytes tokens in
    let r = law file before after clauses may.printable in
    let s = spells clauses may.printable in
    let stand : StandAs bytes tokens ws = subst (λ (ts : List Token). StandAs bytes ts ws) (sym (reading file before (inside_text clauses) tokens r.0 kept.read r.1.kept.read)) r.1.words in
    let text : IsText annex xs s.0 = subst (λ (z : List ℕ). IsText annex z s.0) (sym (terminals_are bytes tokens ws stand)) s.1.0 in
    let marks = ap marks_of (derivation xs read.steps s.0 read.text text) ∙ s.1.1 in
    clauses_fit clauses may.placed (record {
      level = refl;
      low = omega arith;
      tokens = tokens;
      stand = stand;
      last = read.obeyed.0;
      run = ap (run_from site (Ok [])) (sym (marked_placed bytes read.steps ws tokens stand marks)) ∙ read.obeyed.1;
    })
