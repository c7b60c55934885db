-- Clauses, word by word, as the grammar derives them.
use Rattle.std.proofs.Common.{◌≡◌, true, ◌&&◌, List, [], ◌∷◌, ◌++◌, Option, Some, None, refl, codes, IsTrue}
use Rattle.std.specs.List.{list_all, flat_map}
use Rattle.std.proofs.lemmas.Bool.{and_parts}
use Rattle.ag_grammar.specs.declared.grammar.Step.{Step}
use Rattle.ag_grammar.specs.declared.grammar.Symbol.{Symbol}
use Rattle.ag_grammar.specs.declared.grammar.Symbol.TheVariants.{Terminal, Nonterminal}
use Rattle.ag_lex.specs.declared.token.TokenKind.TheVariants.{Name, Text}
use Rattle.ag_terms.specs.declared.clauses.Clause.{Clause}
use Rattle.ag_terms.specs.declared.clauses.Clause.TheVariants as clause
use Rattle.ag_terms.specs.declared.clauses.Equal.{Equal}
use Rattle.ag_terms.specs.declared.clauses.Labelled.{Labelled}
use Rattle.ag_terms.specs.declared.clauses.NodeDef.{NodeDef}
use Rattle.ag_terms.specs.declared.clauses.Ty.{Ty}
use Rattle.ag_terms.specs.declared.clauses.Ty.TheVariants as ty
use Rattle.ag_terms.specs.declared.clauses.Var.{Var}
use Rattle.ag_terms.specs.declared.terms.Term.{Term}
use Rattle.ag_annex.specs.Marks as marks
use Rattle.ag_annex.specs.Nonterminals as nonterminal
use Rattle.ag_annex.specs.Terminals as terminal
use Rattle.ag_unparse.specs.Canonical.{label_word, type_word, var_words, more_var_words, vars_words, value_words, some_value_words, equal_words, local_words, locals_words, node_words, clause_words, sign_at}
use Rattle.ag_unparse.specs.Layout.{Spelled}
use Rattle.ag_unparse.specs.Printable.{is_plain_ident, is_label, is_printable_term, is_printable_var, are_some_vars, is_printable_value, is_printable_equal, is_printable_labelled, is_printable_node, is_printable_clause, are_printable_clauses}
use Rattle.ag_unparse.specs.Spelling.{IsSpelling, clauses_words}
use Rattle.ag_unparse.proofs.SpellsWords.{Spells, nothing, beside, expand, by_word, by_name, by_sign}
use Rattle.ag_unparse.proofs.SpellsTerminals.{is_assume, is_guarantee, is_lemma, is_eq, is_assign, is_const, is_node, is_returns, is_var, is_let, is_tel, is_int, is_bool, is_comma, is_semicolon, is_colon, is_open_paren, is_close_paren, is_equals}
use Rattle.ag_unparse.proofs.SpellsExpressions.{expression_before, term_spells}

-- ---- declared names

type_before : (type : Ty) {others : List Symbol} {ws : List Spelled} → Spells others ws → Spells (Nonterminal nonterminal.type_name ∷ others) (type_word type ∷ ws)
type_before ty.Int r = expand nonterminal.type_name 0 refl (by_word terminal.int_word marks.int_mark Name (codes "int") is_int r)
type_before ty.Bool r = expand nonterminal.type_name 1 refl (by_word terminal.bool_word marks.bool_mark Name (codes "bool") is_bool r)

var_before : (v : Var) → is_printable_var v ≡ true → {others : List Symbol} {ws : List Spelled} → Spells others ws → Spells (Nonterminal nonterminal.variable ∷ others) (var_words v ++ ws)
var_before v h r = expand nonterminal.variable 0 refl (by_name marks.variable_mark v.name.text h (by_sign terminal.colon 0 (codes ":") is_colon (type_before v.ty r)))

more_vars_spell : (vs : List Var) → list_all is_printable_var vs ≡ true → Spells (Nonterminal nonterminal.more_variables ∷ []) (more_var_words vs)
more_vars_spell [] h = expand nonterminal.more_variables 1 refl nothing
more_vars_spell (v ∷ vs) h =
    let parts = and_parts (is_printable_var v) (list_all is_printable_var vs) h in
    expand nonterminal.more_variables 0 refl (by_sign terminal.comma 0 (codes ",") is_comma (var_before v parts.0 (more_vars_spell vs parts.1)))

vars_spell : (v : Var) (vs : List Var) → list_all is_printable_var (v ∷ vs) ≡ true → Spells (Nonterminal nonterminal.variables ∷ []) (vars_words (v ∷ vs))
vars_spell v vs h =
    let parts = and_parts (is_printable_var v) (list_all is_printable_var vs) h in
    expand nonterminal.variables 0 refl (var_before v parts.0 (more_vars_spell vs parts.1))

filled_vars_spell : (vs : List Var) → are_some_vars vs ≡ true → Spells (Nonterminal nonterminal.variables ∷ []) (vars_words vs)
filled_vars_spell [] h = absurd cc
filled_vars_spell (v ∷ vs) h = vars_spell v vs h

inputs_spell : (vs : List Var) → list_all is_printable_var vs ≡ true → Spells (Nonterminal nonterminal.some_variables ∷ []) (vars_words vs)
inputs_spell [] h = expand nonterminal.some_variables 1 refl nothing
inputs_spell (v ∷ vs) h = expand nonterminal.some_variables 0 refl (vars_spell v vs h)

-- ---- values

ended : {others : List Symbol} {ws : List Spelled} → Spells others ws → Spells (Terminal terminal.semicolon marks.end_mark ∷ others) (sign_at marks.end_mark (codes ";") ∷ ws)
ended r = by_sign terminal.semicolon marks.end_mark (codes ";") is_semicolon r

-- an expression behind its `=`, and the `;`
value_spells : (t : Term) → is_printable_term t ≡ true
    → Spells (Terminal terminal.equals marks.value_mark ∷ Nonterminal nonterminal.expression ∷ Terminal terminal.semicolon marks.end_mark ∷ []) (value_words (codes "=") t)
value_spells t h = by_sign terminal.equals marks.value_mark (codes "=") is_equals (expression_before (term_spells t h) (ended nothing))

claim_spells : (l : Labelled) → is_printable_labelled l ≡ true → Spells (Nonterminal nonterminal.claim ∷ []) (label_word l.label ∷ value_words (codes ":") l.claim)
claim_spells l h =
    let parts = and_parts (is_label l.label) (is_printable_term l.claim) h in
    expand nonterminal.claim 0 refl (expand nonterminal.some_name 1 refl (by_word terminal.text marks.label_mark Text (codes "\"" ++ (l.label ++ codes "\"")) refl
    (by_sign terminal.colon marks.value_mark (codes ":") is_colon (expression_before (term_spells l.claim parts.1) (ended nothing)))))

some_value_spells : (value : Option Term) → is_printable_value value ≡ true → Spells (Nonterminal nonterminal.some_value ∷ []) (some_value_words value)
some_value_spells None h = expand nonterminal.some_value 1 refl (by_sign terminal.semicolon 0 (codes ";") is_semicolon nothing)
some_value_spells (Some t) h = expand nonterminal.some_value 0 refl (value_spells t h)

equal_spells : (e : Equal) → is_printable_equal e ≡ true → Spells (Nonterminal nonterminal.equation ∷ []) (equal_words e)
equal_spells e h =
    let parts = and_parts (is_plain_ident e.name) (is_printable_term e.value) h in
    expand nonterminal.equation 0 refl (by_name marks.target_mark e.name.text parts.0 (value_spells e.value parts.1))

-- ---- nodes

equations_spell : (es : List Equal) → list_all is_printable_equal es ≡ true → Spells (Nonterminal nonterminal.equations ∷ []) (flat_map equal_words es)
equations_spell [] h = expand nonterminal.equations 1 refl nothing
equations_spell (e ∷ es) h =
    let parts = and_parts (is_printable_equal e) (list_all is_printable_equal es) h in
    expand nonterminal.equations 0 refl (beside (equal_spells e parts.0) (equations_spell es parts.1))

local_list_spells : (vs : List Var) → list_all is_printable_var vs ≡ true → Spells (Nonterminal nonterminal.locals ∷ []) (flat_map local_words vs)
local_list_spells [] h = expand nonterminal.locals 1 refl nothing
local_list_spells (v ∷ vs) h =
    let parts = and_parts (is_printable_var v) (list_all is_printable_var vs) h in
    expand nonterminal.locals 0 refl (var_before v parts.0 (by_sign terminal.semicolon 0 (codes ";") is_semicolon (local_list_spells vs parts.1)))

locals_spell : (vs : List Var) → list_all is_printable_var vs ≡ true → Spells (Nonterminal nonterminal.some_locals ∷ []) (locals_words vs)
locals_spell [] h = expand nonterminal.some_locals 1 refl nothing
locals_spell (v ∷ vs) h = expand nonterminal.some_locals 0 refl (by_word terminal.var_word marks.locals_mark Name (codes "var") is_var (local_list_spells (v ∷ vs) h))

node_spells : (n : NodeDef) → is_printable_node n ≡ true → Spells (Terminal terminal.node_word marks.node_mark ∷ Nonterminal nonterminal.node ∷ []) (node_words n)
node_spells n h =
    let one = and_parts (is_plain_ident n.name) (list_all is_printable_var n.inputs && (are_some_vars n.outputs && (list_all is_printable_var n.locals && list_all is_printable_equal n.equations))) h in
    let two = and_parts (list_all is_printable_var n.inputs) (are_some_vars n.outputs && (list_all is_printable_var n.locals && list_all is_printable_equal n.equations)) one.1 in
    let three = and_parts (are_some_vars n.outputs) (list_all is_printable_var n.locals && list_all is_printable_equal n.equations) two.1 in
    let four = and_parts (list_all is_printable_var n.locals) (list_all is_printable_equal n.equations) three.1 in
    let tel = by_word terminal.tel_word marks.tel_mark Name (codes "tel") is_tel (by_sign terminal.semicolon 0 (codes ";") is_semicolon nothing) in
    let body = by_word terminal.let_word marks.let_mark Name (codes "let") is_let (beside (equations_spell n.equations four.1) tel) in
    let last = by_sign terminal.close_paren 0 (codes ")") is_close_paren (by_sign terminal.semicolon 0 (codes ";") is_semicolon (beside (locals_spell n.locals four.0) body)) in
    let outputs = by_sign terminal.open_paren 0 (codes "(") is_open_paren (beside (filled_vars_spell n.outputs three.0) last) in
    let returned = by_sign terminal.close_paren 0 (codes ")") is_close_paren (by_word terminal.returns_word marks.returns_mark Name (codes "returns") is_returns outputs) in
    by_word terminal.node_word marks.node_mark Name (codes "node") is_node (expand nonterminal.node 0 refl (by_name marks.node_name_mark n.name.text one.0
    (by_sign terminal.open_paren 0 (codes "(") is_open_paren (beside (inputs_spell n.inputs two.0) returned))))

-- ---- clauses

clause_spells : (c : Clause) → is_printable_clause c ≡ true → Spells (Nonterminal nonterminal.clause ∷ []) (clause_words c)
clause_spells (clause.Assume l) h = expand nonterminal.clause 0 refl (by_word terminal.assume_word marks.assume_mark Name (codes "assume") is_assume (claim_spells l h))
clause_spells (clause.Guarantee l) h = expand nonterminal.clause 1 refl (by_word terminal.guarantee_word marks.guarantee_mark Name (codes "guarantee") is_guarantee (claim_spells l h))
clause_spells (clause.Lemma l) h = expand nonterminal.clause 2 refl (by_word terminal.lemma_word marks.lemma_mark Name (codes "lemma") is_lemma (claim_spells l h))
clause_spells (clause.Eq names value) h =
    let parts = and_parts (are_some_vars names) (is_printable_value value) h in
    expand nonterminal.clause 3 refl (by_word terminal.eq_word marks.eq_mark Name (codes "eq") is_eq (beside (filled_vars_spell names parts.0) (some_value_spells value parts.1)))
clause_spells (clause.Assign e) h = expand nonterminal.clause 4 refl (by_word terminal.assign_word marks.assign_mark Name (codes "assign") is_assign (equal_spells e h))
clause_spells (clause.Const name value) h =
    let parts = and_parts (is_printable_var name) (is_printable_term value) h in
    expand nonterminal.clause 5 refl (by_word terminal.const_word marks.const_mark Name (codes "const") is_const (var_before name parts.0 (value_spells value parts.1)))
clause_spells (clause.Node n) h = expand nonterminal.clause 6 refl (node_spells n h)

all_spell : (cs : List Clause) → list_all is_printable_clause cs ≡ true → Spells (Nonterminal nonterminal.clauses ∷ []) (clauses_words cs)
all_spell [] h = expand nonterminal.clauses 1 refl nothing
all_spell (c ∷ cs) h =
    let parts = and_parts (is_printable_clause c) (list_all is_printable_clause cs) h in
    expand nonterminal.clauses 0 refl (beside (clause_spells c parts.0) (all_spell cs parts.1))

-- the words of clauses are a text of the grammar
pub spells : (clauses : List Clause) → IsTrue (are_printable_clauses clauses) → (steps : List Step) × IsSpelling (clauses_words clauses) steps
spells clauses h =
    let whole = all_spell clauses h in
    (whole.steps, (whole.derives, whole.marks))
