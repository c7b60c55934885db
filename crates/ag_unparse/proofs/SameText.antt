-- Clauses that are the same but for places have the same words.
use Rattle.std.proofs.Common.{◌≡◌, ℕ, List, [], ◌∷◌, ◌++◌, map, Option, Some, None, refl, sym, ap, ◌∙◌, codes}
use Rattle.std.specs.List.{flat_map}
use Rattle.ag_terms.specs.declared.names.Ident.{Ident}
use Rattle.ag_terms.specs.declared.names.Path.{Path}
use Rattle.ag_terms.specs.declared.clauses.Clause.{Clause}
use Rattle.ag_terms.specs.declared.clauses.Clause.TheVariants as clause
use Rattle.ag_terms.specs.declared.clauses.Equal.{Equal}
use Rattle.ag_terms.specs.declared.clauses.Labelled.{Labelled}
use Rattle.ag_terms.specs.declared.clauses.NodeDef.{NodeDef}
use Rattle.ag_terms.specs.declared.clauses.Var.{Var}
use Rattle.ag_terms.specs.declared.terms.Term.{Term, Number, Truth, Named, Unary', Binary', Choice', Call', Row_of-Term, end_of-Term, more_of-Term}
use Rattle.ag_terms.specs.declared.terms.Unary.TheVariants as unary
use Rattle.ag_annex.specs.Marks.{assume_mark, guarantee_mark, lemma_mark, eq_mark, assign_mark, const_mark, node_mark, target_mark, node_name_mark, returns_mark, locals_mark, let_mark, tel_mark, value_mark, end_mark, negative_mark, not_mark, pre_mark, if_mark, then_mark, else_mark, operand_mark, call_mark}
use Rattle.ag_unparse.specs.Layout.{Spelled, text_bytes}
use Rattle.ag_unparse.specs.Canonical.{name_at, sign_at, sign, label_word, labelled_words, path_words, package_parts, body_words, part_words, term_words, argument_words, binary_word, open_word, close_word, var_words, more_var_words, vars_words, value_words, some_value_words, equal_words, local_words, locals_words, node_words, clause_words, clauses_text}
use Rattle.ag_unparse.specs.Same.{nowhere, bare_labelled, bare_option, bare_path, bare_term, bare_terms, bare_var, bare_value, bare_equal, bare_node, bare_clause, SameClauses}
use Rattle.ag_unparse.specs.Written.{comma, listed_words}
use Rattle.ag_unparse.proofs.WritingViews.{words_minus, words_not, words_pre, words_binary, words_choice, words_call}

bare_parts : (o : Option Ident) → package_parts (bare_option o) ≡ package_parts o
bare_parts None = refl
bare_parts (Some i) = refl

bare_body : (o : Option Ident) → body_words (bare_option o) ≡ body_words o
bare_body None = refl
bare_body (Some i) = refl

bare_path_words : (p : Path) → path_words (bare_path p) ≡ path_words p
bare_path_words p =
    ap (λ (parts : List (List ℕ)). part_words (parts ++ p.name.text ∷ []) ++ body_words (bare_option p.body)) (bare_parts p.«package»)
    ∙ ap (λ (ws : List Spelled). part_words (package_parts p.«package» ++ p.name.text ∷ []) ++ ws) (bare_body p.body)

same_choice : {a b c d e f : List Spelled} → a ≡ b → c ≡ d → e ≡ f
    → open_word ∷ name_at if_mark (codes "if") ∷ (a ++ name_at then_mark (codes "then") ∷ (c ++ name_at else_mark (codes "else") ∷ (e ++ close_word ∷ [])))
    ≡ open_word ∷ name_at if_mark (codes "if") ∷ (b ++ name_at then_mark (codes "then") ∷ (d ++ name_at else_mark (codes "else") ∷ (f ++ close_word ∷ [])))
same_choice p q r = cc

mutual
  bare_words : (t : Term) → term_words (bare_term t) ≡ term_words t
  bare_words (Number value place) = refl
  bare_words (Truth value place) = refl
  bare_words (Named path) = bare_path_words path
  bare_words (Unary' unary.Minus place _ (more_of-Term t end_of-Term)) =
      words_minus nowhere (bare_term t) ∙ ap (λ (ws : List Spelled). open_word ∷ sign_at negative_mark (codes "-") ∷ (ws ++ close_word ∷ [])) (bare_words t)
  bare_words (Unary' unary.Not place _ (more_of-Term t end_of-Term)) =
      words_not nowhere (bare_term t) ∙ ap (λ (ws : List Spelled). open_word ∷ name_at not_mark (codes "not") ∷ (ws ++ close_word ∷ [])) (bare_words t)
  bare_words (Unary' unary.Pre place _ (more_of-Term t end_of-Term)) =
      words_pre nowhere (bare_term t) ∙ ap (λ (ws : List Spelled). name_at pre_mark (codes "pre") ∷ sign_at operand_mark (codes "(") ∷ (ws ++ close_word ∷ [])) (bare_words t)
  bare_words (Binary' op place _ (more_of-Term left end_of-Term) _ (more_of-Term right end_of-Term)) =
      words_binary op nowhere (bare_term left) (bare_term right) ∙ ap (λ (ws : List Spelled). open_word ∷ (ws ++ binary_word op ∷ (term_words (bare_term right) ++ close_word ∷ []))) (bare_words left)
      ∙ ap (λ (ws : List Spelled). open_word ∷ (term_words left ++ binary_word op ∷ (ws ++ close_word ∷ []))) (bare_words right)
  bare_words (Choice' place _ (more_of-Term test end_of-Term) _ (more_of-Term chosen end_of-Term) _ (more_of-Term other end_of-Term)) =
      words_choice nowhere (bare_term test) (bare_term chosen) (bare_term other) ∙ same_choice (bare_words test) (bare_words chosen) (bare_words other)
  bare_words (Call' path _ args) =
      words_call (bare_path path) (bare_terms args) ∙ ap (λ (ws : List Spelled). ws ++ sign_at call_mark (codes "(") ∷ (listed_words [] (bare_terms args) ++ close_word ∷ [])) (bare_path_words path)
      ∙ ap (λ (ws : List Spelled). path_words path ++ sign_at call_mark (codes "(") ∷ (ws ++ close_word ∷ [])) (bare_arguments [] args)

  bare_arguments : {m : _} (before : List Spelled) (args : Row_of-Term m) → listed_words before (bare_terms args) ≡ argument_words before args
  bare_arguments before end_of-Term = refl
  bare_arguments before (more_of-Term t rest) =
      ap (λ (ws : List Spelled). before ++ (ws ++ listed_words comma (bare_terms rest))) (bare_words t) ∙ ap (λ (ws : List Spelled). before ++ (term_words t ++ ws)) (bare_arguments comma rest)

bare_more_vars : (vs : List Var) → more_var_words (map bare_var vs) ≡ more_var_words vs
bare_more_vars [] = refl
bare_more_vars (v ∷ vs) = ap (λ (ws : List Spelled). sign (codes ",") ∷ (var_words v ++ ws)) (bare_more_vars vs)

bare_vars : (vs : List Var) → vars_words (map bare_var vs) ≡ vars_words vs
bare_vars [] = refl
bare_vars (v ∷ vs) = ap (λ (ws : List Spelled). var_words v ++ ws) (bare_more_vars vs)

bare_value_words : (own : List ℕ) (t : Term) → value_words own (bare_term t) ≡ value_words own t
bare_value_words own t = ap (λ (ws : List Spelled). sign_at value_mark own ∷ (ws ++ sign_at end_mark (codes ";") ∷ [])) (bare_words t)

bare_some_value : (value : Option Term) → some_value_words (bare_value value) ≡ some_value_words value
bare_some_value None = refl
bare_some_value (Some t) = bare_value_words (codes "=") t

bare_equal_words : (e : Equal) → equal_words (bare_equal e) ≡ equal_words e
bare_equal_words e = ap (λ (ws : List Spelled). name_at target_mark e.name.text ∷ ws) (bare_value_words (codes "=") e.value)

bare_locals : (vs : List Var) → flat_map local_words (map bare_var vs) ≡ flat_map local_words vs
bare_locals [] = refl
bare_locals (v ∷ vs) = ap (λ (ws : List Spelled). local_words v ++ ws) (bare_locals vs)

bare_all_locals : (vs : List Var) → locals_words (map bare_var vs) ≡ locals_words vs
bare_all_locals [] = refl
bare_all_locals (v ∷ vs) = ap (λ (ws : List Spelled). name_at locals_mark (codes "var") ∷ ws) (bare_locals (v ∷ vs))

bare_equations : (es : List Equal) → flat_map equal_words (map bare_equal es) ≡ flat_map equal_words es
bare_equations [] = refl
bare_equations (e ∷ es) =
    ap (λ (ws : List Spelled). ws ++ flat_map equal_words (map bare_equal es)) (bare_equal_words e) ∙ ap (λ (ws : List Spelled). equal_words e ++ ws) (bare_equations es)

bare_claim : (first : Spelled) (l : Labelled) → labelled_words first (bare_labelled l) ≡ labelled_words first l
bare_claim first l = ap (λ (ws : List Spelled). first ∷ label_word l.label ∷ ws) (bare_value_words (codes ":") l.claim)

-- a node by the words of its parts
abbrev of_parts : List ℕ → List Spelled → List Spelled → List Spelled → List Spelled → List Spelled
of_parts own inputs outputs locals equations =
    name_at node_mark (codes "node") ∷ name_at node_name_mark own ∷ sign (codes "(") ∷ (inputs
    ++ sign (codes ")") ∷ name_at returns_mark (codes "returns") ∷ sign (codes "(") ∷ (outputs
    ++ sign (codes ")") ∷ sign (codes ";") ∷ (locals
    ++ name_at let_mark (codes "let") ∷ (equations
    ++ name_at tel_mark (codes "tel") ∷ sign (codes ";") ∷ []))))

bare_node_words : (n : NodeDef) → node_words (bare_node n) ≡ node_words n
bare_node_words n =
    let own = n.name.text in
    ap (λ (ws : List Spelled). of_parts own ws (vars_words (map bare_var n.outputs)) (locals_words (map bare_var n.locals)) (flat_map equal_words (map bare_equal n.equations))) (bare_vars n.inputs)
    ∙ ap (λ (ws : List Spelled). of_parts own (vars_words n.inputs) ws (locals_words (map bare_var n.locals)) (flat_map equal_words (map bare_equal n.equations))) (bare_vars n.outputs)
    ∙ ap (λ (ws : List Spelled). of_parts own (vars_words n.inputs) (vars_words n.outputs) ws (flat_map equal_words (map bare_equal n.equations))) (bare_all_locals n.locals)
    ∙ ap (λ (ws : List Spelled). of_parts own (vars_words n.inputs) (vars_words n.outputs) (locals_words n.locals) ws) (bare_equations n.equations)

bare_clause_words : (c : Clause) → clause_words (bare_clause c) ≡ clause_words c
bare_clause_words (clause.Assume l) = bare_claim (name_at assume_mark (codes "assume")) l
bare_clause_words (clause.Guarantee l) = bare_claim (name_at guarantee_mark (codes "guarantee")) l
bare_clause_words (clause.Lemma l) = bare_claim (name_at lemma_mark (codes "lemma")) l
bare_clause_words (clause.Eq names value) =
    ap (λ (ws : List Spelled). name_at eq_mark (codes "eq") ∷ (ws ++ some_value_words (bare_value value))) (bare_vars names)
    ∙ ap (λ (ws : List Spelled). name_at eq_mark (codes "eq") ∷ (vars_words names ++ ws)) (bare_some_value value)
bare_clause_words (clause.Assign e) = ap (λ (ws : List Spelled). name_at assign_mark (codes "assign") ∷ ws) (bare_equal_words e)
bare_clause_words (clause.Const name value) = ap (λ (ws : List Spelled). name_at const_mark (codes "const") ∷ (var_words name ++ ws)) (bare_value_words (codes "=") value)
bare_clause_words (clause.Node n) = bare_node_words n

bare_lines : (cs : List Clause) → map clause_words (map bare_clause cs) ≡ map clause_words cs
bare_lines [] = refl
bare_lines (c ∷ cs) = ap (λ (line : List Spelled). line ∷ map clause_words (map bare_clause cs)) (bare_clause_words c) ∙ ap (λ (lines : List (List Spelled)). clause_words c ∷ lines) (bare_lines cs)

pub same_text : (clauses others : List Clause) → SameClauses clauses others → clauses_text clauses ≡ clauses_text others
same_text clauses others same = ap text_bytes (sym (bare_lines clauses) ∙ ap (map clause_words) same ∙ bare_lines others)
