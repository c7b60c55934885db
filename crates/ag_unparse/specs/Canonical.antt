-- The canonical text of clauses: a line for each, word by word, each under the mark that the grammar gives it there. Each
-- application of an operator and each `if` stands in parentheses.
use Rattle.std.specs.Prelude.{ℕ, ℤ, pos, negsuc, ◌+◌, Bool, true, false, List, [], ◌∷◌, ◌++◌, map, Option, Some, None, codes, decimal}
use Rattle.std.specs.List.{flat_map}
use Rattle.ag_lex.specs.declared.token.TokenKind.TheVariants as kind
use Rattle.ag_terms.specs.declared.names.Ident.{Ident}
use Rattle.ag_terms.specs.declared.names.Path.{Path}
use Rattle.ag_aadl.specs.Names.{name_parts}
use Rattle.ag_terms.specs.declared.clauses.Clause.{Clause}
use Rattle.ag_terms.specs.declared.clauses.Clause.TheVariants as clause
use Rattle.ag_terms.specs.declared.clauses.Equal.{Equal}
use Rattle.ag_terms.specs.declared.clauses.Labelled.{Labelled}
use Rattle.ag_terms.specs.declared.clauses.NodeDef.{NodeDef}
use Rattle.ag_terms.specs.declared.clauses.Ty.{Ty}
use Rattle.ag_terms.specs.declared.clauses.Ty.TheVariants as ty
use Rattle.ag_terms.specs.declared.clauses.Var.{Var}
use Rattle.ag_terms.specs.declared.terms.Binary.{Binary}
use Rattle.ag_terms.specs.declared.terms.Binary.TheVariants.{Arrow, Implies, Iff, Or, And, Less, AtMost, More, AtLeast, Same, Differs, Plus, Minus, Times, Div, Mod}
use Rattle.ag_terms.specs.declared.terms.Term.{Term, Number, Truth, Named, Unary', Binary', Choice', Call', Row_of-Term, end_of-Term, more_of-Term}
use Rattle.ag_terms.specs.declared.terms.Unary.TheVariants as unary
use Rattle.ag_annex.specs.Marks.{assume_mark, guarantee_mark, lemma_mark, eq_mark, assign_mark, const_mark, node_mark, label_mark, variable_mark, int_mark, bool_mark, target_mark, node_name_mark, returns_mark, locals_mark, let_mark, tel_mark, value_mark, end_mark, arrow_mark, implies_mark, iff_mark, or_mark, and_mark, less_mark, at_most_mark, more_mark, at_least_mark, same_mark, differs_mark, plus_mark, minus_mark, times_mark, div_mark, mod_mark, negative_mark, not_mark, pre_mark, if_mark, then_mark, else_mark, number_mark, true_mark, false_mark, group_mark, operand_mark, call_mark, argument_mark, close_mark, path_mark, part_mark, path_body_mark}
use Rattle.ag_unparse.specs.Layout.{Spelled, text_bytes}

-- ---- words

abbrev pub name_at : ℕ → List ℕ → Spelled
name_at mark own = record { mark = mark; kind = kind.Name; own = own }

abbrev pub sign_at : ℕ → List ℕ → Spelled
sign_at mark own = record { mark = mark; kind = kind.Symbol; own = own }

-- a symbol to which the grammar gives no mark
abbrev pub sign : List ℕ → Spelled
sign own = sign_at 0 own

-- a literal, which isn't negative
abbrev pub number_bytes : ℤ → List ℕ
number_bytes (pos n) = decimal n
number_bytes (negsuc n) = decimal (n + 1)

abbrev pub number_word : ℤ → Spelled
number_word value = record { mark = number_mark; kind = kind.Number; own = number_bytes value }

abbrev pub label_word : List ℕ → Spelled
label_word label = record { mark = label_mark; kind = kind.Text; own = codes "\"" ++ (label ++ codes "\"") }

-- ---- names

-- the parts of a name, which stand apart by `::`
abbrev pub more_part_words : List (List ℕ) → List Spelled
more_part_words [] = []
more_part_words (part ∷ parts) = sign (codes "::") ∷ name_at part_mark part ∷ more_part_words parts

abbrev pub part_words : List (List ℕ) → List Spelled
part_words [] = []
part_words (part ∷ parts) = name_at path_mark part ∷ more_part_words parts

abbrev pub package_parts : Option Ident → List (List ℕ)
package_parts None = []
package_parts (Some i) = name_parts i.text

abbrev pub body_words : Option Ident → List Spelled
body_words None = []
body_words (Some i) = sign (codes ".") ∷ name_at path_body_mark i.text ∷ []

abbrev pub path_words : Path → List Spelled
path_words p = part_words (package_parts p.«package» ++ p.name.text ∷ []) ++ body_words p.body

-- ---- expressions

abbrev pub binary_word : Binary → Spelled
binary_word Arrow = sign_at arrow_mark (codes "->")
binary_word Implies = sign_at implies_mark (codes "=>")
binary_word Iff = sign_at iff_mark (codes "<=>")
binary_word Or = name_at or_mark (codes "or")
binary_word And = name_at and_mark (codes "and")
binary_word Less = sign_at less_mark (codes "<")
binary_word AtMost = sign_at at_most_mark (codes "<=")
binary_word More = sign_at more_mark (codes ">")
binary_word AtLeast = sign_at at_least_mark (codes ">=")
binary_word Same = sign_at same_mark (codes "=")
binary_word Differs = sign_at differs_mark (codes "<>")
binary_word Plus = sign_at plus_mark (codes "+")
binary_word Minus = sign_at minus_mark (codes "-")
binary_word Times = sign_at times_mark (codes "*")
binary_word Div = name_at div_mark (codes "div")
binary_word Mod = name_at mod_mark (codes "mod")

abbrev pub open_word : Spelled
open_word = sign_at group_mark (codes "(")

abbrev pub close_word : Spelled
close_word = sign_at close_mark (codes ")")

abbrev pub truth_word : Bool → Spelled
truth_word true = name_at true_mark (codes "true")
truth_word false = name_at false_mark (codes "false")

-- an expression; and the arguments of a call, the first of them behind the words `before`
abbrev mutual
  pub term_words : Term → List Spelled
  term_words (Number value place) = number_word value ∷ []
  term_words (Truth value place) = truth_word value ∷ []
  term_words (Named path) = path_words path
  term_words (Unary' unary.Minus place _ (more_of-Term t end_of-Term)) = open_word ∷ sign_at negative_mark (codes "-") ∷ (term_words t ++ close_word ∷ [])
  term_words (Unary' unary.Not place _ (more_of-Term t end_of-Term)) = open_word ∷ name_at not_mark (codes "not") ∷ (term_words t ++ close_word ∷ [])
  term_words (Unary' unary.Pre place _ (more_of-Term t end_of-Term)) = name_at pre_mark (codes "pre") ∷ sign_at operand_mark (codes "(") ∷ (term_words t ++ close_word ∷ [])
  term_words (Binary' op place _ (more_of-Term left end_of-Term) _ (more_of-Term right end_of-Term)) = open_word ∷ (term_words left ++ binary_word op ∷ (term_words right ++ close_word ∷ []))
  term_words (Choice' place _ (more_of-Term test end_of-Term) _ (more_of-Term chosen end_of-Term) _ (more_of-Term other end_of-Term)) =
      open_word ∷ name_at if_mark (codes "if") ∷ (term_words test ++ name_at then_mark (codes "then") ∷ (term_words chosen ++ name_at else_mark (codes "else") ∷ (term_words other ++ close_word ∷ [])))
  term_words (Call' path _ args) = path_words path ++ sign_at call_mark (codes "(") ∷ (argument_words [] args ++ close_word ∷ [])

  pub argument_words : {m : _} → List Spelled → Row_of-Term m → List Spelled
  argument_words before end_of-Term = []
  argument_words before (more_of-Term t rest) = before ++ (term_words t ++ argument_words (sign_at argument_mark (codes ",") ∷ []) rest)

-- ---- clauses

abbrev pub type_word : Ty → Spelled
type_word ty.Int = name_at int_mark (codes "int")
type_word ty.Bool = name_at bool_mark (codes "bool")

abbrev pub var_words : Var → List Spelled
var_words v = name_at variable_mark v.name.text ∷ sign (codes ":") ∷ type_word v.ty ∷ []

-- declared names apart by `,`
abbrev pub more_var_words : List Var → List Spelled
more_var_words [] = []
more_var_words (v ∷ vs) = sign (codes ",") ∷ (var_words v ++ more_var_words vs)

abbrev pub vars_words : List Var → List Spelled
vars_words [] = []
vars_words (v ∷ vs) = var_words v ++ more_var_words vs

-- the value behind its `:` or `=`, and the `;`
abbrev pub value_words : List ℕ → Term → List Spelled
value_words sign_before t = sign_at value_mark sign_before ∷ (term_words t ++ sign_at end_mark (codes ";") ∷ [])

abbrev pub some_value_words : Option Term → List Spelled
some_value_words None = sign (codes ";") ∷ []
some_value_words (Some t) = value_words (codes "=") t

abbrev pub equal_words : Equal → List Spelled
equal_words e = name_at target_mark e.name.text ∷ value_words (codes "=") e.value

abbrev pub labelled_words : Spelled → Labelled → List Spelled
labelled_words first l = first ∷ label_word l.label ∷ value_words (codes ":") l.claim

abbrev pub local_words : Var → List Spelled
local_words v = var_words v ++ sign (codes ";") ∷ []

-- the word `var` and the locals, if there are any
abbrev pub locals_words : List Var → List Spelled
locals_words [] = []
locals_words (v ∷ vs) = name_at locals_mark (codes "var") ∷ flat_map local_words (v ∷ vs)

abbrev pub node_words : NodeDef → List Spelled
node_words n =
    name_at node_mark (codes "node") ∷ name_at node_name_mark n.name.text ∷ sign (codes "(") ∷ (vars_words n.inputs
    ++ sign (codes ")") ∷ name_at returns_mark (codes "returns") ∷ sign (codes "(") ∷ (vars_words n.outputs
    ++ sign (codes ")") ∷ sign (codes ";") ∷ (locals_words n.locals
    ++ name_at let_mark (codes "let") ∷ (flat_map equal_words n.equations
    ++ name_at tel_mark (codes "tel") ∷ sign (codes ";") ∷ []))))

abbrev pub clause_words : Clause → List Spelled
clause_words (clause.Assume l) = labelled_words (name_at assume_mark (codes "assume")) l
clause_words (clause.Guarantee l) = labelled_words (name_at guarantee_mark (codes "guarantee")) l
clause_words (clause.Lemma l) = labelled_words (name_at lemma_mark (codes "lemma")) l
clause_words (clause.Eq names value) = name_at eq_mark (codes "eq") ∷ (vars_words names ++ some_value_words value)
clause_words (clause.Assign e) = name_at assign_mark (codes "assign") ∷ equal_words e
clause_words (clause.Const name value) = name_at const_mark (codes "const") ∷ (var_words name ++ value_words (codes "=") value)
clause_words (clause.Node n) = node_words n

-- a line for each clause
abbrev pub clauses_text : List Clause → List ℕ
clauses_text clauses = text_bytes (map clause_words clauses)

-- the bytes between the marks of an annex that states them: the clauses begin on a line of their own
abbrev pub inside_text : List Clause → List ℕ
inside_text clauses = codes "\n" ++ clauses_text clauses
