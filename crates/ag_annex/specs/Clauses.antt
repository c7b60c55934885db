-- What the marked tokens of an annex state.
use Rattle.std.specs.Prelude.{ℕ, ◌-◌, ◌+◌, ◌==◌, List, [], ◌∷◌, Option, Some, None, map, slice_range, if◌then◌else◌}
use Rattle.ag_lex.specs.declared.token.Token.{Token}
use Rattle.ag_aadl.specs.declared.marked.Marked.{Marked}
use Rattle.ag_aadl.specs.Marked.{under, has_mark, first_of, up_to, segments}
use Rattle.ag_aadl.specs.Meaning.{ident_under, begins_with}
use Rattle.ag_terms.specs.declared.clauses.Clause.{Clause}
use Rattle.ag_terms.specs.declared.clauses.Clause.TheVariants as clause
use Rattle.ag_terms.specs.declared.clauses.Equal.{Equal}
use Rattle.ag_terms.specs.declared.clauses.Labelled.{Labelled}
use Rattle.ag_terms.specs.declared.clauses.NodeDef.{NodeDef}
use Rattle.ag_terms.specs.declared.clauses.Ty.{Ty}
use Rattle.ag_terms.specs.declared.clauses.Ty.TheVariants.{Int, Bool}
use Rattle.ag_terms.specs.declared.clauses.Var.{Var}
use Rattle.ag_terms.specs.declared.terms.Term.{Term}
use Rattle.ag_annex.specs.Expressions.{term_of}
use Rattle.ag_annex.specs.Marks.{assume_mark, guarantee_mark, lemma_mark, eq_mark, assign_mark, const_mark, node_mark, label_mark, variable_mark, bool_mark, target_mark, node_name_mark, returns_mark, locals_mark, let_mark, value_mark, end_mark}

-- the tokens behind the first under a mark
abbrev pub after : ℕ → List Marked → List Marked
after mark [] = []
after mark (m ∷ ms) = if m.mark == mark then ms else after mark ms

-- the expression that a clause or an equation states: the tokens up to its `;`, behind the `:` or `=`
abbrev pub value_of : List ℕ → List Marked → Term
value_of bytes ms = term_of bytes (up_to (end_mark ∷ []) (after value_mark ms))

-- the expression, if it states one
abbrev pub some_value : List ℕ → List Marked → Option Term
some_value bytes ms = if has_mark value_mark ms then Some (value_of bytes ms) else None

-- the type behind a declared name
abbrev pub type_of : List Marked → Ty
type_of ms = if has_mark bool_mark ms then Bool else Int

-- a declared name, by the tokens from it on
abbrev pub var_of : List ℕ → List Marked → Var
var_of bytes ms = record { name = ident_under bytes variable_mark ms; ty = type_of ms }

-- the declared names among some tokens, in order
abbrev pub vars_of : List ℕ → List Marked → List Var
vars_of bytes ms = map (var_of bytes) (segments (variable_mark ∷ []) ms)

-- a name and the expression that it is to equal, by the tokens from the name on
abbrev pub equal_of : List ℕ → List Marked → Equal
equal_of bytes ms = record { name = ident_under bytes target_mark ms; value = value_of bytes ms }

-- the bytes between the quotes
abbrev pub label_of : List ℕ → Token → List ℕ
label_of bytes t = slice_range bytes (t.start + 1) (t.end - 1)

-- an assumption, a guarantee or a lemma, by the tokens from its first word on
abbrev pub labelled_of : List ℕ → ℕ → List Marked → Labelled
labelled_of bytes mark ms = record { label = label_of bytes (first_of (under label_mark ms)); claim = value_of bytes ms; place = (first_of (under mark ms)).place }

-- the parts of a node: its head, what it returns, its locals, its equations
abbrev pub parts_of_node : List Marked → List (List Marked)
parts_of_node ms = segments (node_mark ∷ returns_mark ∷ locals_mark ∷ let_mark ∷ []) ms

-- the first part that begins with this mark, empty where there is none
abbrev pub part_under : ℕ → List (List Marked) → List Marked
part_under mark [] = []
part_under mark (part ∷ parts) = if begins_with mark part then part else part_under mark parts

-- a node, by the tokens from its first word on
abbrev pub node_of : List ℕ → List Marked → NodeDef
node_of bytes ms =
    let parts = parts_of_node ms in
    record {
      name = ident_under bytes node_name_mark ms;
      inputs = vars_of bytes (part_under node_mark parts);
      outputs = vars_of bytes (part_under returns_mark parts);
      locals = vars_of bytes (part_under locals_mark parts);
      equations = map (equal_of bytes) (segments (target_mark ∷ []) (part_under let_mark parts));
    }

-- a clause, by the tokens from its first word on, which has this mark
abbrev pub clause_under : List ℕ → ℕ → List Marked → Clause
clause_under bytes mark ms =
    if mark == assume_mark then clause.Assume (labelled_of bytes mark ms)
    else (if mark == guarantee_mark then clause.Guarantee (labelled_of bytes mark ms)
    else (if mark == lemma_mark then clause.Lemma (labelled_of bytes mark ms)
    else (if mark == eq_mark then clause.Eq (vars_of bytes ms) (some_value bytes ms)
    else (if mark == assign_mark then clause.Assign (equal_of bytes ms)
    else (if mark == const_mark then clause.Const (var_of bytes ms) (value_of bytes ms)
    else clause.Node (node_of bytes ms))))))

-- the mark of the first token
abbrev pub first_mark : List Marked → ℕ
first_mark [] = 0
first_mark (m ∷ ms) = m.mark

abbrev pub clause_of : List ℕ → List Marked → Clause
clause_of bytes ms = clause_under bytes (first_mark ms) ms

-- the marks of the words that clauses begin with
abbrev pub clause_marks : List ℕ
clause_marks = assume_mark ∷ guarantee_mark ∷ lemma_mark ∷ eq_mark ∷ assign_mark ∷ const_mark ∷ node_mark ∷ []

-- the clauses of an annex's tokens, in order
abbrev pub clauses_of : List ℕ → List Marked → List Clause
clauses_of bytes ms = map (clause_of bytes) (segments clause_marks ms)
