-- Which clauses have a canonical text: those whose names are names, and that hold what the text can tell.
use Rattle.std.specs.Prelude.{ℕ, ℤ, pos, negsuc, ◌^◌, ◌==◌, ◌&&◌, Bool, true, false, not, List, [], ◌∷◌, Option, Some, None, length, nat_le}
use Rattle.std.specs.List.{list_all}
use Rattle.std.specs.Str.{IsUtf8}
use Rattle.ag_lex.specs.declared.token.TokenKind.TheVariants.{Name}
use Rattle.ag_lex.specs.Characters.{is_text_byte}
use Rattle.ag_lex.specs.Spelling.{is_name, has_close}
use Rattle.ag_terms.specs.declared.names.Ident.{Ident}
use Rattle.ag_terms.specs.declared.names.Path.{Path}
use Rattle.ag_terms.specs.declared.clauses.Clause.{Clause}
use Rattle.ag_terms.specs.declared.clauses.Clause.TheVariants as clause
use Rattle.ag_terms.specs.declared.clauses.Equal.{Equal}
use Rattle.ag_terms.specs.declared.clauses.Labelled.{Labelled}
use Rattle.ag_terms.specs.declared.clauses.NodeDef.{NodeDef}
use Rattle.ag_terms.specs.declared.clauses.Site.{Site}
use Rattle.ag_terms.specs.declared.clauses.Site.TheVariants as site
use Rattle.ag_terms.specs.declared.clauses.Var.{Var}
use Rattle.ag_terms.specs.declared.terms.Term.{Term, Number, Truth, Named, Unary', Binary', Choice', Call', Row_of-Term, end_of-Term, more_of-Term}
use Rattle.ag_annex.specs.Terminals.{name}
use Rattle.ag_annex.specs.Words.{terminal_of}
use Rattle.ag_unparse.specs.Canonical.{package_parts}

-- a name of at most 255 bytes, and no reserved word of annexes
abbrev pub is_plain_name : List ℕ → Bool
is_plain_name own = is_name own && (nat_le (length own) 255 && terminal_of Name own == name)

abbrev pub is_plain_ident : Ident → Bool
is_plain_ident i = is_plain_name i.text

abbrev pub is_plain_option : Option Ident → Bool
is_plain_option None = true
is_plain_option (Some i) = is_plain_name i.text

abbrev pub is_plain_path : Path → Bool
is_plain_path p = list_all is_plain_name (package_parts p.«package») && (is_plain_ident p.name && is_plain_option p.body)

-- a literal from 0 to 2^47
abbrev pub is_literal : ℤ → Bool
is_literal (pos n) = nat_le n (2 ^ 47)
is_literal (negsuc n) = false

abbrev mutual
  pub is_printable_term : Term → Bool
  is_printable_term (Number value place) = is_literal value
  is_printable_term (Truth value place) = true
  is_printable_term (Named path) = is_plain_path path
  is_printable_term (Unary' op place _ (more_of-Term t end_of-Term)) = is_printable_term t
  is_printable_term (Binary' op place _ (more_of-Term left end_of-Term) _ (more_of-Term right end_of-Term)) = is_printable_term left && is_printable_term right
  is_printable_term (Choice' place _ (more_of-Term test end_of-Term) _ (more_of-Term chosen end_of-Term) _ (more_of-Term other end_of-Term)) =
      is_printable_term test && (is_printable_term chosen && is_printable_term other)
  is_printable_term (Call' path _ args) = is_plain_path path && are_printable_terms args

  pub are_printable_terms : {m : _} → Row_of-Term m → Bool
  are_printable_terms end_of-Term = true
  are_printable_terms (more_of-Term t rest) = is_printable_term t && are_printable_terms rest

-- a label's bytes stand between quotes on a line, and no annex ends in them
abbrev pub is_label : List ℕ → Bool
is_label label = list_all is_text_byte label && not (has_close label)

abbrev pub is_printable_var : Var → Bool
is_printable_var v = is_plain_ident v.name

-- there is one at least
abbrev pub are_some_vars : List Var → Bool
are_some_vars [] = false
are_some_vars (v ∷ vs) = list_all is_printable_var (v ∷ vs)

abbrev pub is_printable_value : Option Term → Bool
is_printable_value None = true
is_printable_value (Some t) = is_printable_term t

abbrev pub is_printable_equal : Equal → Bool
is_printable_equal e = is_plain_ident e.name && is_printable_term e.value

abbrev pub is_printable_labelled : Labelled → Bool
is_printable_labelled l = is_label l.label && is_printable_term l.claim

abbrev pub is_printable_node : NodeDef → Bool
is_printable_node n =
    is_plain_ident n.name
    && (list_all is_printable_var n.inputs
    && (are_some_vars n.outputs
    && (list_all is_printable_var n.locals
    && list_all is_printable_equal n.equations)))

abbrev pub is_printable_clause : Clause → Bool
is_printable_clause (clause.Assume l) = is_printable_labelled l
is_printable_clause (clause.Guarantee l) = is_printable_labelled l
is_printable_clause (clause.Lemma l) = is_printable_labelled l
is_printable_clause (clause.Eq names value) = are_some_vars names && is_printable_value value
is_printable_clause (clause.Assign e) = is_printable_equal e
is_printable_clause (clause.Const name value) = is_printable_var name && is_printable_term value
is_printable_clause (clause.Node n) = is_printable_node n

abbrev pub are_printable_clauses : List Clause → Bool
are_printable_clauses clauses = list_all is_printable_clause clauses

-- whether a clause may stand in an annex of such a site
abbrev pub may_stand : Site → Clause → Bool
may_stand site.Frame (clause.Assume l) = true
may_stand site.Frame (clause.Guarantee l) = true
may_stand site.Body (clause.Lemma l) = true
may_stand site.Body (clause.Assign e) = true
may_stand site.Frame (clause.Eq names value) = true
may_stand site.Body (clause.Eq names value) = true
may_stand _ (clause.Const name value) = true
may_stand _ (clause.Node n) = true
may_stand _ _ = false

-- the label of a clause, if it has one, is text, and not bytes of any kind
abbrev pub IsLabelText : Clause → Type 0
IsLabelText (clause.Assume l) = IsUtf8 l.label
IsLabelText (clause.Guarantee l) = IsUtf8 l.label
IsLabelText (clause.Lemma l) = IsUtf8 l.label
IsLabelText _ = Unit {0}

abbrev pub AreLabelsText : List Clause → Type 0
AreLabelsText [] = Unit {0}
AreLabelsText (c ∷ clauses) = IsLabelText c × AreLabelsText clauses
