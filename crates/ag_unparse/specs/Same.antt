-- When two lists of clauses are the same but for places.
use Rattle.std.specs.Prelude.{◌≡◌, List, [], ◌∷◌, map, Option, Some, None}
use Rattle.ag_base.specs.declared.place.Place.{Place}
use Rattle.ag_terms.specs.declared.names.Ident.{Ident}
use Rattle.ag_terms.specs.declared.names.Path.{Path}
use Rattle.ag_terms.specs.declared.clauses.Clause.{Clause}
use Rattle.ag_terms.specs.declared.clauses.Clause.TheVariants as clause
use Rattle.ag_terms.specs.declared.clauses.Equal.{Equal}
use Rattle.ag_terms.specs.declared.clauses.Labelled.{Labelled}
use Rattle.ag_terms.specs.declared.clauses.NodeDef.{NodeDef}
use Rattle.ag_terms.specs.declared.clauses.Var.{Var}
use Rattle.ag_terms.specs.declared.terms.Term.{Term, Number, Truth, Named, Unary', Binary', Choice', Call', Row_of-Term, end_of-Term, more_of-Term}
use Rattle.ag_terms.specs.declared.terms.Term.TheViews as term

-- one place that stands for all
abbrev pub nowhere : Place
nowhere = record { file = 0; line = 0; column = 0 }

-- names without places
abbrev pub bare_ident : Ident → Ident
bare_ident i = record { text = i.text; place = nowhere }

abbrev pub bare_option : Option Ident → Option Ident
bare_option None = None
bare_option (Some i) = Some (bare_ident i)

abbrev pub bare_path : Path → Path
bare_path p = record { «package» = bare_option p.«package»; name = bare_ident p.name; body = bare_option p.body }

-- an expression without places
abbrev mutual
  pub bare_term : Term → Term
  bare_term (Number value place) = Number value nowhere
  bare_term (Truth value place) = Truth value nowhere
  bare_term (Named path) = Named (bare_path path)
  bare_term (Unary' op place _ (more_of-Term t end_of-Term)) = term.Unary op nowhere (bare_term t)
  bare_term (Binary' op place _ (more_of-Term left end_of-Term) _ (more_of-Term right end_of-Term)) = term.Binary op nowhere (bare_term left) (bare_term right)
  bare_term (Choice' place _ (more_of-Term test end_of-Term) _ (more_of-Term chosen end_of-Term) _ (more_of-Term other end_of-Term)) =
      term.Choice nowhere (bare_term test) (bare_term chosen) (bare_term other)
  bare_term (Call' path _ args) = term.Call (bare_path path) (bare_terms args)

  pub bare_terms : {m : _} → Row_of-Term m → List Term
  bare_terms end_of-Term = []
  bare_terms (more_of-Term t rest) = bare_term t ∷ bare_terms rest

abbrev pub bare_var : Var → Var
bare_var v = record { name = bare_ident v.name; ty = v.ty }

abbrev pub bare_value : Option Term → Option Term
bare_value None = None
bare_value (Some t) = Some (bare_term t)

abbrev pub bare_equal : Equal → Equal
bare_equal e = record { name = bare_ident e.name; value = bare_term e.value }

abbrev pub bare_labelled : Labelled → Labelled
bare_labelled l = record { label = l.label; claim = bare_term l.claim; place = nowhere }

abbrev pub bare_node : NodeDef → NodeDef
bare_node n = record {
  name = bare_ident n.name;
  inputs = map bare_var n.inputs;
  outputs = map bare_var n.outputs;
  locals = map bare_var n.locals;
  equations = map bare_equal n.equations;
}

abbrev pub bare_clause : Clause → Clause
bare_clause (clause.Assume l) = clause.Assume (bare_labelled l)
bare_clause (clause.Guarantee l) = clause.Guarantee (bare_labelled l)
bare_clause (clause.Lemma l) = clause.Lemma (bare_labelled l)
bare_clause (clause.Eq names value) = clause.Eq (map bare_var names) (bare_value value)
bare_clause (clause.Assign e) = clause.Assign (bare_equal e)
bare_clause (clause.Const name value) = clause.Const (bare_var name) (bare_term value)
bare_clause (clause.Node n) = clause.Node (bare_node n)

-- the same clauses in the same order: all but places is equal
abbrev pub SameClauses : List Clause → List Clause → Type 0
SameClauses cs ds = map bare_clause cs ≡ map bare_clause ds
