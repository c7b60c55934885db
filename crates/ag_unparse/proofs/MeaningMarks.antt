-- The marks that stand in the words of expressions and of declared names.
use Rattle.std.proofs.Common.{◌≡◌, ℕ, Bool, true, false, List, [], ◌∷◌, ◌++◌, Option, Some, None, refl, codes}
use Rattle.std.specs.List.{flat_map}
use Rattle.ag_terms.specs.declared.names.Ident.{Ident}
use Rattle.ag_terms.specs.declared.names.Path.{Path}
use Rattle.ag_terms.specs.declared.clauses.Ty.{Ty}
use Rattle.ag_terms.specs.declared.clauses.Ty.TheVariants as ty
use Rattle.ag_terms.specs.declared.clauses.Var.{Var}
use Rattle.ag_terms.specs.declared.terms.Binary.{Binary}
use Rattle.ag_terms.specs.declared.terms.Binary.TheVariants.{Arrow, Implies, Iff, Or, And, Less, AtMost, More, AtLeast, Same, Differs, Plus, Minus, Times, Div, Mod}
use Rattle.ag_terms.specs.declared.terms.Term.{Term, Number, Truth, Named, Unary', Binary', Choice', Call', Row_of-Term, end_of-Term, more_of-Term}
use Rattle.ag_terms.specs.declared.terms.Unary.TheVariants as unary
use Rattle.ag_annex.specs.Marks.{variable_mark, int_mark, bool_mark, arrow_mark, implies_mark, iff_mark, or_mark, and_mark, less_mark, at_most_mark, more_mark, at_least_mark, same_mark, differs_mark, plus_mark, minus_mark, times_mark, div_mark, mod_mark, negative_mark, not_mark, pre_mark, if_mark, then_mark, else_mark, number_mark, true_mark, false_mark, group_mark, operand_mark, call_mark, argument_mark, close_mark, path_mark, part_mark, path_body_mark}
use Rattle.ag_unparse.specs.Canonical.{name_at, sign_at, truth_word, more_part_words, part_words, package_parts, body_words, path_words, binary_word, close_word, term_words, argument_words, var_words, more_var_words, vars_words, local_words, type_word}
use Rattle.ag_unparse.specs.Layout.{Spelled}
use Rattle.ag_unparse.proofs.MeaningReads.{comma_word}
use Rattle.ag_unparse.proofs.MeaningSegments.{within, within_join}

-- ---- expressions

abbrev pub term_set : List ℕ
term_set =
    0 ∷ arrow_mark ∷ implies_mark ∷ iff_mark ∷ or_mark ∷ and_mark ∷ less_mark ∷ at_most_mark ∷ more_mark ∷ at_least_mark ∷ same_mark ∷ differs_mark ∷ plus_mark ∷ minus_mark ∷ times_mark ∷ div_mark ∷ mod_mark
    ∷ negative_mark ∷ not_mark ∷ pre_mark ∷ if_mark ∷ then_mark ∷ else_mark ∷ number_mark ∷ true_mark ∷ false_mark ∷ group_mark ∷ operand_mark ∷ call_mark ∷ argument_mark ∷ close_mark ∷ path_mark ∷ part_mark ∷ path_body_mark ∷ []

more_part_marks : (ps : List (List ℕ)) → within term_set (more_part_words ps) ≡ true
more_part_marks [] = refl
more_part_marks (p ∷ ps) = more_part_marks ps

part_marks : (ps : List (List ℕ)) → within term_set (part_words ps) ≡ true
part_marks [] = refl
part_marks (p ∷ ps) = more_part_marks ps

body_marks : (o : Option Ident) → within term_set (body_words o) ≡ true
body_marks None = refl
body_marks (Some i) = refl

path_marks : (p : Path) → within term_set (path_words p) ≡ true
path_marks p =
    let parts = package_parts p.«package» ++ p.name.text ∷ [] in
    within_join term_set (part_words parts) (body_words p.body) (part_marks parts) (body_marks p.body)

truth_marks : (value : Bool) → within term_set (truth_word value ∷ []) ≡ true
truth_marks true = refl
truth_marks false = refl

operator_marks : (op : Binary) (ws : List Spelled) → within term_set ws ≡ true → within term_set (binary_word op ∷ ws) ≡ true
operator_marks Arrow ws h = h
operator_marks Implies ws h = h
operator_marks Iff ws h = h
operator_marks Or ws h = h
operator_marks And ws h = h
operator_marks Less ws h = h
operator_marks AtMost ws h = h
operator_marks More ws h = h
operator_marks AtLeast ws h = h
operator_marks Same ws h = h
operator_marks Differs ws h = h
operator_marks Plus ws h = h
operator_marks Minus ws h = h
operator_marks Times ws h = h
operator_marks Div ws h = h
operator_marks Mod ws h = h

closed_marks : (ws : List Spelled) → within term_set ws ≡ true → within term_set (ws ++ close_word ∷ []) ≡ true
closed_marks ws h = within_join term_set ws (close_word ∷ []) h refl

mutual
  pub term_marks : (t : Term) → within term_set (term_words t) ≡ true
  term_marks (Number value place) = refl
  term_marks (Truth value place) = truth_marks value
  term_marks (Named path) = path_marks path
  term_marks (Unary' unary.Minus place _ (more_of-Term t end_of-Term)) = closed_marks (term_words t) (term_marks t)
  term_marks (Unary' unary.Not place _ (more_of-Term t end_of-Term)) = closed_marks (term_words t) (term_marks t)
  term_marks (Unary' unary.Pre place _ (more_of-Term t end_of-Term)) = closed_marks (term_words t) (term_marks t)
  term_marks (Binary' op place _ (more_of-Term left end_of-Term) _ (more_of-Term right end_of-Term)) =
      within_join term_set (term_words left) (binary_word op ∷ (term_words right ++ close_word ∷ [])) (term_marks left)
      (operator_marks op (term_words right ++ close_word ∷ []) (closed_marks (term_words right) (term_marks right)))
  term_marks (Choice' place _ (more_of-Term test end_of-Term) _ (more_of-Term chosen end_of-Term) _ (more_of-Term other end_of-Term)) =
      let last = term_words other ++ close_word ∷ [] in
      within_join term_set (term_words test) (name_at then_mark (codes "then") ∷ (term_words chosen ++ name_at else_mark (codes "else") ∷ last)) (term_marks test)
      (within_join term_set (term_words chosen) (name_at else_mark (codes "else") ∷ last) (term_marks chosen) (closed_marks (term_words other) (term_marks other)))
  term_marks (Call' path _ args) =
      within_join term_set (path_words path) (sign_at call_mark (codes "(") ∷ (argument_words [] args ++ close_word ∷ [])) (path_marks path) (closed_marks (argument_words [] args) (all_marks args))

  all_marks : {m : _} (row : Row_of-Term m) → within term_set (argument_words [] row) ≡ true
  all_marks end_of-Term = refl
  all_marks (more_of-Term t rest) = within_join term_set (term_words t) (argument_words (comma_word ∷ []) rest) (term_marks t) (more_marks rest)

  more_marks : {m : _} (row : Row_of-Term m) → within term_set (argument_words (comma_word ∷ []) row) ≡ true
  more_marks end_of-Term = refl
  more_marks (more_of-Term t rest) = within_join term_set (term_words t) (argument_words (comma_word ∷ []) rest) (term_marks t) (more_marks rest)

-- ---- declared names

abbrev pub var_set : List ℕ
var_set = 0 ∷ variable_mark ∷ int_mark ∷ bool_mark ∷ []

type_marks : (type : Ty) (ws : List Spelled) → within var_set ws ≡ true → within var_set (type_word type ∷ ws) ≡ true
type_marks ty.Int ws h = h
type_marks ty.Bool ws h = h

pub var_marks : (v : Var) → within var_set (var_words v) ≡ true
var_marks v = type_marks v.ty [] refl

more_var_marks : (vs : List Var) → within var_set (more_var_words vs) ≡ true
more_var_marks [] = refl
more_var_marks (v ∷ vs) = type_marks v.ty (more_var_words vs) (more_var_marks vs)

pub vars_marks : (vs : List Var) → within var_set (vars_words vs) ≡ true
vars_marks [] = refl
vars_marks (v ∷ vs) = type_marks v.ty (more_var_words vs) (more_var_marks vs)

pub locals_marks : (vs : List Var) → within var_set (flat_map local_words vs) ≡ true
locals_marks [] = refl
locals_marks (v ∷ vs) = type_marks v.ty (flat_map local_words vs) (locals_marks vs)
