-- What claims, streams, constants and equations break, by parts.
use denote.Hole.Carrier.{hidden}
use Rattle.std.proofs.Common.{◌≡◌, ℕ, ◌+◌, ◌<◌, ◌≤◌, true, false, ◌||◌, List, [], ◌∷◌, ◌++◌, length, drop, get_or, refl, ap, sym, ◌∙◌, add-one, drop-cons}
use Rattle.std.specs.Prelude.{Option, Some, None}
use Rattle.std.proofs.lemmas.List.{drop_all}
use Rattle.ag_base.specs.declared.place.Place.{Place}
use Rattle.ag_base.specs.declared.place.Refusal.{Refusal}
use Rattle.ag_terms.specs.declared.names.Path.{Path}
use Rattle.ag_terms.specs.declared.clauses.Equal.{Equal}
use Rattle.ag_terms.specs.declared.clauses.Labelled.{Labelled}
use Rattle.ag_terms.specs.declared.clauses.NodeDef.{NodeDef}
use Rattle.ag_terms.specs.declared.clauses.Ty.TheVariants.{Bool as Boolean}
use Rattle.ag_terms.specs.declared.clauses.Var.{Var}
use Rattle.ag_terms.specs.declared.terms.Binary.{Binary}
use Rattle.ag_terms.specs.declared.terms.Binary.TheVariants.{Arrow, Implies, Iff, Or, And, Less, AtMost, More, AtLeast, Same, Differs, Plus, Minus, Times, Div, Mod}
use Rattle.ag_terms.specs.declared.terms.Unary.TheVariants as unary
use Rattle.ag_terms.specs.declared.terms.Term.{Term, Row_of-Term, items-the_row-Term, items_hidden-the_row-Term-1}
use Rattle.ag_terms.specs.declared.terms.Term.TheBlock.{hidden-the_row-Term-0, hidden-the_row-Term-1}
use Rattle.ag_terms.specs.declared.terms.Term.TheViews as term
use Rattle.ag_symbols.specs.Seen.{Names, node_of, value_named}
use Rattle.ag_types.specs.ClauseFaults.{claim_faults, value_mismatch, unknown_target, equal_faults, several_faults, several_call, several_outputs, output_mismatches}
use Rattle.ag_types.specs.ClauseFirsts.{first_output, first_of_several, is_arrow}
use Rattle.ag_types.specs.Constants.{is_varying}
use Rattle.ag_types.specs.Firsts.{either, mismatches_in, faults_among, inputs_of}
use Rattle.ag_types.specs.Places.{first_place, first_broken, path_place}
use Rattle.ag_types.specs.Types.{type_in, type_of_var, faults_in, faults_in_all, argument_mismatches, arguments_in, mismatch, arity}
use Rattle.ag_types.proofs.Breaking.{either-none, either-assoc, first_broken-append}
use Rattle.ag_types.proofs.Typing.{mismatches_of_items, faults_of_items, arguments_of_items}

pub broken_claim : (names : Names) (l : Labelled) →
    either (first_broken (faults_in names l.claim)) (first_broken (mismatch (Some Boolean) (type_in names l.claim) (first_place l.claim))) ≡ first_broken (claim_faults names l)
broken_claim names l = sym (first_broken-append (faults_in names l.claim) (mismatch (Some Boolean) (type_in names l.claim) (first_place l.claim)))

mismatch_of_value : (names : Names) (target : Option Var) (t : Term) → mismatch (type_of_var target) (type_in names t) (first_place t) ≡ value_mismatch names target t
mismatch_of_value names None t = refl
mismatch_of_value names (Some v) t = refl

pub broken_value : (names : Names) (target : Option Var) (t : Term) →
    either (first_broken (mismatch (type_of_var target) (type_in names t) (first_place t))) (first_broken (faults_in names t)) ≡ first_broken (value_mismatch names target t ++ faults_in names t)
broken_value names target t =
    ap (λ (z : List Refusal). either (first_broken z) (first_broken (faults_in names t))) (mismatch_of_value names target t)
    ∙ sym (first_broken-append (value_mismatch names target t) (faults_in names t))

pub broken_equal : (names : Names) (vars : List Var) (e : Equal) →
    either (first_broken (unknown_target (value_named e.name.text vars) e.name.place)) (first_broken (value_mismatch names (value_named e.name.text vars) e.value ++ faults_in names e.value)) ≡ first_broken (equal_faults names vars e)
broken_equal names vars e = sym (first_broken-append (unknown_target (value_named e.name.text vars) e.name.place) (value_mismatch names (value_named e.name.text vars) e.value ++ faults_in names e.value))

-- ---- several names

several_as : (names : Names) (vars : List Var) (path : Path) (node : Option NodeDef) {n : _} (row : Row_of-Term n) →
    first_broken (several_call names vars path node row) ≡ first_of_several vars (path_place path) node (length (items-the_row-Term n row)) (first_broken (mismatches_in names (inputs_of node) (items-the_row-Term n row)))
several_as names vars path None row = refl
several_as names vars path (Some d) {n = n} row =
    first_broken-append (arity (length d.inputs) (arguments_in row) (path_place path)) (argument_mismatches names d.inputs row ++ several_outputs vars d (path_place path))
    ∙ ap (either (first_broken (arity (length d.inputs) (arguments_in row) (path_place path)))) (first_broken-append (argument_mismatches names d.inputs row) (several_outputs vars d (path_place path)))
    ∙ rw (arguments_of_items row, mismatches_of_items names d.inputs row) refl

pub broken_several : (names : Names) (vars : List Var) (path : Path) (ts : List Term) →
    first_broken (several_faults names vars (term.Call path ts)) ≡ either (first_of_several vars (path_place path) (node_of names path) (length ts) (first_broken (mismatches_in names (inputs_of (node_of names path)) ts))) (first_broken (faults_among names ts))
broken_several names vars path ts =
    first_broken-append (several_call names vars path (node_of names path) (hidden-the_row-Term-1 ts)) (faults_in_all names (hidden-the_row-Term-1 ts))
    ∙ rw (several_as names vars path (node_of names path) (hidden-the_row-Term-1 ts), faults_of_items names (hidden-the_row-Term-1 ts), items_hidden-the_row-Term-1 ts) refl

-- ---- outputs one by one

outputs_first : (v : Var) (vs os : List Var) (place : Place) →
    first_broken (output_mismatches (v ∷ vs) os place) ≡ either (first_output v os place) (first_broken (output_mismatches vs (drop 1 os) place))
outputs_first v [] [] place = refl
outputs_first v (w ∷ vs) [] place = refl
outputs_first v vs (o ∷ os) place = first_broken-append (mismatch (Some v.ty) (Some o.ty) place) (output_mismatches vs os place)

split : (vs : List Var) (i : ℕ) (v : Var) → i < length vs → v ≡ get_or vs i v → (v ∷ drop (i + 1) vs) ≡ drop i vs
split vs i v h at = ap (λ (z : Var). z ∷ drop (i + 1) vs) at ∙ rw add-one (sym (drop-cons vs i v h))

pub outputs_more : (vs os : List Var) (place : Place) (i : ℕ) (v : Var) (so_far all : Option Refusal) → i < length vs → v ≡ get_or vs i v →
    either so_far (first_broken (output_mismatches (drop i vs) os place)) ≡ all →
    either (either so_far (first_output v os place)) (first_broken (output_mismatches (drop (i + 1) vs) (drop 1 os) place)) ≡ all
outputs_more vs os place i v so_far all h at e =
    either-assoc so_far (first_output v os place) (first_broken (output_mismatches (drop (i + 1) vs) (drop 1 os) place))
    ∙ ap (either so_far) (sym (outputs_first v (drop (i + 1) vs) os place))
    ∙ ap (λ (z : List Var). either so_far (first_broken (output_mismatches z os place))) (split vs i v h at)
    ∙ e

pub outputs_end : (vs os : List Var) (place : Place) (i : ℕ) (so_far all : Option Refusal) → length vs ≤ i →
    either so_far (first_broken (output_mismatches (drop i vs) os place)) ≡ all → so_far ≡ all
outputs_end vs os place i so_far all h e =
    sym (either-none so_far) ∙ ap (λ (z : List Var). either so_far (first_broken (output_mismatches z os place))) (sym (drop_all i vs h)) ∙ e

-- ---- constants

pub varying_minus : (names : Names) (place : Place) (t : Term) → is_varying names (term.Unary unary.Minus place t) ≡ is_varying names t
unfolding hidden-the_row-Term-0 hidden
varying_minus names place t = refl

pub varying_not : (names : Names) (place : Place) (t : Term) → is_varying names (term.Unary unary.Not place t) ≡ is_varying names t
unfolding hidden-the_row-Term-0 hidden
varying_not names place t = refl

pub varying_choice : (names : Names) (place : Place) (t u v : Term) →
    is_varying names (term.Choice place t u v) ≡ (is_varying names t || (is_varying names u || is_varying names v))
unfolding hidden-the_row-Term-0 hidden
varying_choice names place t u v = refl

pub varying_binary : (names : Names) (op : Binary) (place : Place) (t u : Term) →
    is_varying names (term.Binary op place t u) ≡ (is_arrow op || (is_varying names t || is_varying names u))
unfolding hidden-the_row-Term-0 hidden
varying_binary names Arrow place t u = refl
varying_binary names Implies place t u = refl
varying_binary names Iff place t u = refl
varying_binary names Or place t u = refl
varying_binary names And place t u = refl
varying_binary names Less place t u = refl
varying_binary names AtMost place t u = refl
varying_binary names More place t u = refl
varying_binary names AtLeast place t u = refl
varying_binary names Same place t u = refl
varying_binary names Differs place t u = refl
varying_binary names Plus place t u = refl
varying_binary names Minus place t u = refl
varying_binary names Times place t u = refl
varying_binary names Div place t u = refl
varying_binary names Mod place t u = refl

pub varying_left : (names : Names) (op : Binary) (place : Place) (t u : Term) → is_arrow op ≡ false → is_varying names t ≡ true → is_varying names (term.Binary op place t u) ≡ true
varying_left names op place t u e f = varying_binary names op place t u ∙ rw (e, f) refl

pub varying_right : (names : Names) (op : Binary) (place : Place) (t u : Term) → is_arrow op ≡ false → is_varying names t ≡ false → is_varying names (term.Binary op place t u) ≡ is_varying names u
varying_right names op place t u e f = varying_binary names op place t u ∙ rw (e, f) refl

pub varying_test : (names : Names) (place : Place) (t u v : Term) → is_varying names t ≡ true → is_varying names (term.Choice place t u v) ≡ true
varying_test names place t u v e = varying_choice names place t u v ∙ rw e refl

pub varying_yes : (names : Names) (place : Place) (t u v : Term) → is_varying names t ≡ false → is_varying names u ≡ true → is_varying names (term.Choice place t u v) ≡ true
varying_yes names place t u v e f = varying_choice names place t u v ∙ rw (e, f) refl

pub varying_no : (names : Names) (place : Place) (t u v : Term) → is_varying names t ≡ false → is_varying names u ≡ false → is_varying names (term.Choice place t u v) ≡ is_varying names v
varying_no names place t u v e f = varying_choice names place t u v ∙ rw (e, f) refl
