-- The type and the first broken rule of an expression by its operands.
use denote.Hole.Carrier.{hidden}
use Rattle.std.proofs.Common.{◌≡◌, ℕ, ◌+◌, suc, List, [], ◌∷◌, ◌++◌, length, drop, get_or, ◌<◌, ◌≤◌, refl, ap, sym, ◌∙◌, add-one, drop-cons}
use Rattle.std.specs.Prelude.{Option, Some, None}
use Rattle.std.proofs.lemmas.List.{drop_all}
use Rattle.ag_base.specs.declared.place.Place.{Place}
use Rattle.ag_base.specs.declared.place.Refusal.{Refusal}
use Rattle.ag_terms.specs.declared.names.Path.{Path}
use Rattle.ag_terms.specs.declared.clauses.NodeDef.{NodeDef}
use Rattle.ag_terms.specs.declared.clauses.Ty.TheVariants.{Bool as Boolean}
use Rattle.ag_terms.specs.declared.clauses.Var.{Var}
use Rattle.ag_terms.specs.declared.terms.Binary.{Binary}
use Rattle.ag_terms.specs.declared.terms.Unary.{Unary}
use Rattle.ag_terms.specs.declared.terms.Unary.TheVariants as unary
use Rattle.ag_terms.specs.declared.terms.Term.{Term, Row_of-Term, end_of-Term, more_of-Term, items-the_row-Term, items_hidden-the_row-Term-1}
use Rattle.ag_terms.specs.declared.terms.Term.TheBlock.{hidden-the_row-Term-0, hidden-the_row-Term-1}
use Rattle.ag_terms.specs.declared.terms.Term.TheViews as term
use Rattle.ag_symbols.specs.Seen.{Names, node_of}
use Rattle.ag_types.specs.Firsts.{either, type_of_unary, needed_alone, first_mismatch, mismatches_in, faults_among, inputs_of, first_of_call}
use Rattle.ag_types.specs.Places.{first_place, first_broken, path_place, earlier}
use Rattle.ag_types.specs.Types.{type_in, type_of_binary, faults_in, faults_in_all, argument_mismatches, arguments_in, call_faults, mismatch, arity, needed_first, needed_second}
use Rattle.ag_types.proofs.Breaking.{either-none, either-assoc, first_broken-append}

pub typed_unary : (names : Names) (op : Unary) (place : Place) (t : Term) → type_in names (term.Unary op place t) ≡ type_of_unary op (type_in names t)
unfolding hidden-the_row-Term-0 hidden
typed_unary names unary.Minus place t = refl
typed_unary names unary.Not place t = refl
typed_unary names unary.Pre place t = refl

pub broken_unary : (names : Names) (op : Unary) (place : Place) (t : Term) →
    first_broken (faults_in names (term.Unary op place t)) ≡ either (first_broken (faults_in names t)) (first_broken (mismatch (needed_alone op) (type_in names t) (first_place t)))
unfolding hidden-the_row-Term-0 hidden
broken_unary names unary.Minus place t = first_broken-append (faults_in names t) (mismatch (needed_alone unary.Minus) (type_in names t) (first_place t))
broken_unary names unary.Not place t = first_broken-append (faults_in names t) (mismatch (needed_alone unary.Not) (type_in names t) (first_place t))
broken_unary names unary.Pre place t = sym (either-none (first_broken (faults_in names t)))

pub typed_binary : (names : Names) (op : Binary) (place : Place) (t u : Term) → type_in names (term.Binary op place t u) ≡ type_of_binary op (type_in names t)
unfolding hidden-the_row-Term-0 hidden
typed_binary names op place t u = refl

pub first_of_binary : (op : Binary) (place : Place) (t u : Term) → first_place (term.Binary op place t u) ≡ earlier (first_place t) place
unfolding hidden-the_row-Term-0 hidden
first_of_binary op place t u = refl

-- four parts that follow each other
four : (a b c d : List Refusal) → first_broken (a ++ (b ++ (c ++ d))) ≡ either (first_broken a) (either (first_broken b) (either (first_broken c) (first_broken d)))
four a b c d = rw (first_broken-append a (b ++ (c ++ d)), first_broken-append b (c ++ d), first_broken-append c d) refl

pub broken_binary : (names : Names) (op : Binary) (place : Place) (t u : Term) →
    first_broken (faults_in names (term.Binary op place t u)) ≡ either (first_broken (faults_in names t)) (either (first_broken (faults_in names u))
    (either (first_broken (mismatch (needed_first op) (type_in names t) (first_place t))) (first_broken (mismatch (needed_second op (type_in names t)) (type_in names u) (first_place u)))))
unfolding hidden-the_row-Term-0 hidden
broken_binary names op place t u = four (faults_in names t) (faults_in names u) (mismatch (needed_first op) (type_in names t) (first_place t)) (mismatch (needed_second op (type_in names t)) (type_in names u) (first_place u))

pub typed_choice : (names : Names) (place : Place) (t u v : Term) → type_in names (term.Choice place t u v) ≡ type_in names u
unfolding hidden-the_row-Term-0 hidden
typed_choice names place t u v = refl

five : (a b c d e : List Refusal) → first_broken (a ++ (b ++ (c ++ (d ++ e)))) ≡ either (first_broken a) (either (first_broken b) (either (first_broken c) (either (first_broken d) (first_broken e))))
five a b c d e = first_broken-append a (b ++ (c ++ (d ++ e))) ∙ ap (either (first_broken a)) (four b c d e)

pub broken_choice : (names : Names) (place : Place) (t u v : Term) →
    first_broken (faults_in names (term.Choice place t u v)) ≡ either (first_broken (faults_in names t)) (either (first_broken (faults_in names u)) (either (first_broken (faults_in names v))
    (either (first_broken (mismatch (Some Boolean) (type_in names t) (first_place t))) (first_broken (mismatch (type_in names u) (type_in names v) (first_place v))))))
unfolding hidden-the_row-Term-0 hidden
broken_choice names place t u v =
    five (faults_in names t) (faults_in names u) (faults_in names v) (mismatch (Some Boolean) (type_in names t) (first_place t)) (mismatch (type_in names u) (type_in names v) (first_place v))

-- ---- arguments as a list

pub mismatches_of_items : (names : Names) (vs : List Var) {n : _} (row : Row_of-Term n) → argument_mismatches names vs row ≡ mismatches_in names vs (items-the_row-Term n row)
mismatches_of_items names [] end_of-Term = refl
mismatches_of_items names [] (more_of-Term t rest) = refl
mismatches_of_items names (v ∷ vs) end_of-Term = refl
mismatches_of_items names (v ∷ vs) (more_of-Term t rest) = ap (λ (z : List Refusal). mismatch (Some v.ty) (type_in names t) (first_place t) ++ z) (mismatches_of_items names vs rest)

pub faults_of_items : (names : Names) {n : _} (row : Row_of-Term n) → faults_in_all names row ≡ faults_among names (items-the_row-Term n row)
faults_of_items names end_of-Term = refl
faults_of_items names (more_of-Term t rest) = ap (λ (z : List Refusal). faults_in names t ++ z) (faults_of_items names rest)

pub arguments_of_items : {n : _} (row : Row_of-Term n) → arguments_in row ≡ length (items-the_row-Term n row)
arguments_of_items end_of-Term = refl
arguments_of_items (more_of-Term t rest) = ap suc (arguments_of_items rest)

-- what a call breaks beside its arguments, by its node
broken_as : (names : Names) (path : Path) (node : Option NodeDef) {n : _} (row : Row_of-Term n) →
    first_broken (call_faults names path node row) ≡ first_of_call (path_place path) node (length (items-the_row-Term n row)) (first_broken (mismatches_in names (inputs_of node) (items-the_row-Term n row)))
broken_as names path None row = refl
broken_as names path (Some d) {n = n} row =
    first_broken-append (arity (length d.inputs) (arguments_in row) (path_place path)) (argument_mismatches names d.inputs row ++ arity 1 (length d.outputs) (path_place path))
    ∙ ap (either (first_broken (arity (length d.inputs) (arguments_in row) (path_place path)))) (first_broken-append (argument_mismatches names d.inputs row) (arity 1 (length d.outputs) (path_place path)))
    ∙ rw (arguments_of_items row, mismatches_of_items names d.inputs row) refl

pub broken_call : (names : Names) (path : Path) (ts : List Term) →
    first_broken (faults_in names (term.Call path ts)) ≡ either (first_of_call (path_place path) (node_of names path) (length ts) (first_broken (mismatches_in names (inputs_of (node_of names path)) ts))) (first_broken (faults_among names ts))
broken_call names path ts =
    first_broken-append (call_faults names path (node_of names path) (hidden-the_row-Term-1 ts)) (faults_in_all names (hidden-the_row-Term-1 ts))
    ∙ rw (broken_as names path (node_of names path) (hidden-the_row-Term-1 ts), faults_of_items names (hidden-the_row-Term-1 ts), items_hidden-the_row-Term-1 ts) refl

-- ---- arguments one by one

mismatches_first : (names : Names) (vs : List Var) (t : Term) (ts : List Term) →
    first_broken (mismatches_in names vs (t ∷ ts)) ≡ either (first_mismatch vs (type_in names t) (first_place t)) (first_broken (mismatches_in names (drop 1 vs) ts))
mismatches_first names [] t ts = refl
mismatches_first names (v ∷ vs) t ts = first_broken-append (mismatch (Some v.ty) (type_in names t) (first_place t)) (mismatches_in names vs ts)

-- an item and those behind it
split : (ts : List Term) (i : ℕ) (t : Term) → i < length ts → t ≡ get_or ts i t → (t ∷ drop (i + 1) ts) ≡ drop i ts
split ts i t h at = ap (λ (z : Term). z ∷ drop (i + 1) ts) at ∙ rw add-one (sym (drop-cons ts i t h))

pub mismatches_more : (names : Names) (vs : List Var) (ts : List Term) (i : ℕ) (t : Term) (so_far all : Option Refusal) → i < length ts → t ≡ get_or ts i t →
    either so_far (first_broken (mismatches_in names vs (drop i ts))) ≡ all →
    either (either so_far (first_mismatch vs (type_in names t) (first_place t))) (first_broken (mismatches_in names (drop 1 vs) (drop (i + 1) ts))) ≡ all
mismatches_more names vs ts i t so_far all h at e =
    either-assoc so_far (first_mismatch vs (type_in names t) (first_place t)) (first_broken (mismatches_in names (drop 1 vs) (drop (i + 1) ts)))
    ∙ ap (either so_far) (sym (mismatches_first names vs t (drop (i + 1) ts)))
    ∙ ap (λ (z : List Term). either so_far (first_broken (mismatches_in names vs z))) (split ts i t h at)
    ∙ e

pub faults_more : (names : Names) (ts : List Term) (i : ℕ) (t : Term) (so_far all : Option Refusal) → i < length ts → t ≡ get_or ts i t →
    either so_far (first_broken (faults_among names (drop i ts))) ≡ all →
    either (either so_far (first_broken (faults_in names t))) (first_broken (faults_among names (drop (i + 1) ts))) ≡ all
faults_more names ts i t so_far all h at e =
    either-assoc so_far (first_broken (faults_in names t)) (first_broken (faults_among names (drop (i + 1) ts)))
    ∙ ap (either so_far) (sym (first_broken-append (faults_in names t) (faults_among names (drop (i + 1) ts))))
    ∙ ap (λ (z : List Term). either so_far (first_broken (faults_among names z))) (split ts i t h at)
    ∙ e

mismatches_of_none : (names : Names) (vs : List Var) → mismatches_in names vs [] ≡ []
mismatches_of_none names [] = refl
mismatches_of_none names (v ∷ vs) = refl

pub mismatches_end : (names : Names) (vs : List Var) (ts : List Term) (i : ℕ) (so_far all : Option Refusal) → length ts ≤ i →
    either so_far (first_broken (mismatches_in names vs (drop i ts))) ≡ all → so_far ≡ all
mismatches_end names vs ts i so_far all h e =
    sym (either-none so_far) ∙ ap (λ (z : List Refusal). either so_far (first_broken z)) (sym (mismatches_of_none names vs))
    ∙ ap (λ (z : List Term). either so_far (first_broken (mismatches_in names vs z))) (sym (drop_all i ts h)) ∙ e
