-- What is known of an expression of the rules on numbers, by its operands.
use denote.Hole.Carrier.{hidden}
use Rattle.std.proofs.Common.{◌≡◌, ℕ, ℤ, ltb, ◌+◌, Bool, true, false, not, ◌&&◌, ◌||◌, List, [], ◌∷◌, ◌++◌, length, drop, get_or, ◌<◌, refl, inl, inr, ap, sym, ◌∙◌, add-one, drop-cons}
use Rattle.std.specs.Prelude.{Option, Some, None, if◌then◌else◌}
use Rattle.std.proofs.lemmas.Bool.{cases_Bool, ltb-true, ltb-false}
use Rattle.std.proofs.lemmas.List.{get_or_past}
use Rattle.ag_base.specs.declared.place.Place.{Place}
use Rattle.ag_base.specs.declared.place.Refusal.{Refusal}
use Rattle.ag_terms.specs.declared.names.Path.{Path}
use Rattle.ag_terms.specs.declared.clauses.Ty.{Ty}
use Rattle.ag_terms.specs.declared.clauses.Ty.TheVariants.{Int, Bool as Boolean}
use Rattle.ag_terms.specs.declared.terms.Binary.{Binary}
use Rattle.ag_terms.specs.declared.terms.Binary.TheVariants as binary
use Rattle.ag_terms.specs.declared.terms.Unary.{Unary}
use Rattle.ag_terms.specs.declared.terms.Unary.TheVariants as unary
use Rattle.ag_terms.specs.declared.terms.Term.{Term, Named, Row_of-Term, end_of-Term, more_of-Term, items-the_row-Term, items_hidden-the_row-Term-1}
use Rattle.ag_terms.specs.declared.terms.Term.TheBlock.{hidden-the_row-Term-0, hidden-the_row-Term-1}
use Rattle.ag_terms.specs.declared.terms.Term.TheViews as term
use Rattle.ag_symbols.specs.Seen.{Names, node_of, sought, constant_position}
use Rattle.ag_linear.specs.declared.value.Value.{Value}
use Rattle.ag_linear.specs.declared.value.Value.TheVariants as value
use Rattle.ag_linear.specs.Values.{is_carried, carried, value_of_unary, value_of_binary, value_of_choice}
use Rattle.ag_linear.specs.Rows.{passes_limits, Linear, stream_row}
use Rattle.ag_types.specs.declared.numbered.Faults.{Faults}
use Rattle.ag_types.specs.declared.numbered.Head.{Head}
use Rattle.ag_types.specs.declared.numbered.Numbered.{Numbered}
use Rattle.ag_types.specs.Constants.{is_varying, value_at, exact_value, value_in, AreKept}
use Rattle.ag_types.specs.Firsts.{either}
use Rattle.ag_types.specs.NumberFaults.{coefficient, passed_value, bad_divisor, constant_faults_in, constant_faults_in_all, equation_row, product, operand_rows, formula_faults, parts_faults, parts_faults_all, side_faults}
use Rattle.ag_types.specs.Numbered.{known, held, is_whole, closed, named_stream, row_before, exact_of_unary, exact_of_binary, own_equation, product_of, compared_of, operands_of, varies_between, unary_head, unary_breaks, unary_by, binary_head, binary_breaks, binary_by, choice_head, choice_breaks, choice_fault, choice_by, named_by, call_by, constants_among, parts_among, breaks_among}
use Rattle.ag_types.specs.Places.{first_place, first_broken, path_place, earlier}
use Rattle.ag_types.specs.Rows.{row_of_hidden, row_of_pre, exact_row, whole_stream}
use Rattle.ag_types.specs.Types.{type_in, type_of_binary}
use Rattle.ag_types.proofs.Breaking.{either-assoc, first_broken-append}
use Rattle.ag_types.proofs.TypedOperators.{kept_is_carried}

-- ---- values of 128 bits

carried_whole : (z : ℤ) (b : Bool) → is_carried z ≡ b → carried (carried (Some (value.Whole z))) ≡ carried (Some (value.Whole z))
carried_whole z true e = rw e (rw e refl)
carried_whole z false e = rw e refl

carried_twice : (v : Option Value) → carried (carried v) ≡ carried v
carried_twice None = refl
carried_twice (Some (value.Whole z)) = carried_whole z (is_carried z) refl
carried_twice (Some (value.Truth b)) = refl

carried_choice : (test chosen other : Option Value) → carried chosen ≡ chosen → carried other ≡ other → carried (value_of_choice test chosen other) ≡ value_of_choice test chosen other
carried_choice None chosen other e f = refl
carried_choice (Some (value.Whole z)) chosen other e f = refl
carried_choice (Some (value.Truth true)) chosen other e f = e
carried_choice (Some (value.Truth false)) chosen other e f = f

-- ---- an expression that is closed

broken_joined : (varies : Bool) (ty : Option Ty) (passes : Bool) (place : Place) (cs ps : List Refusal) →
    first_broken (if not varies && (elim ty [ Some Int ↦ true | _ ↦ false ]) then cs else (if varies then coefficient passes place else []) ++ ps)
    ≡ (if not varies && is_whole ty then first_broken cs else either (first_broken (coefficient (varies && passes) place)) (first_broken ps))
broken_joined true ty passes place cs ps = first_broken-append (coefficient passes place) ps
broken_joined false None passes place cs ps = refl
broken_joined false (Some Int) passes place cs ps = refl
broken_joined false (Some Boolean) passes place cs ps = refl

abbrev head_in : Names → List (Option Value) → Term → Head
head_in names values t = record { ty = type_in names t; varies = is_varying names t; first = first_place t; value = value_in names values t }

abbrev breaks_in : Names → List (Option Value) → Term → Faults
breaks_in names values t = record { of_constant = first_broken (constant_faults_in names values t); of_parts = first_broken (parts_faults names values t) }

with_broken : (n : Numbered) (b : Option Refusal) → n.broken ≡ b → n ≡ record n { broken = b }
with_broken n b e = ap (λ (z : Option Refusal). record n { broken = z }) e

known_closed : (names : Names) (values : List (Option Value)) (t : Term) → known names values t ≡ closed (head_in names values t) (held (exact_row names values t)) (breaks_in names values t)
known_closed names values t =
    with_broken (known names values t) _ (broken_joined (is_varying names t) (type_in names t) (passes_limits (exact_row names values t)) (first_place t) (constant_faults_in names values t) (parts_faults names values t))

-- the same parts make the same expression
closed_with : (h g : Head) (r s : Option Linear) (f i : Faults) → h ≡ g → r ≡ s → f ≡ i → closed h (held r) f ≡ closed g (held s) i
closed_with h g r s f i d e j = cc

abbrev both_faults : Option Refusal → Option Refusal → Faults
both_faults a b = record { of_constant = a; of_parts = b }

faults_by : (a b c d : Option Refusal) → a ≡ c → b ≡ d → both_faults a b ≡ both_faults c d
faults_by a b c d e f = cc

-- ---- one operand

before_is : (o : Option ℕ) (ty : Option Ty) → (elim o [ None ↦ row_of_hidden ty | Some stream ↦ Some (stream_row stream true) ]) ≡ row_before o ty
before_is None ty = refl
before_is (Some stream) ty = refl

pre_is : (names : Names) (t : Term) → row_of_pre names t ≡ row_before (named_stream names t) (type_in names t)
pre_is names (Named path) = before_is (whole_stream names (sought path path.«package»)) (type_in names (Named path))
pre_is names t = refl

constant_unary : (names : Names) (values : List (Option Value)) (op : Unary) (place : Place) (t : Term) →
    first_broken (constant_faults_in names values (term.Unary op place t)) ≡ (unary_breaks op place (known names values t)).of_constant
unfolding hidden-the_row-Term-0 hidden
constant_unary names values op place t = first_broken-append (passed_value (value_of_unary op (value_in names values t)) place) (constant_faults_in names values t)

parts_unary : (names : Names) (values : List (Option Value)) (op : Unary) (place : Place) (t : Term) →
    first_broken (parts_faults names values (term.Unary op place t)) ≡ (unary_breaks op place (known names values t)).of_parts
unfolding hidden-the_row-Term-0 hidden
parts_unary names values unary.Minus place t = refl
parts_unary names values unary.Not place t = refl
parts_unary names values unary.Pre place t = first_broken-append (equation_row names values t) (formula_faults names values t)

row_unary : (names : Names) (values : List (Option Value)) (op : Unary) (place : Place) (t : Term) →
    exact_row names values (term.Unary op place t) ≡ exact_of_unary op (named_stream names t) (known names values t)
unfolding hidden-the_row-Term-0 hidden
row_unary names values unary.Minus place t = refl
row_unary names values unary.Not place t = refl
row_unary names values unary.Pre place t = pre_is names t

head_unary : (names : Names) (values : List (Option Value)) (op : Unary) (place : Place) (t : Term) → head_in names values (term.Unary op place t) ≡ unary_head op place (known names values t)
unfolding hidden-the_row-Term-0 hidden
head_unary names values unary.Minus place t = refl
head_unary names values unary.Not place t = refl
head_unary names values unary.Pre place t = refl

pub known_unary : (names : Names) (values : List (Option Value)) (op : Unary) (place : Place) (t : Term) →
    known names values (term.Unary op place t) ≡ unary_by op place (named_stream names t) (known names values t)
known_unary names values op place t =
    let whole = term.Unary op place t in
    let given = known names values t in
    known_closed names values whole
    ∙ closed_with (head_in names values whole) (unary_head op place given) (exact_row names values whole) (exact_of_unary op (named_stream names t) given) (breaks_in names values whole) (unary_breaks op place given)
    (head_unary names values op place t) (row_unary names values op place t)
    (faults_by (first_broken (constant_faults_in names values whole)) (first_broken (parts_faults names values whole)) (unary_breaks op place given).of_constant (unary_breaks op place given).of_parts
    (constant_unary names values op place t) (parts_unary names values op place t))

-- ---- two operands

pub three : (a b c : List Refusal) → first_broken (a ++ (b ++ c)) ≡ either (first_broken a) (either (first_broken b) (first_broken c))
three a b c = rw (first_broken-append a (b ++ c), first_broken-append b c) refl

four : (a b c d : List Refusal) → first_broken (a ++ (b ++ (c ++ d))) ≡ either (first_broken a) (either (first_broken b) (either (first_broken c) (first_broken d)))
four a b c d = rw (first_broken-append a (b ++ (c ++ d)), first_broken-append b (c ++ d), first_broken-append c d) refl

five : (a b c d e : List Refusal) → first_broken (a ++ (b ++ (c ++ (d ++ e)))) ≡ either (first_broken a) (either (first_broken b) (either (first_broken c) (either (first_broken d) (first_broken e))))
five a b c d e = first_broken-append a (b ++ (c ++ (d ++ e))) ∙ ap (either (first_broken a)) (four b c d e)

six : (a b c d e f : List Refusal) →
    first_broken (a ++ (b ++ (c ++ (d ++ (e ++ f))))) ≡ either (first_broken a) (either (first_broken b) (either (first_broken c) (either (first_broken d) (either (first_broken e) (first_broken f)))))
six a b c d e f = first_broken-append a (b ++ (c ++ (d ++ (e ++ f)))) ∙ ap (either (first_broken a)) (five b c d e f)

varies_binary : (names : Names) (op : Binary) (place : Place) (t u : Term) → is_varying names (term.Binary op place t u) ≡ varies_between op (is_varying names t) (is_varying names u)
unfolding hidden-the_row-Term-0 hidden
varies_binary names binary.Arrow place t u = refl
varies_binary names _ place t u = refl

head_binary : (names : Names) (values : List (Option Value)) (op : Binary) (place : Place) (t u : Term) →
    head_in names values (term.Binary op place t u) ≡ binary_head op place (known names values t) (known names values u)
unfolding hidden-the_row-Term-0 hidden
head_binary names values op place t u =
    ap (λ (b : Bool). record { ty = type_of_binary op (type_in names t); varies = b; first = earlier (first_place t) place; value = carried (value_of_binary op (value_in names values t) (value_in names values u)) })
    (varies_binary names op place t u)

row_binary : (names : Names) (values : List (Option Value)) (op : Binary) (place : Place) (t u : Term) →
    exact_row names values (term.Binary op place t u) ≡ exact_of_binary op (known names values t) (known names values u)
unfolding hidden-the_row-Term-0 hidden
row_binary names values binary.Plus place t u = refl
row_binary names values binary.Minus place t u = refl
row_binary names values binary.Times place t u = refl
row_binary names values binary.Div place t u = refl
row_binary names values binary.Mod place t u = refl
row_binary names values binary.Arrow place t u = refl
row_binary names values _ place t u = refl

product_is : (names : Names) (values : List (Option Value)) (op : Binary) (place : Place) (t u : Term) → product names op place t u ≡ product_of op place (known names values t) (known names values u)
product_is names values binary.Times place t u = refl
product_is names values _ place t u = refl

operands_are : (names : Names) (values : List (Option Value)) (op : Binary) (t u : Term) → operand_rows names values op t u ≡ operands_of op (known names values t) (known names values u)
operands_are names values binary.Arrow t u = refl
operands_are names values binary.Div t u = refl
operands_are names values binary.Mod t u = refl
operands_are names values _ t u = refl

with_product : (a b c d e a' d' : Option Refusal) → a ≡ a' → d ≡ d' → either a (either b (either c (either d e))) ≡ either a' (either b (either c (either d' e)))
with_product a b c d e a' d' f g = cc

constant_binary : (names : Names) (values : List (Option Value)) (op : Binary) (place : Place) (t u : Term) →
    first_broken (constant_faults_in names values (term.Binary op place t u)) ≡ (binary_breaks op place (known names values t) (known names values u)).of_constant
unfolding hidden-the_row-Term-0 hidden
constant_binary names values op place t u =
    four (passed_value (value_of_binary op (value_in names values t) (value_in names values u)) (earlier (first_place t) place)) (bad_divisor names values op u) (constant_faults_in names values t) (constant_faults_in names values u)

parts_binary : (names : Names) (values : List (Option Value)) (op : Binary) (place : Place) (t u : Term) →
    first_broken (parts_faults names values (term.Binary op place t u)) ≡ (binary_breaks op place (known names values t) (known names values u)).of_parts
unfolding hidden-the_row-Term-0 hidden
parts_binary names values op place t u =
    let given = known names values t in
    let other = known names values u in
    six (product names op place t u) (bad_divisor names values op u) (compared_of op given other) (operand_rows names values op t u) (formula_faults names values t) (formula_faults names values u)
    ∙ with_product (first_broken (product names op place t u)) (first_broken (bad_divisor names values op u)) (first_broken (compared_of op given other)) (first_broken (operand_rows names values op t u)) (either given.broken other.broken)
    (first_broken (product_of op place given other)) (first_broken (operands_of op given other)) (ap first_broken (product_is names values op place t u)) (ap first_broken (operands_are names values op t u))

pub known_binary : (names : Names) (values : List (Option Value)) (op : Binary) (place : Place) (t u : Term) →
    known names values (term.Binary op place t u) ≡ binary_by op place (known names values t) (known names values u)
known_binary names values op place t u =
    let whole = term.Binary op place t u in
    let given = known names values t in
    let other = known names values u in
    known_closed names values whole
    ∙ closed_with (head_in names values whole) (binary_head op place given other) (exact_row names values whole) (exact_of_binary op given other) (breaks_in names values whole) (binary_breaks op place given other)
    (head_binary names values op place t u) (row_binary names values op place t u)
    (faults_by (first_broken (constant_faults_in names values whole)) (first_broken (parts_faults names values whole)) (binary_breaks op place given other).of_constant (binary_breaks op place given other).of_parts
    (constant_binary names values op place t u) (parts_binary names values op place t u))

-- ---- a choice

head_choice : (names : Names) (values : List (Option Value)) (place : Place) (t u v : Term) →
    head_in names values (term.Choice place t u v) ≡ choice_head place (known names values t) (known names values u) (known names values v)
unfolding hidden-the_row-Term-0 hidden
head_choice names values place t u v =
    ap (λ (w : Option Value). record { ty = type_in names u; varies = is_varying names t || (is_varying names u || is_varying names v); first = place; value = w })
    (carried_choice (value_in names values t) (value_in names values u) (value_in names values v) (carried_twice (exact_value names values u)) (carried_twice (exact_value names values v)))

abbrev choice_within : Names → List (Option Value) → Place → Term → Term → Term → Faults
choice_within names values place t u v =
    let test = known names values t in
    let chosen = known names values u in
    let other = known names values v in
    choice_breaks (choice_fault place test chosen other) test chosen other

row_choice : (names : Names) (values : List (Option Value)) (place : Place) (t u v : Term) → exact_row names values (term.Choice place t u v) ≡ row_of_hidden (type_in names u)
unfolding hidden-the_row-Term-0 hidden
row_choice names values place t u v = refl

constant_choice : (names : Names) (values : List (Option Value)) (place : Place) (t u v : Term) →
    first_broken (constant_faults_in names values (term.Choice place t u v)) ≡ (choice_within names values place t u v).of_constant
unfolding hidden-the_row-Term-0 hidden
constant_choice names values place t u v =
    four (passed_value (value_of_choice (value_in names values t) (value_in names values u) (value_in names values v)) place) (constant_faults_in names values t) (constant_faults_in names values u) (constant_faults_in names values v)

parts_choice : (names : Names) (values : List (Option Value)) (place : Place) (t u v : Term) →
    first_broken (parts_faults names values (term.Choice place t u v)) ≡ (choice_within names values place t u v).of_parts
unfolding hidden-the_row-Term-0 hidden
parts_choice names values place t u v = five (equation_row names values u) (equation_row names values v) (formula_faults names values t) (formula_faults names values u) (formula_faults names values v)

pub known_choice : (names : Names) (values : List (Option Value)) (place : Place) (t u v : Term) →
    known names values (term.Choice place t u v) ≡ choice_by place (known names values t) (known names values u) (known names values v)
known_choice names values place t u v =
    let whole = term.Choice place t u v in
    let within = choice_within names values place t u v in
    known_closed names values whole
    ∙ closed_with (head_in names values whole) (choice_head place (known names values t) (known names values u) (known names values v)) (exact_row names values whole) (row_of_hidden (type_in names u)) (breaks_in names values whole) within
    (head_choice names values place t u v) (row_choice names values place t u v)
    (faults_by (first_broken (constant_faults_in names values whole)) (first_broken (parts_faults names values whole)) within.of_constant within.of_parts
    (constant_choice names values place t u v) (parts_choice names values place t u v))

-- ---- names

kept_at : (values : List (Option Value)) (o : Option ℕ) → AreKept values → carried (value_at values o) ≡ value_at values o
kept_at values None all = refl
kept_at values (Some at) all =
    elim (cases_Bool (ltb at (length values))) [
      | inl e ↦ kept_is_carried (get_or values at None) (all at None (ltb-true at (length values) e))
      | inr e ↦ ap carried (get_or_past values at None (ltb-false at (length values) e)) ∙ sym (get_or_past values at None (ltb-false at (length values) e))
    ]

pub known_named : (names : Names) (values : List (Option Value)) (path : Path) → AreKept values → known names values (Named path) ≡ named_by names values path
known_named names values path all =
    known_closed names values (Named path)
    ∙ ap (λ (v : Option Value). closed (record { ty = type_in names (Named path); varies = is_varying names (Named path); first = path_place path; value = v }) (held (exact_row names values (Named path))) (breaks_in names values (Named path)))
    (kept_at values (constant_position names (sought path path.«package»)) all)

-- ---- calls

constants_of_items : (names : Names) (values : List (Option Value)) {n : _} (row : Row_of-Term n) → constant_faults_in_all names values row ≡ constants_among names values (items-the_row-Term n row)
constants_of_items names values end_of-Term = refl
constants_of_items names values (more_of-Term t rest) = ap (λ (z : List Refusal). constant_faults_in names values t ++ z) (constants_of_items names values rest)

parts_of_items : (names : Names) (values : List (Option Value)) {n : _} (row : Row_of-Term n) → parts_faults_all names values row ≡ parts_among names values (items-the_row-Term n row)
parts_of_items names values end_of-Term = refl
parts_of_items names values (more_of-Term t rest) = ap (λ (z : List Refusal). equation_row names values t ++ (formula_faults names values t ++ z)) (parts_of_items names values rest)

pub known_call : (names : Names) (values : List (Option Value)) (path : Path) (ts : List Term) → known names values (term.Call path ts) ≡ call_by (node_of names path) path (breaks_among names values ts)
known_call names values path ts =
    let whole = term.Call path ts in
    let row = hidden-the_row-Term-1 ts in
    known_closed names values whole
    ∙ ap (closed (head_in names values whole) (held (exact_row names values whole)))
    (faults_by (first_broken (constant_faults_in names values whole)) (first_broken (parts_faults names values whole)) (first_broken (constants_among names values ts)) (first_broken (parts_among names values ts))
    (ap first_broken (constants_of_items names values row ∙ ap (constants_among names values) (items_hidden-the_row-Term-1 ts)))
    (ap first_broken (parts_of_items names values row ∙ ap (parts_among names values) (items_hidden-the_row-Term-1 ts))))

-- ---- arguments one by one

split : (ts : List Term) (i : ℕ) (t : Term) → i < length ts → t ≡ get_or ts i t → (t ∷ drop (i + 1) ts) ≡ drop i ts
split ts i t h at = ap (λ (z : Term). z ∷ drop (i + 1) ts) at ∙ rw add-one (sym (drop-cons ts i t h))

pub constants_more : (names : Names) (values : List (Option Value)) (ts : List Term) (i : ℕ) (t : Term) (so_far all : Option Refusal) → i < length ts → t ≡ get_or ts i t →
    either so_far (first_broken (constants_among names values (drop i ts))) ≡ all →
    either (either so_far (first_broken (constant_faults_in names values t))) (first_broken (constants_among names values (drop (i + 1) ts))) ≡ all
constants_more names values ts i t so_far all h at e =
    either-assoc so_far (first_broken (constant_faults_in names values t)) (first_broken (constants_among names values (drop (i + 1) ts)))
    ∙ ap (either so_far) (sym (first_broken-append (constant_faults_in names values t) (constants_among names values (drop (i + 1) ts))))
    ∙ ap (λ (z : List Term). either so_far (first_broken (constants_among names values z))) (split ts i t h at)
    ∙ e

pub parts_more : (names : Names) (values : List (Option Value)) (ts : List Term) (i : ℕ) (t : Term) (so_far all : Option Refusal) → i < length ts → t ≡ get_or ts i t →
    either so_far (first_broken (parts_among names values (drop i ts))) ≡ all →
    either (either so_far (either (first_broken (equation_row names values t)) (first_broken (formula_faults names values t)))) (first_broken (parts_among names values (drop (i + 1) ts))) ≡ all
parts_more names values ts i t so_far all h at e =
    either-assoc so_far (either (first_broken (equation_row names values t)) (first_broken (formula_faults names values t))) (first_broken (parts_among names values (drop (i + 1) ts)))
    ∙ ap (either so_far) (either-assoc (first_broken (equation_row names values t)) (first_broken (formula_faults names values t)) (first_broken (parts_among names values (drop (i + 1) ts)))
    ∙ sym (three (equation_row names values t) (formula_faults names values t) (parts_among names values (drop (i + 1) ts))))
    ∙ ap (λ (z : List Term). either so_far (first_broken (parts_among names values z))) (split ts i t h at)
    ∙ e

-- ---- the right side of an equation

pub side_is : (names : Names) (values : List (Option Value)) (t : Term) →
    either (first_broken (own_equation (known names values t))) (known names values t).broken ≡ first_broken (side_faults names values t)
side_is names values t = sym (first_broken-append (equation_row names values t) (formula_faults names values t))
