-- What constant expressions are worth in every run: their values.
use Rattle.std.proofs.Common.{◌≡◌, ℕ, zero, suc, ℤ, pos, Bool, true, false, not, List, refl, ap, sym, subst, ◌∙◌, neg_ℤ}
use Rattle.std.specs.Prelude.{unsigned_abs, ◌==◌, Option, Some, None, if◌then◌else◌}
use Rattle.std.specs.Int.{int_div_euclid, int_rem_euclid}
use Rattle.ag_terms.specs.declared.terms.Binary.{Binary}
use Rattle.ag_terms.specs.declared.terms.Binary.TheVariants as binary
use Rattle.ag_terms.specs.declared.terms.Term.{Term, Number, Truth, Named, Unary', Binary', Choice', Call', end_of-Term, more_of-Term}
use Rattle.ag_terms.specs.declared.terms.Unary.TheVariants as unary
use Rattle.ag_symbols.specs.Seen.{sought, position, var_name, is_stream, constant_position}
use Rattle.ag_linear.specs.declared.value.Value.{Value}
use Rattle.ag_linear.specs.declared.value.Value.TheVariants as value
use Rattle.ag_linear.specs.Values.{is_carried, carried, value_of_unary, value_of_wholes, value_of_truths, value_of_binary, value_of_choice, same_truth}
use Rattle.ag_types.specs.Constants.{value_at, exact_value, value_in}
use Rattle.ag_types.specs.Meaning.{Reading, Run, stream_of, truth, is_true, number, equal, worth_of_name, worth_of_binary, worth}

-- if there is a value, it is this number
abbrev pub Agrees : Option Value → ℤ → Type 0
Agrees None z = Unit {0}
Agrees (Some v) z = number (Some v) ≡ z

agrees_itself : (o : Option Value) → Agrees o (number o)
agrees_itself None = tt
agrees_itself (Some v) = refl

carried_if : (b : Bool) (v : Value) (z : ℤ) → Agrees (Some v) z → Agrees (if b then Some v else None) z
carried_if true v z h = h
carried_if false v z h = tt

pub carried_agrees : (o : Option Value) (z : ℤ) → Agrees o z → Agrees (carried o) z
carried_agrees None z h = tt
carried_agrees (Some (value.Whole a)) z h = carried_if (is_carried a) (value.Whole a) z h
carried_agrees (Some (value.Truth b)) z h = h

-- ---- names

named_agrees : (b : Bool) (values : List (Option Value)) (at : Option ℕ) (z : ℤ) →
    Agrees (value_at values (if b then None else at)) (if b then z else number (value_at values (if b then None else at)))
named_agrees true values at z = tt
named_agrees false values at z = agrees_itself (value_at values at)

name_agrees : (r : Reading) (run : Run) (name : Option (List ℕ)) (at : ℕ) → Agrees (value_at r.values (constant_position r.names name)) (worth_of_name r run name at)
name_agrees r run None at = tt
name_agrees r run (Some name) at = named_agrees (is_stream r.names.streams (Some name)) r.values (position var_name (Some name) r.names.constants) (run at (stream_of r name))

-- ---- operators

true_of_truth : (b : Bool) → is_true (truth b) ≡ b
true_of_truth true = refl
true_of_truth false = refl

equal_truths : (a b : Bool) → equal (truth a) (truth b) ≡ same_truth a b
equal_truths true true = refl
equal_truths true false = refl
equal_truths false true = refl
equal_truths false false = refl

minus_agrees : (o : Option Value) (z : ℤ) → Agrees o z → Agrees (value_of_unary unary.Minus o) (neg_ℤ z)
minus_agrees None z h = tt
minus_agrees (Some (value.Whole a)) z h = ap neg_ℤ h
minus_agrees (Some (value.Truth b)) z h = tt

not_agrees : (o : Option Value) (z : ℤ) → Agrees o z → Agrees (value_of_unary unary.Not o) (truth (not (is_true z)))
not_agrees None z h = tt
not_agrees (Some (value.Whole a)) z h = tt
not_agrees (Some (value.Truth b)) z h = ap (λ (c : Bool). truth (not c)) (sym (true_of_truth b)) ∙ ap (λ (c : ℤ). truth (not (is_true c))) h

pre_agrees : (o : Option Value) (z : ℤ) → Agrees (value_of_unary unary.Pre o) z
pre_agrees None z = tt
pre_agrees (Some (value.Whole a)) z = tt
pre_agrees (Some (value.Truth b)) z = tt

divided_agrees : (f : ℤ → ℤ → ℤ) (a b : ℤ) (t : Bool) → Agrees (if t then None else Some (value.Whole (f a b))) (f a b)
divided_agrees f a b true = tt
divided_agrees f a b false = refl

wholes_agree : (op : Binary) (a b : ℤ) → Agrees (value_of_wholes op a b) (worth_of_binary op a b)
wholes_agree binary.Arrow a b = tt
wholes_agree binary.Implies a b = tt
wholes_agree binary.Iff a b = tt
wholes_agree binary.Or a b = tt
wholes_agree binary.And a b = tt
wholes_agree binary.Less a b = refl
wholes_agree binary.AtMost a b = refl
wholes_agree binary.More a b = refl
wholes_agree binary.AtLeast a b = refl
wholes_agree binary.Same a b = refl
wholes_agree binary.Differs a b = refl
wholes_agree binary.Plus a b = refl
wholes_agree binary.Minus a b = refl
wholes_agree binary.Times a b = refl
wholes_agree binary.Div a b = divided_agrees int_div_euclid a b (unsigned_abs b == 0)
wholes_agree binary.Mod a b = divided_agrees int_rem_euclid a b (unsigned_abs b == 0)

truths_agree : (op : Binary) (a b : Bool) → Agrees (value_of_truths op a b) (worth_of_binary op (truth a) (truth b))
truths_agree binary.Arrow a b = tt
truths_agree binary.Implies a b = rw (true_of_truth a, true_of_truth b) refl
truths_agree binary.Iff a b = rw (equal_truths a b) refl
truths_agree binary.Or a b = rw (true_of_truth a, true_of_truth b) refl
truths_agree binary.And a b = rw (true_of_truth a, true_of_truth b) refl
truths_agree binary.Less a b = tt
truths_agree binary.AtMost a b = tt
truths_agree binary.More a b = tt
truths_agree binary.AtLeast a b = tt
truths_agree binary.Same a b = rw (equal_truths a b) refl
truths_agree binary.Differs a b = rw (equal_truths a b) refl
truths_agree binary.Plus a b = tt
truths_agree binary.Minus a b = tt
truths_agree binary.Times a b = tt
truths_agree binary.Div a b = tt
truths_agree binary.Mod a b = tt

of_both : (o : Option Value) (op : Binary) (x y a b : ℤ) → x ≡ a → y ≡ b → Agrees o (worth_of_binary op x y) → Agrees o (worth_of_binary op a b)
of_both o op x y a b e f h = subst (λ (c : ℤ). Agrees o (worth_of_binary op a c)) f (subst (λ (c : ℤ). Agrees o (worth_of_binary op c y)) e h)

binary_agrees : (op : Binary) (o p : Option Value) (a b : ℤ) → Agrees o a → Agrees p b → Agrees (value_of_binary op o p) (worth_of_binary op a b)
binary_agrees op None p a b h i = tt
binary_agrees op (Some (value.Whole x)) None a b h i = tt
binary_agrees op (Some (value.Whole x)) (Some (value.Whole y)) a b h i = of_both (value_of_wholes op x y) op x y a b h i (wholes_agree op x y)
binary_agrees op (Some (value.Whole x)) (Some (value.Truth y)) a b h i = tt
binary_agrees op (Some (value.Truth x)) None a b h i = tt
binary_agrees op (Some (value.Truth x)) (Some (value.Whole y)) a b h i = tt
binary_agrees op (Some (value.Truth x)) (Some (value.Truth y)) a b h i = of_both (value_of_truths op x y) op (truth x) (truth y) a b h i (truths_agree op x y)

arrow_agrees : (o p : Option Value) (z : ℤ) → Agrees (value_of_binary binary.Arrow o p) z
arrow_agrees None p z = tt
arrow_agrees (Some (value.Whole x)) None z = tt
arrow_agrees (Some (value.Whole x)) (Some (value.Whole y)) z = tt
arrow_agrees (Some (value.Whole x)) (Some (value.Truth y)) z = tt
arrow_agrees (Some (value.Truth x)) None z = tt
arrow_agrees (Some (value.Truth x)) (Some (value.Whole y)) z = tt
arrow_agrees (Some (value.Truth x)) (Some (value.Truth y)) z = tt

taken_agrees : (b : Bool) (p q : Option Value) (a c : ℤ) → Agrees p a → Agrees q c → Agrees (value_of_choice (Some (value.Truth b)) p q) (if b then a else c)
taken_agrees true p q a c i j = i
taken_agrees false p q a c i j = j

choice_agrees : (o p q : Option Value) (t a c : ℤ) → Agrees o t → Agrees p a → Agrees q c → Agrees (value_of_choice o p q) (if is_true t then a else c)
choice_agrees None p q t a c h i j = tt
choice_agrees (Some (value.Whole x)) p q t a c h i j = tt
choice_agrees (Some (value.Truth b)) p q t a c h i j =
    let same : is_true t ≡ b = sym (ap is_true h) ∙ true_of_truth b in
    subst (λ (d : Bool). Agrees (value_of_choice (Some (value.Truth b)) p q) (if d then a else c)) (sym same) (taken_agrees b p q a c i j)

-- ---- expressions

operands_agree : (r : Reading) (run : Run) (op : Binary) (left right : Term) (at : ℕ) → Agrees (exact_value r.names r.values left) (worth r run left at) →
    Agrees (exact_value r.names r.values right) (worth r run right at) →
    Agrees (value_of_binary op (carried (exact_value r.names r.values left)) (carried (exact_value r.names r.values right))) (worth_of_binary op (worth r run left at) (worth r run right at))
operands_agree r run op left right at h i =
    binary_agrees op (carried (exact_value r.names r.values left)) (carried (exact_value r.names r.values right)) (worth r run left at) (worth r run right at)
    (carried_agrees (exact_value r.names r.values left) (worth r run left at) h) (carried_agrees (exact_value r.names r.values right) (worth r run right at) i)

pub exact_agrees : (r : Reading) (run : Run) (t : Term) (at : ℕ) → Agrees (exact_value r.names r.values t) (worth r run t at)
exact_agrees r run (Number z place) at = refl
exact_agrees r run (Truth b place) at = refl
exact_agrees r run (Named path) at = name_agrees r run (sought path path.«package») at
exact_agrees r run (Unary' unary.Minus place _ (more_of-Term t end_of-Term)) at =
    minus_agrees (carried (exact_value r.names r.values t)) (worth r run t at) (carried_agrees (exact_value r.names r.values t) (worth r run t at) (exact_agrees r run t at))
exact_agrees r run (Unary' unary.Not place _ (more_of-Term t end_of-Term)) at =
    not_agrees (carried (exact_value r.names r.values t)) (worth r run t at) (carried_agrees (exact_value r.names r.values t) (worth r run t at) (exact_agrees r run t at))
exact_agrees r run (Unary' unary.Pre place _ (more_of-Term t end_of-Term)) zero = pre_agrees (carried (exact_value r.names r.values t)) (pos 0)
exact_agrees r run (Unary' unary.Pre place _ (more_of-Term t end_of-Term)) (suc before) = pre_agrees (carried (exact_value r.names r.values t)) (worth r run t before)
exact_agrees r run (Binary' binary.Arrow place _ (more_of-Term left end_of-Term) _ (more_of-Term right end_of-Term)) zero =
    arrow_agrees (carried (exact_value r.names r.values left)) (carried (exact_value r.names r.values right)) (worth r run left zero)
exact_agrees r run (Binary' binary.Arrow place _ (more_of-Term left end_of-Term) _ (more_of-Term right end_of-Term)) (suc before) =
    arrow_agrees (carried (exact_value r.names r.values left)) (carried (exact_value r.names r.values right)) (worth r run right (suc before))
exact_agrees r run (Binary' binary.Implies place _ (more_of-Term left end_of-Term) _ (more_of-Term right end_of-Term)) at =
    operands_agree r run binary.Implies left right at (exact_agrees r run left at) (exact_agrees r run right at)
exact_agrees r run (Binary' binary.Iff place _ (more_of-Term left end_of-Term) _ (more_of-Term right end_of-Term)) at =
    operands_agree r run binary.Iff left right at (exact_agrees r run left at) (exact_agrees r run right at)
exact_agrees r run (Binary' binary.Or place _ (more_of-Term left end_of-Term) _ (more_of-Term right end_of-Term)) at =
    operands_agree r run binary.Or left right at (exact_agrees r run left at) (exact_agrees r run right at)
exact_agrees r run (Binary' binary.And place _ (more_of-Term left end_of-Term) _ (more_of-Term right end_of-Term)) at =
    operands_agree r run binary.And left right at (exact_agrees r run left at) (exact_agrees r run right at)
exact_agrees r run (Binary' binary.Less place _ (more_of-Term left end_of-Term) _ (more_of-Term right end_of-Term)) at =
    operands_agree r run binary.Less left right at (exact_agrees r run left at) (exact_agrees r run right at)
exact_agrees r run (Binary' binary.AtMost place _ (more_of-Term left end_of-Term) _ (more_of-Term right end_of-Term)) at =
    operands_agree r run binary.AtMost left right at (exact_agrees r run left at) (exact_agrees r run right at)
exact_agrees r run (Binary' binary.More place _ (more_of-Term left end_of-Term) _ (more_of-Term right end_of-Term)) at =
    operands_agree r run binary.More left right at (exact_agrees r run left at) (exact_agrees r run right at)
exact_agrees r run (Binary' binary.AtLeast place _ (more_of-Term left end_of-Term) _ (more_of-Term right end_of-Term)) at =
    operands_agree r run binary.AtLeast left right at (exact_agrees r run left at) (exact_agrees r run right at)
exact_agrees r run (Binary' binary.Same place _ (more_of-Term left end_of-Term) _ (more_of-Term right end_of-Term)) at =
    operands_agree r run binary.Same left right at (exact_agrees r run left at) (exact_agrees r run right at)
exact_agrees r run (Binary' binary.Differs place _ (more_of-Term left end_of-Term) _ (more_of-Term right end_of-Term)) at =
    operands_agree r run binary.Differs left right at (exact_agrees r run left at) (exact_agrees r run right at)
exact_agrees r run (Binary' binary.Plus place _ (more_of-Term left end_of-Term) _ (more_of-Term right end_of-Term)) at =
    operands_agree r run binary.Plus left right at (exact_agrees r run left at) (exact_agrees r run right at)
exact_agrees r run (Binary' binary.Minus place _ (more_of-Term left end_of-Term) _ (more_of-Term right end_of-Term)) at =
    operands_agree r run binary.Minus left right at (exact_agrees r run left at) (exact_agrees r run right at)
exact_agrees r run (Binary' binary.Times place _ (more_of-Term left end_of-Term) _ (more_of-Term right end_of-Term)) at =
    operands_agree r run binary.Times left right at (exact_agrees r run left at) (exact_agrees r run right at)
exact_agrees r run (Binary' binary.Div place _ (more_of-Term left end_of-Term) _ (more_of-Term right end_of-Term)) at =
    operands_agree r run binary.Div left right at (exact_agrees r run left at) (exact_agrees r run right at)
exact_agrees r run (Binary' binary.Mod place _ (more_of-Term left end_of-Term) _ (more_of-Term right end_of-Term)) at =
    operands_agree r run binary.Mod left right at (exact_agrees r run left at) (exact_agrees r run right at)
exact_agrees r run (Choice' place _ (more_of-Term test end_of-Term) _ (more_of-Term chosen end_of-Term) _ (more_of-Term other end_of-Term)) at =
    choice_agrees (carried (exact_value r.names r.values test)) (carried (exact_value r.names r.values chosen)) (carried (exact_value r.names r.values other))
    (worth r run test at) (worth r run chosen at) (worth r run other at)
    (carried_agrees (exact_value r.names r.values test) (worth r run test at) (exact_agrees r run test at))
    (carried_agrees (exact_value r.names r.values chosen) (worth r run chosen at) (exact_agrees r run chosen at))
    (carried_agrees (exact_value r.names r.values other) (worth r run other at) (exact_agrees r run other at))
exact_agrees r run (Call' path _ args) at = tt

pub operand_agrees : (r : Reading) (run : Run) (t : Term) (at : ℕ) → Agrees (value_in r.names r.values t) (worth r run t at)
operand_agrees r run t at = carried_agrees (exact_value r.names r.values t) (worth r run t at) (exact_agrees r run t at)
