-- What is known of an expression of the rules on numbers, and how it follows from what is known of its operands.
use Rattle.std.specs.Prelude.{ℕ, ℤ, negsuc, Bool, true, false, not, ◌&&◌, ◌||◌, List, [], ◌∷◌, ◌++◌, Option, Some, None, if◌then◌else◌}
use Rattle.ag_base.specs.declared.place.Place.{Place}
use Rattle.ag_base.specs.declared.place.Refusal.{Refusal}
use Rattle.ag_base.specs.declared.place.Rule.TheVariants.{NotLinear, BadDivisor}
use Rattle.ag_terms.specs.declared.clauses.NodeDef.{NodeDef}
use Rattle.ag_terms.specs.declared.clauses.Ty.{Ty}
use Rattle.ag_terms.specs.declared.clauses.Ty.TheVariants.{Int, Bool as Boolean}
use Rattle.ag_terms.specs.declared.terms.Binary.{Binary}
use Rattle.ag_terms.specs.declared.terms.Binary.TheVariants as binary
use Rattle.ag_terms.specs.declared.terms.Term.{Term, Named}
use Rattle.ag_terms.specs.declared.terms.Unary.{Unary}
use Rattle.ag_terms.specs.declared.terms.Unary.TheVariants as unary
use Rattle.ag_terms.specs.declared.names.Path.{Path}
use Rattle.ag_symbols.specs.Seen.{Names, sought, value_of, is_stream, constant_position}
use Rattle.ag_linear.specs.declared.rows.Kept.{Kept}
use Rattle.ag_linear.specs.declared.value.Value.{Value}
use Rattle.ag_linear.specs.declared.value.Value.TheVariants as value
use Rattle.ag_linear.specs.Values.{carried, value_of_unary, value_of_binary, value_of_choice}
use Rattle.ag_linear.specs.Rows.{passes_limits, Linear, carried_row, plus, minus, hidden_row, stream_row}
use Rattle.ag_types.specs.declared.numbered.Faults.{Faults}
use Rattle.ag_types.specs.declared.numbered.Head.{Head}
use Rattle.ag_types.specs.declared.numbered.Numbered.{Numbered}
use Rattle.ag_types.specs.Constants.{is_varying, value_at, value_in}
use Rattle.ag_types.specs.Firsts.{either, type_of_unary}
use Rattle.ag_types.specs.NumberFaults.{coefficient, passed_value, passed_row, compared_rows, is_bad_divisor, divides, equation_row, constant_faults_in, formula_faults}
use Rattle.ag_types.specs.Places.{first_place, first_broken, path_place, earlier}
use Rattle.ag_types.specs.Rows.{both, scaled, row_of_hidden, row_of_value, row_of_stream, whole_stream, row_in}
use Rattle.ag_types.specs.Types.{type_in, type_of_var, type_of_call, type_of_binary}

-- all that is known of an expression
abbrev pub known : Names → List (Option Value) → Term → Numbered
known names values t = record {
  ty = type_in names t;
  varies = is_varying names t;
  first = first_place t;
  value = value_in names values t;
  row = row_in names values t;
  of_constant = first_broken (constant_faults_in names values t);
  broken = first_broken (formula_faults names values t);
}

-- ---- an expression by what it is alone, its row, and what its parts break

-- an exact row, held against the limits
abbrev pub held : Option Linear → Kept
held r = record { row = carried_row r; passes = passes_limits r }

abbrev pub is_whole : Option Ty → Bool
is_whole (Some Int) = true
is_whole _ = false

abbrev pub row_as : Head → Kept → Option Linear
row_as head exact = if head.varies then exact.row else row_of_value head.value

abbrev pub broken_as : Head → Kept → Faults → Option Refusal
broken_as head exact faults =
    if not head.varies && is_whole head.ty then faults.of_constant
    else either (first_broken (coefficient (head.varies && exact.passes) head.first)) faults.of_parts

abbrev pub closed : Head → Kept → Faults → Numbered
closed head exact faults = record {
  ty = head.ty;
  varies = head.varies;
  first = head.first;
  value = head.value;
  row = row_as head exact;
  of_constant = faults.of_constant;
  broken = broken_as head exact faults;
}

-- ---- rows

-- the integer stream that an expression names
abbrev pub named_stream : Names → Term → Option ℕ
named_stream names (Named path) = whole_stream names (sought path path.«package»)
named_stream names t = None

abbrev pub row_before : Option ℕ → Option Ty → Option Linear
row_before None ty = row_of_hidden ty
row_before (Some stream) ty = Some (stream_row stream true)

abbrev pub exact_of_unary : Unary → Option ℕ → Numbered → Option Linear
exact_of_unary unary.Minus stream arg = scaled (Some (value.Whole (negsuc 0))) arg.row
exact_of_unary unary.Not stream arg = None
exact_of_unary unary.Pre stream arg = row_before stream arg.ty

abbrev pub exact_of_product : Numbered → Numbered → Option Linear
exact_of_product left right =
    if not left.varies then scaled left.value right.row else (if not right.varies then scaled right.value left.row else None)

abbrev pub exact_of_binary : Binary → Numbered → Numbered → Option Linear
exact_of_binary binary.Plus left right = both plus left.row right.row
exact_of_binary binary.Minus left right = both minus left.row right.row
exact_of_binary binary.Times left right = exact_of_product left right
exact_of_binary binary.Div left right = Some hidden_row
exact_of_binary binary.Mod left right = Some hidden_row
exact_of_binary binary.Arrow left right = row_of_hidden left.ty
exact_of_binary _ left right = None

-- ---- what operands break

abbrev pub own_equation : Numbered → List Refusal
own_equation n = passed_row n.row n.first

abbrev pub pre_of : Unary → Numbered → List Refusal
pre_of unary.Pre arg = own_equation arg
pre_of _ arg = []

abbrev pub product_of : Binary → Place → Numbered → Numbered → List Refusal
product_of binary.Times place left right = if left.varies && right.varies then record { place = place; rule = NotLinear } ∷ [] else []
product_of _ place left right = []

abbrev pub divisor_of : Binary → Numbered → List Refusal
divisor_of op divisor = if divides op && is_bad_divisor divisor.varies divisor.value then record { place = divisor.first; rule = BadDivisor } ∷ [] else []

abbrev pub compared_of : Binary → Numbered → Numbered → List Refusal
compared_of op left right = passed_row (compared_rows op left.row right.row) left.first

abbrev pub operands_of : Binary → Numbered → Numbered → List Refusal
operands_of binary.Arrow left right = own_equation left ++ own_equation right
operands_of binary.Div left right = own_equation left
operands_of binary.Mod left right = own_equation left
operands_of _ left right = []

-- ---- expressions by their operands

abbrev pub varies_alone : Unary → Bool → Bool
varies_alone unary.Pre arg = true
varies_alone _ arg = arg

abbrev pub varies_between : Binary → Bool → Bool → Bool
varies_between binary.Arrow left right = true
varies_between _ left right = left || right

abbrev pub unary_head : Unary → Place → Numbered → Head
unary_head op place arg = record { ty = type_of_unary op arg.ty; varies = varies_alone op arg.varies; first = place; value = carried (value_of_unary op arg.value) }

abbrev pub unary_breaks : Unary → Place → Numbered → Faults
unary_breaks op place arg = record {
  of_constant = either (first_broken (passed_value (value_of_unary op arg.value) place)) arg.of_constant;
  of_parts = either (first_broken (pre_of op arg)) arg.broken;
}

abbrev pub unary_by : Unary → Place → Option ℕ → Numbered → Numbered
unary_by op place stream arg = closed (unary_head op place arg) (held (exact_of_unary op stream arg)) (unary_breaks op place arg)

abbrev pub binary_head : Binary → Place → Numbered → Numbered → Head
binary_head op place left right = record {
  ty = type_of_binary op left.ty;
  varies = varies_between op left.varies right.varies;
  first = earlier left.first place;
  value = carried (value_of_binary op left.value right.value);
}

abbrev pub binary_breaks : Binary → Place → Numbered → Numbered → Faults
binary_breaks op place left right = record {
  of_constant = either (first_broken (passed_value (value_of_binary op left.value right.value) (earlier left.first place)))
      (either (first_broken (divisor_of op right)) (either left.of_constant right.of_constant));
  of_parts = either (first_broken (product_of op place left right)) (either (first_broken (divisor_of op right))
      (either (first_broken (compared_of op left right)) (either (first_broken (operands_of op left right)) (either left.broken right.broken))));
}

abbrev pub binary_by : Binary → Place → Numbered → Numbered → Numbered
binary_by op place left right = closed (binary_head op place left right) (held (exact_of_binary op left right)) (binary_breaks op place left right)

abbrev pub choice_head : Place → Numbered → Numbered → Numbered → Head
choice_head place test chosen other = record {
  ty = chosen.ty;
  varies = test.varies || (chosen.varies || other.varies);
  first = place;
  value = value_of_choice test.value chosen.value other.value;
}

-- of a choice whose own value breaks this
abbrev pub choice_breaks : Option Refusal → Numbered → Numbered → Numbered → Faults
choice_breaks own test chosen other = record {
  of_constant = either own (either test.of_constant (either chosen.of_constant other.of_constant));
  of_parts = either (first_broken (own_equation chosen)) (either (first_broken (own_equation other)) (either test.broken (either chosen.broken other.broken)));
}

abbrev pub choice_fault : Place → Numbered → Numbered → Numbered → Option Refusal
choice_fault place test chosen other = first_broken (passed_value (value_of_choice test.value chosen.value other.value) place)

abbrev pub choice_by : Place → Numbered → Numbered → Numbered → Numbered
choice_by place test chosen other =
    closed (choice_head place test chosen other) (held (row_of_hidden chosen.ty)) (choice_breaks (choice_fault place test chosen other) test chosen other)

abbrev pub unbroken : Faults
unbroken = record { of_constant = None; of_parts = None }

abbrev pub number_by : ℤ → Place → Numbered
number_by z place = closed (record { ty = Some Int; varies = false; first = place; value = carried (Some (value.Whole z)) }) (held None)
    (record { of_constant = first_broken (passed_value (Some (value.Whole z)) place); of_parts = None })

abbrev pub truth_by : Bool → Place → Numbered
truth_by b place = closed (record { ty = Some Boolean; varies = false; first = place; value = Some (value.Truth b) }) (held None) unbroken

abbrev pub named_head : Names → List (Option Value) → Path → Head
named_head names values path = record {
  ty = type_of_var (value_of names path);
  varies = is_stream names.streams (sought path path.«package»);
  first = path_place path;
  value = value_at values (constant_position names (sought path path.«package»));
}

abbrev pub named_by : Names → List (Option Value) → Path → Numbered
named_by names values path = closed (named_head names values path) (held (row_of_stream false (whole_stream names (sought path path.«package»)))) unbroken

abbrev pub call_by : Option NodeDef → Path → Faults → Numbered
call_by node path arguments =
    closed (record { ty = type_of_call node; varies = true; first = path_place path; value = None }) (held (row_of_hidden (type_of_call node))) arguments

-- ---- arguments in a list

abbrev pub constants_among : Names → List (Option Value) → List Term → List Refusal
constants_among names values [] = []
constants_among names values (t ∷ ts) = constant_faults_in names values t ++ constants_among names values ts

abbrev pub parts_among : Names → List (Option Value) → List Term → List Refusal
parts_among names values [] = []
parts_among names values (t ∷ ts) = equation_row names values t ++ (formula_faults names values t ++ parts_among names values ts)

abbrev pub breaks_among : Names → List (Option Value) → List Term → Faults
breaks_among names values ts = record { of_constant = first_broken (constants_among names values ts); of_parts = first_broken (parts_among names values ts) }

-- what was broken so far, and what one more argument breaks
abbrev pub with_argument : Faults → Numbered → Faults
with_argument faults n = record { of_constant = either faults.of_constant n.of_constant; of_parts = either faults.of_parts (either (first_broken (own_equation n)) n.broken) }
