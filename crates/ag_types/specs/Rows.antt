-- The row of an integer expression: streams times factors, and a constant. There is none where an operand has none, or where a number has
-- more than 128 bits.
use Rattle.std.specs.Prelude.{ℕ, negsuc, Bool, true, false, not, List, slice_get, Option, Some, None, if◌then◌else◌}
use Rattle.ag_terms.specs.declared.clauses.Ty.{Ty}
use Rattle.ag_terms.specs.declared.clauses.Ty.TheVariants.{Int, Bool as Boolean}
use Rattle.ag_terms.specs.declared.clauses.Var.{Var}
use Rattle.ag_terms.specs.declared.terms.Binary.TheVariants as binary
use Rattle.ag_terms.specs.declared.terms.Term.{Term, Number, Truth, Named, Unary', Binary', Choice', Call', end_of-Term, more_of-Term}
use Rattle.ag_terms.specs.declared.terms.Unary.TheVariants as unary
use Rattle.ag_symbols.specs.Seen.{Names, sought, position, var_name}
use Rattle.ag_linear.specs.declared.value.Value.{Value}
use Rattle.ag_linear.specs.declared.value.Value.TheVariants as value
use Rattle.ag_linear.specs.Rows.{Linear, constant_row, hidden_row, stream_row, plus, minus, times, carried_row}
use Rattle.ag_types.specs.Constants.{is_varying, value_in}
use Rattle.ag_types.specs.Types.{type_in}

-- the position of a stream of that name, if it is an integer
abbrev pub whole_at : ℕ → Option Var → Option ℕ
whole_at at None = None
whole_at at (Some v) = elim v.ty [ Int ↦ Some at | Boolean ↦ None ]

abbrev pub whole_of : List Var → Option ℕ → Option ℕ
whole_of streams None = None
whole_of streams (Some at) = whole_at at (slice_get streams at)

abbrev pub whole_stream : Names → Option (List ℕ) → Option ℕ
whole_stream names name = whole_of names.streams (position var_name name names.streams)

abbrev pub row_of_stream : Bool → Option ℕ → Option Linear
row_of_stream before None = None
row_of_stream before (Some stream) = Some (stream_row stream before)

-- what is no sum, where it is an integer
abbrev pub row_of_hidden : Option Ty → Option Linear
row_of_hidden (Some Int) = Some hidden_row
row_of_hidden _ = None

abbrev pub row_of_value : Option Value → Option Linear
row_of_value (Some (value.Whole z)) = Some (constant_row z)
row_of_value _ = None

abbrev pub both : (Linear → Linear → Linear) → Option Linear → Option Linear → Option Linear
both f (Some r) (Some s) = Some (f r s)
both f _ _ = None

abbrev pub scaled : Option Value → Option Linear → Option Linear
scaled (Some (value.Whole c)) (Some r) = Some (times c r)
scaled _ _ = None

-- the row of an expression that isn't constant, and that of a constant's value
abbrev pub row_as_operand : Names → List (Option Value) → Term → Option Linear → Option Linear
row_as_operand names values t exact = if is_varying names t then carried_row exact else row_of_value (value_in names values t)

-- of a product one factor is constant
abbrev pub row_of_product : Names → List (Option Value) → Term → Term → Option Linear → Option Linear → Option Linear
row_of_product names values left right of_left of_right =
    if not (is_varying names left) then scaled (value_in names values left) of_right
    else (if not (is_varying names right) then scaled (value_in names values right) of_left else None)

-- `pre` of a stream is that stream before; of anything else it is a stream of its own
abbrev pub row_of_pre : Names → Term → Option Linear
row_of_pre names (Named path) =
    elim (whole_stream names (sought path path.«package»)) [ None ↦ row_of_hidden (type_in names (Named path)) | Some stream ↦ Some (stream_row stream true) ]
row_of_pre names t = row_of_hidden (type_in names t)

-- the exact row by the operands' rows
abbrev pub exact_row : Names → List (Option Value) → Term → Option Linear
exact_row names values (Number z place) = None
exact_row names values (Truth b place) = None
exact_row names values (Named path) = row_of_stream false (whole_stream names (sought path path.«package»))
exact_row names values (Unary' unary.Minus place _ (more_of-Term t end_of-Term)) =
    scaled (Some (value.Whole (negsuc 0))) (row_as_operand names values t (exact_row names values t))
exact_row names values (Unary' unary.Not place _ arg) = None
exact_row names values (Unary' unary.Pre place _ (more_of-Term t end_of-Term)) = row_of_pre names t
exact_row names values (Binary' binary.Plus place _ (more_of-Term left end_of-Term) _ (more_of-Term right end_of-Term)) =
    both plus (row_as_operand names values left (exact_row names values left)) (row_as_operand names values right (exact_row names values right))
exact_row names values (Binary' binary.Minus place _ (more_of-Term left end_of-Term) _ (more_of-Term right end_of-Term)) =
    both minus (row_as_operand names values left (exact_row names values left)) (row_as_operand names values right (exact_row names values right))
exact_row names values (Binary' binary.Times place _ (more_of-Term left end_of-Term) _ (more_of-Term right end_of-Term)) =
    row_of_product names values left right (row_as_operand names values left (exact_row names values left)) (row_as_operand names values right (exact_row names values right))
exact_row names values (Binary' binary.Div place _ left _ right) = Some hidden_row
exact_row names values (Binary' binary.Mod place _ left _ right) = Some hidden_row
exact_row names values (Binary' binary.Arrow place _ (more_of-Term left end_of-Term) _ right) = row_of_hidden (type_in names left)
exact_row names values (Binary' op place _ left _ right) = None
exact_row names values (Choice' place _ test _ (more_of-Term chosen end_of-Term) _ other) = row_of_hidden (type_in names chosen)
exact_row names values (Call' path m args) = row_of_hidden (type_in names (Call' path m args))

-- the row that an expression has as an operand
abbrev pub row_in : Names → List (Option Value) → Term → Option Linear
row_in names values t = row_as_operand names values t (exact_row names values t)
