-- Which expressions are constant, and what the values of these are.
use Rattle.std.specs.Prelude.{◌≡◌, ℕ, Bool, true, false, ◌||◌, List, Option, Some, None, slice_index_or, All}
use Rattle.ag_terms.specs.declared.terms.Binary.TheVariants as binary
use Rattle.ag_terms.specs.declared.terms.Term.{Term, Number, Truth, Named, Unary', Binary', Choice', Call', end_of-Term, more_of-Term}
use Rattle.ag_terms.specs.declared.terms.Unary.TheVariants as unary
use Rattle.ag_symbols.specs.Seen.{Names, sought, is_stream, constant_position}
use Rattle.ag_linear.specs.declared.value.Value.{Value}
use Rattle.ag_linear.specs.declared.value.Value.TheVariants as value
use Rattle.ag_linear.specs.Values.{carried, is_within, value_of_unary, value_of_binary, value_of_choice}

-- ---- what is constant, by the text alone

-- an expression names a stream, or holds a call, a `pre` or an arrow: then it is no constant
abbrev pub is_varying : Names → Term → Bool
is_varying names (Number value place) = false
is_varying names (Truth value place) = false
is_varying names (Named path) = is_stream names.streams (sought path path.«package»)
is_varying names (Unary' unary.Pre place _ arg) = true
is_varying names (Unary' op place _ (more_of-Term t end_of-Term)) = is_varying names t
is_varying names (Binary' binary.Arrow place _ left _ right) = true
is_varying names (Binary' op place _ (more_of-Term left end_of-Term) _ (more_of-Term right end_of-Term)) = is_varying names left || is_varying names right
is_varying names (Choice' place _ (more_of-Term test end_of-Term) _ (more_of-Term chosen end_of-Term) _ (more_of-Term other end_of-Term)) =
    is_varying names test || (is_varying names chosen || is_varying names other)
is_varying names (Call' path _ args) = true

-- ---- values; an expression has none where an operand that it takes has none, or one of the wrong kind, or a number of more than 128 bits

-- a value keeps the limit of constants, and all of these do
abbrev pub is_kept : Option Value → Bool
is_kept (Some (value.Whole z)) = is_within z
is_kept v = true

abbrev pub AreKept : List (Option Value) → Type 0
AreKept values = All (λ v. is_kept v ≡ true) values

-- the value at a position
abbrev pub value_at : List (Option Value) → Option ℕ → Option Value
value_at values None = None
value_at values (Some at) = slice_index_or values at None

-- the exact value by the operands' values; the constants that are seen have these values
abbrev pub exact_value : Names → List (Option Value) → Term → Option Value
exact_value names values (Number z place) = Some (value.Whole z)
exact_value names values (Truth b place) = Some (value.Truth b)
exact_value names values (Named path) = value_at values (constant_position names (sought path path.«package»))
exact_value names values (Unary' op place _ (more_of-Term t end_of-Term)) = value_of_unary op (carried (exact_value names values t))
exact_value names values (Binary' op place _ (more_of-Term left end_of-Term) _ (more_of-Term right end_of-Term)) =
    value_of_binary op (carried (exact_value names values left)) (carried (exact_value names values right))
exact_value names values (Choice' place _ (more_of-Term test end_of-Term) _ (more_of-Term chosen end_of-Term) _ (more_of-Term other end_of-Term)) =
    value_of_choice (carried (exact_value names values test)) (carried (exact_value names values chosen)) (carried (exact_value names values other))
exact_value names values (Call' path _ args) = None

-- the value that an expression has as an operand
abbrev pub value_in : Names → List (Option Value) → Term → Option Value
value_in names values t = carried (exact_value names values t)
