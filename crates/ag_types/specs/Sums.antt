-- The row of an integer expression that is a sum of streams.
use Rattle.std.specs.Prelude.{◌≡◌, ◌≤◌, ◌^◌, ℕ, zero, suc, Bool, true, false, not, ◌&&◌, ◌||◌, List, [], ◌++◌, map, length, Option, Some}
use Rattle.std.specs.List.{filter}
use Rattle.ag_base.specs.declared.place.Refusal.{Refusal}
use Rattle.ag_stream.specs.declared.problem.Instant.{Instant}
use Rattle.ag_stream.specs.declared.problem.Row.{Row}
use Rattle.ag_stream.specs.Forms.{IsRow}
use Rattle.ag_stream.specs.Runs.{magnitude}
use Rattle.ag_stream.specs.Values.{Moment, nothing, row_value}
use Rattle.ag_terms.specs.declared.clauses.Ty.TheVariants.{Int, Bool as Boolean}
use Rattle.ag_terms.specs.declared.clauses.Var.{Var}
use Rattle.ag_terms.specs.declared.terms.Binary.{Binary}
use Rattle.ag_terms.specs.declared.terms.Binary.TheVariants as binary
use Rattle.ag_terms.specs.declared.terms.Term.{Term, Number, Truth, Named, Unary', Binary', Choice', Call', end_of-Term, more_of-Term}
use Rattle.ag_terms.specs.declared.terms.Unary.TheVariants as unary
use Rattle.ag_symbols.specs.Seen.{Seen, Names, names_seen, sought, is_stream}
use Rattle.ag_linear.specs.declared.value.Value.{Value}
use Rattle.ag_types.specs.Constants.{is_varying}
use Rattle.ag_types.specs.Meaning.{Reading, Run, stream_of, is_true, worth}
use Rattle.ag_types.specs.NumberFaults.{formula_faults}
use Rattle.ag_types.specs.Places.{first_place, first_broken}
use Rattle.ag_types.specs.Types.{type_in, faults_in, mismatch}
use Rattle.ag_types.specs.Uses.{AreValues}

-- operators of sums: of those on integers all but quotient and remainder
abbrev pub adds : Binary → Bool
adds binary.Arrow = false
adds binary.Div = false
adds binary.Mod = false
adds binary.Implies = true
adds binary.Iff = true
adds binary.Or = true
adds binary.And = true
adds binary.Less = true
adds binary.AtMost = true
adds binary.More = true
adds binary.AtLeast = true
adds binary.Same = true
adds binary.Differs = true
adds binary.Plus = true
adds binary.Minus = true
adds binary.Times = true

abbrev pub is_named_stream : Names → Term → Bool
is_named_stream names (Named path) = is_stream names.streams (sought path path.«package»)
is_named_stream names t = false

-- where an expression isn't constant, it has no `if`, arrow, quotient, remainder or call, and `pre` of a stream alone
abbrev pub is_sum : Names → Term → Bool
is_sum names (Number z place) = true
is_sum names (Truth b place) = true
is_sum names (Named path) = true
is_sum names (Unary' unary.Pre place _ (more_of-Term t end_of-Term)) = is_named_stream names t
is_sum names (Unary' op place _ (more_of-Term t end_of-Term)) = is_sum names t
is_sum names (Binary' op place m (more_of-Term left end_of-Term) n (more_of-Term right end_of-Term)) =
    not (is_varying names (Binary' op place m (more_of-Term left end_of-Term) n (more_of-Term right end_of-Term))) || (adds op && (is_sum names left && is_sum names right))
is_sum names (Choice' place l test m chosen n other) = not (is_varying names (Choice' place l test m chosen n other))
is_sum names (Call' path _ args) = false

abbrev pub is_whole : Var → Bool
is_whole v = elim v.ty [ Int ↦ true | Boolean ↦ false ]

-- the integer streams, by whose positions a row's streams are numbered
abbrev pub whole_streams : Names → List Var
whole_streams names = filter is_whole names.streams

-- the values of streams at an instant of a run: of the integer ones, and of the Boolean ones, in order
abbrev pub instant_of : Reading → Run → ℕ → Instant
instant_of r run at = record {
  whole = map (λ v. run at (stream_of r v.name.text)) (whole_streams r.names);
  flags = map (λ v. is_true (run at (stream_of r v.name.text))) (filter (λ v. not (is_whole v)) r.names.streams);
}

abbrev pub moment_of : Reading → Run → ℕ → Moment
moment_of r run zero = record { first = true; before = nothing; now = instant_of r run zero }
moment_of r run (suc before) = record { first = false; before = instant_of r run before; now = instant_of r run (suc before) }

-- all that an expression breaks that is to have a row
abbrev pub sum_faults : Names → List (Option Value) → Term → List Refusal
sum_faults names values t = faults_in names t ++ (mismatch (Some Int) (type_in names t) (first_place t) ++ formula_faults names values t)

-- an expression that isn't constant has a row in order and within the limits of rows; the row of a constant is a number within the limit of constants
abbrev pub IsWithinLimits : Bool → ℕ → Row → Type 0
IsWithinLimits true ints row = IsRow ints row
IsWithinLimits false ints row = (row.terms ≡ []) × (magnitude row.constant ≤ 2 ^ 62)

-- the row of an expression in a scope: it breaks no rule, its row is in order and within its limits, and in every run, wherever the scope's
-- clauses stand, that is worth what the expression is worth
pub record IsRowOf (s : Seen) (t : Term) (row : Row) : Type 0 where
  pub values : List (Option Value)
  pub valued : AreValues s values
  pub sound : sum_faults (names_seen s) values t ≡ []
  pub formed : IsWithinLimits (is_varying (names_seen s) t) (length (whole_streams (names_seen s))) row
  pub worth_of : (r : Reading) → r.names ≡ names_seen s → r.values ≡ values → (run : Run) (at : ℕ) → row_value (moment_of r run at) row ≡ worth r run t at

-- or the first rule that it breaks
pub record IsNoRow (s : Seen) (t : Term) (r : Refusal) : Type 0 where
  pub values : List (Option Value)
  pub valued : AreValues s values
  pub broken : first_broken (sum_faults (names_seen s) values t) ≡ Some r
