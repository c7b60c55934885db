-- What the numbered row of a sum can hold, and what the constants of a scope have for values.
use Rattle.std.specs.Prelude.{◌≡◌, ℕ, Bool, true, false, List, [], map, length, take, Option, Some, None, slice_get, slice_index_or}
use Rattle.std.specs.List.{filter}
use Rattle.ag_stream.specs.declared.problem.Row.{Row}
use Rattle.ag_stream.specs.declared.problem.RowTerm.{RowTerm}
use Rattle.ag_terms.specs.declared.clauses.Ty.{Ty}
use Rattle.ag_terms.specs.declared.clauses.Ty.TheVariants.{Int, Bool as Boolean}
use Rattle.ag_terms.specs.declared.clauses.Var.{Var}
use Rattle.ag_terms.specs.declared.terms.Term.{Term}
use Rattle.ag_symbols.specs.Seen.{Names}
use Rattle.ag_linear.specs.declared.value.Factor.{Factor}
use Rattle.ag_linear.specs.declared.value.Value.{Value}
use Rattle.ag_linear.specs.declared.value.Value.TheVariants as value
use Rattle.ag_linear.specs.Values.{is_within}
use Rattle.ag_linear.specs.Rows.{Linear, is_factor, keeps_row}
use Rattle.ag_types.specs.Constants.{is_varying}
use Rattle.ag_types.specs.Rows.{row_in}
use Rattle.ag_types.specs.Sums.{is_whole, sum_faults}

-- an integer stream stands there
pub record IsWholeStream (streams : List Var) (k : ℕ) : Type 0 where
  pub var : Var
  pub found : slice_get streams k ≡ Some var
  pub whole : is_whole var ≡ true

-- a factor of an integer stream that keeps the limit of factors
pub record IsTerm (streams : List Var) (f : Factor) : Type 0 where
  pub stream : IsWholeStream streams f.stream
  pub kept : is_factor f.factor ≡ true

-- there is a value, and it is of this type
abbrev pub IsValueOf : Ty → Option Value → Type 0
IsValueOf Int (Some (value.Whole z)) = Unit {0}
IsValueOf Boolean (Some (value.Truth b)) = Unit {0}
IsValueOf ty o = ⊥

-- each constant has a value of its type
abbrev pub HaveValues : List Var → List (Option Value) → Type 0
HaveValues constants values = (k : ℕ) (v : Var) → slice_get constants k ≡ Some v → IsValueOf v.ty (slice_index_or values k None)

-- the row of what isn't constant keeps the limits of rows; of a constant it is a number that keeps the limit of constants
abbrev pub KeepsLimits : Bool → Linear → Type 0
KeepsLimits true row = keeps_row row ≡ true
KeepsLimits false row = (row.factors ≡ []) × (is_within row.constant ≡ true)

-- an integer sum that breaks no rule, and its row
pub record IsSumRow (names : Names) (values : List (Option Value)) (t : Term) (row : Linear) : Type 0 where
  pub sound : sum_faults names values t ≡ []
  pub found : row_in names values t ≡ Some row
  pub kept : KeepsLimits (is_varying names t) row

-- a position among all streams as one among the integer ones
abbrev pub numbered : Names → Factor → RowTerm
numbered names f = record { stream = length (filter is_whole (take f.stream names.streams)); before = f.before; factor = f.factor }

abbrev pub numbered_row : Names → Linear → Row
numbered_row names r = record { terms = map (numbered names) r.factors; constant = r.constant }
