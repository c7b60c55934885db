-- The sum of rows by multipliers.
use Rattle.std.specs.Prelude.{◌≡◌, ℕ, ◌<◌, ◌≤◌, ℤ, pos, ◌+ℤ◌, ◌*ℤ◌, Bool, false, true, ◌==◌, ◌&&◌, ◌∷◌, List, [], length, take, All, Option, Some, None, FitsSigned, if◌then◌else◌}
use Rattle.std.specs.Int.{w128, is_negative}
use Rattle.ag_query.specs.declared.rows.LRow.{LRow}
use Rattle.ag_query.specs.declared.rows.LTerm.{LTerm}
use Rattle.ag_query.specs.Rows.{AreInOrder, sum_of}
use Rattle.ag_kernel.specs.declared.line.Line.{Line}
use Rattle.ag_kernel.specs.State.{IsRowIn}

-- what a value of the rows adds up to, by their multipliers
abbrev pub total : (LRow → ℤ) → List (LRow × ℤ) → ℤ
total f [] = pos 0
total f (p ∷ ps) = p.1 *ℤ f p.0 +ℤ total f ps

-- the row is in order, and wherever the variables lie it adds up to what the rows do; so does its bound
pub record IsSumOf (vars : ℕ) (parts : List (LRow × ℤ)) (row : LRow) : Type 0 where
  pub order : AreInOrder vars row.terms
  pub terms : (x : ℕ → ℤ) → sum_of x row.terms ≡ total (λ r. sum_of x r.terms) parts
  pub bound : row.bound ≡ total (λ r. r.bound) parts

-- 1 for this variable and 0 for the others
abbrev pub unit : ℕ → ℕ → ℤ
unit v n = if n == v then pos 1 else pos 0

-- the factor of a variable in a row
abbrev pub factor_of : ℕ → LRow → ℤ
factor_of v row = sum_of (unit v) row.terms

-- the products of a row by a multiplier
pub record FitTimes (row : LRow) (by : ℤ) : Type 0 where
  pub factors : All (λ t. FitsSigned w128 (by *ℤ t.factor)) row.terms
  pub bound : FitsSigned w128 (by *ℤ row.bound)

-- the products fit 128 bits, and so do the sums line by line
pub record AreMade (parts : List (LRow × ℤ)) : Type 0 where
  pub products : All (λ p. FitTimes p.0 p.1) parts
  pub factors : (k v : ℕ) → k ≤ length parts → FitsSigned w128 (total (factor_of v) (take k parts))
  pub bounds : (k : ℕ) → k ≤ length parts → FitsSigned w128 (total (λ r. r.bound) (take k parts))

abbrev pub has_no_terms : List LTerm → Bool
has_no_terms [] = true
has_no_terms (t ∷ ts) = false

-- the row, unless it says that 0 is at most a negative number
abbrev pub kept : LRow → Option LRow
kept row = if has_no_terms row.terms && is_negative row.bound then None else Some row

-- the products of the second terms, and the sums of the factors of a variable, fit
pub record FitTerms (left right : List LTerm) (by : ℤ) : Type 0 where
  pub products : All (λ t. FitsSigned w128 (by *ℤ t.factor)) right
  pub sums : (v : ℕ) → FitsSigned w128 (sum_of (unit v) left +ℤ by *ℤ sum_of (unit v) right)

-- one row more on a sum: its products fit, and so do the sums
pub record FitsAdded (sum row : LRow) (by : ℤ) : Type 0 where
  pub products : FitTimes row by
  pub factors : (v : ℕ) → FitsSigned w128 (factor_of v sum +ℤ by *ℤ factor_of v row)
  pub bound : FitsSigned w128 (sum.bound +ℤ by *ℤ row.bound)

-- the terms up to here are in order and below the rest, which is in order
pub record IsMerging (low vars : ℕ) (sum left : List LTerm) : Type 0 where
  pub order : AreInOrder vars sum
  pub below : All (λ t. t.var < low) sum
  pub rest : AreInOrder vars left
  pub above : All (λ t. low ≤ t.var) left

-- each line's row, if it has one, is in order
abbrev pub AreRowsIn : ℕ → List Line → Type 0
AreRowsIn vars lines = All (λ line. IsRowIn vars line.row) lines
