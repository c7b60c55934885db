-- Rows of linear terms: what they add up to, and which of them are in order.
use Rattle.std.specs.Prelude.{◌≢◌, ℕ, ◌<◌, ℤ, pos, ◌+ℤ◌, ◌*ℤ◌, Bool, List, [], ◌∷◌, All, sum_by, unsigned_abs}
use Rattle.std.specs.Int.RustNames.{int_le}
use Rattle.std.specs.List.{AllPairs}
use Rattle.ag_query.specs.declared.rows.LTerm.{LTerm}
use Rattle.ag_query.specs.declared.rows.LRow.{LRow}

-- the sum of the terms, where each variable has the whole number that x gives it
abbrev pub sum_of : (ℕ → ℤ) → List LTerm → ℤ
sum_of x [] = pos 0
sum_of x (t ∷ ts) = t.factor *ℤ x t.var +ℤ sum_of x ts

-- a row holds where its sum is at most its bound
abbrev pub row_holds : (ℕ → ℤ) → LRow → Bool
row_holds x row = int_le (sum_of x row.terms) row.bound

-- the variables rise and are among the first so many, and no factor is 0
pub record AreInOrder (vars : ℕ) (terms : List LTerm) : Type 0 where
  pub rise : AllPairs (λ s t. s.var < t.var) terms
  pub there : All (λ t. t.var < vars) terms
  pub nonzero : All (λ t. t.factor ≢ pos 0) terms

-- what the magnitudes of the factors add up to
abbrev pub magnitude : List LTerm → ℕ
magnitude terms = sum_by (λ t. unsigned_abs t.factor) terms
