-- Lists of line numbers by literal.
use Rattle.std.specs.Prelude.{◌⊎◌, ◌+◌, ◌*◌, ℕ, List, [], Contains, cond, slice_index_or}
use Rattle.ag_query.specs.declared.clauses.Lit.{Lit}

-- the place of a literal's list
abbrev pub slot : Lit → ℕ
slot l = 2 * l.atom + cond l.holds 1 0

-- the numbers that are listed under a literal
abbrev pub listed : List (List ℕ) → Lit → List ℕ
listed lists l = slice_index_or lists (slot l) []

-- what is listed under each literal still is, or is such a line
abbrev pub StaysBut : (ℕ → Type 0) → List (List ℕ) → List (List ℕ) → Type 0
StaysBut P before now = (l : Lit) (n : ℕ) → Contains (listed before l) n → Contains (listed now l) n ⊎ P n

-- nothing is listed that was not before
abbrev pub AddsNone : List (List ℕ) → List (List ℕ) → Type 0
AddsNone before now = (l : Lit) (n : ℕ) → Contains (listed now l) n → Contains (listed before l) n
