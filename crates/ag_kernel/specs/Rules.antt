-- What each rule asks of the lines that it names, and the line that it makes.
use Rattle.std.specs.Prelude.{◌≡◌, ℕ, ℤ, ◌<◌, pos, ◌+ℤ◌, ◌-ℤ◌, ◌*ℤ◌, ◌≤ℤ◌, ◌<ℤ◌, neg_ℤ, Bool, true, false, ◌&&◌, ◌||◌, ◌++◌, ◌∷◌, List, [], length, map, All, Option, Some, None, IsTrue, IsSome, IsNone, is_none, unwrap_or, slice_index_or, FitsSigned, if◌then◌else◌}
use Rattle.std.specs.Option.{option_map, ForSome}
use Rattle.std.specs.List.{flat_map}
use Rattle.std.specs.Int.{w128}
use Rattle.std.specs.Int.RustNames.{int_rem}
use Rattle.ag_query.specs.declared.rows.LRow.{LRow}
use Rattle.ag_query.specs.declared.rows.LTerm.{LTerm}
use Rattle.ag_query.specs.declared.rows.Atom.{Atom}
use Rattle.ag_query.specs.declared.rows.Atom.TheVariants.{Free, Bound}
use Rattle.ag_query.specs.declared.clauses.Lit.{Lit}
use Rattle.ag_query.specs.declared.clauses.LClause.{LClause}
use Rattle.ag_query.specs.Meaning.{contrary}
use Rattle.ag_kernel.specs.declared.line.Line.{Line}
use Rattle.ag_kernel.specs.State.{State, with_line}
use Rattle.ag_kernel.specs.Sets.{has, joined, without}
use Rattle.ag_kernel.specs.Sums.{IsSumOf, kept}
use Rattle.ag_kernel.specs.Units.{comes_to_conflict}

-- the line is new, and has this number
abbrev pub Adds : State → State → ℕ → Line → Type 0
Adds old new n line = (n ≡ length old.lines) × (new ≡ with_line old line)

-- a clause of the query as a line
abbrev pub clause_line : LClause → Line
clause_line clause = record { lits = clause.lits; row = None }

-- the line of a number
abbrev pub line_at : List Line → ℕ → Line
line_at lines n = slice_index_or lines n (record { lits = []; row = None })

-- each number of the row fits 128 bits
abbrev pub FitsRow : LRow → Type 0
FitsRow row = All (λ t. FitsSigned w128 t.factor) row.terms × FitsSigned w128 row.bound

-- ---- a literal and its row

abbrev pub row_of : Atom → Option LRow
row_of Free = None
row_of (Bound row) = Some row

abbrev pub row_at : List Atom → ℕ → Option LRow
row_at atoms n = row_of (slice_index_or atoms n Free)

-- the term with the other sign
abbrev pub negated : LTerm → LTerm
negated t = record { var = t.var; factor = neg_ℤ t.factor }

-- what holds exactly where the row doesn't
abbrev pub opposite : LRow → LRow
opposite row = record { terms = map negated row.terms; bound = neg_ℤ row.bound -ℤ pos 1 }

-- the row that a literal says of its atom's row
abbrev pub row_said : Lit → LRow → LRow
row_said l row = if l.holds then row else opposite row

-- the contrary of the literal, or its row
abbrev pub unfolded : List Atom → Lit → Line
unfolded atoms l = record { lits = contrary l ∷ []; row = option_map (row_said l) (row_at atoms l.atom) }

-- where the row is turned, its numbers fit
abbrev pub FitsUnfolded : List Atom → Lit → Type 0
FitsUnfolded atoms l = ForSome (row_at atoms l.atom) (λ row. l.holds ≡ false → FitsRow (opposite row))

-- ---- a new atom

-- the next atom holds, or it doesn't
abbrev pub case_line : State → Line
case_line s = record { lits = record { atom = length s.atoms; holds = true } ∷ record { atom = length s.atoms; holds = false } ∷ []; row = None }

-- an atom for the row, and the line that it holds or doesn't
abbrev pub with_case : State → LRow → State
with_case s row = record { query = s.query; atoms = s.atoms ++ Bound row ∷ []; lines = s.lines ++ case_line s ∷ [] }

-- ---- two lines, joined at an atom

abbrev pub yes : ℕ → Lit
yes atom = record { atom = atom; holds = true }

abbrev pub no : ℕ → Lit
no atom = record { atom = atom; holds = false }

-- the first line has the atom's literal that holds, and the second its contrary
abbrev pub splits : ℕ → Line → Line → Bool
splits atom a b = has a.lits (yes atom) && has b.lits (no atom)

-- the lines split at the atom, either way round, and one of them has no row
abbrev pub can_resolve : ℕ → Line → Line → Bool
can_resolve atom a b = (splits atom a b || splits atom b a) && (is_none a.row || is_none b.row)

abbrev pub either_row : Option LRow → Option LRow → Option LRow
either_row None row = row
either_row (Some row) other = Some row

-- what the lines have besides the literal of the one and its contrary of the other
abbrev pub resolvent : ℕ → Line → Line → Line
resolvent atom a b = record {
  lits = joined (joined [] (without a.lits (yes atom))) (without b.lits (no atom));
  row = either_row a.row b.row;
}

abbrev pub resolved : ℕ → Line → Line → Line
resolved atom a b = if splits atom a b then resolvent atom a b else resolvent atom b a

-- ---- a clause by unit steps

pub record CanConclude (s : State) (clause : List Lit) (named : List ℕ) : Type 0 where
  pub there : All (λ l. l.atom < length s.atoms) clause
  pub no_rows : All (λ n. IsNone (line_at s.lines n).row) named
  pub conflict : IsTrue (comes_to_conflict clause (map (λ n. (line_at s.lines n).lits) named))

-- ---- the sum of rows by multipliers

-- the row of a line, or one that says nothing
abbrev pub row_in : Line → LRow
row_in line = unwrap_or line.row (record { terms = []; bound = pos 0 })

abbrev pub parts_of : List Line → List (ℕ × ℤ) → List (LRow × ℤ)
parts_of lines named = map (λ p. (row_in (line_at lines p.0), p.1)) named

-- each named line has a row, and no multiplier is negative
abbrev pub CanCombine : State → List (ℕ × ℤ) → Type 0
CanCombine s named = All (λ p. IsSome (line_at s.lines p.0).row × (pos 0 ≤ℤ p.1)) named

-- the literals of the lines, and the sum of their rows
pub record IsCombined (s : State) (named : List (ℕ × ℤ)) (line : Line) : Type 0 where
  pub lits : line.lits ≡ joined [] (flat_map (λ p. (line_at s.lines p.0).lits) named)
  pub sum : LRow
  pub is_sum : IsSumOf s.query.vars (parts_of s.lines named) sum
  pub row : line.row ≡ kept sum

-- ---- a row divided

-- the line has a row, and the divisor is positive and divides each factor
pub record CanDivide (line : Line) (by : ℤ) : Type 0 where
  pub row : IsSome line.row
  pub positive : pos 1 ≤ℤ by
  pub divides : All (λ t. int_rem t.factor by ≡ pos 0) (row_in line).terms

abbrev pub times : ℤ → LTerm → LTerm
times by t = record { var = t.var; factor = by *ℤ t.factor }

-- the terms times the divisor are the row's, and the bound is the greatest that times the divisor is at most the row's
pub record IsQuotient (by : ℤ) (row quotient : LRow) : Type 0 where
  pub terms : map (times by) quotient.terms ≡ row.terms
  pub below : (by *ℤ quotient.bound) ≤ℤ row.bound
  pub above : row.bound <ℤ (by *ℤ quotient.bound +ℤ by)

pub record IsDivided (by : ℤ) (line new : Line) : Type 0 where
  pub lits : new.lits ≡ line.lits
  pub quotient : LRow
  pub is_quotient : IsQuotient by (row_in line) quotient
  pub row : new.row ≡ Some quotient
