-- What a theory answers of the rows that literals say.
use Rattle.std.specs.Prelude.{◌≡◌, ℕ, ◌<◌, ℤ, pos, Bool, List, length, take, All, IsTrue, IsNone, Contains, slice_index_or}
use Rattle.std.specs.Option.{ForSome}
use Rattle.ag_query.specs.declared.rows.Atom.{Atom}
use Rattle.ag_query.specs.declared.clauses.Lit.{Lit}
use Rattle.ag_query.specs.Rows.{row_holds}
use Rattle.ag_query.specs.Meaning.{contrary}
use Rattle.ag_kernel.specs.declared.theory.Found.{Found}
use Rattle.ag_kernel.specs.declared.theory.Found.TheVariants.{Model, Line, Leaf}
use Rattle.ag_kernel.specs.State.{State}
use Rattle.ag_kernel.specs.Rules.{row_at, line_at}

-- the numbers by variable
abbrev pub numbers_at : List ℤ → ℕ → ℤ
numbers_at numbers n = slice_index_or numbers n (pos 0)

-- the row of the literal's atom, if it has one, holds or doesn't, as the literal says
abbrev pub RowIsAsSaid : List Atom → (ℕ → ℤ) → Lit → Type 0
RowIsAsSaid atoms x l = ForSome (row_at atoms l.atom) (λ row. row_holds x row ≡ l.holds)

-- a whole number for each variable, at which the rows are as the literals say
pub record SatisfiesRows (s : State) (lits : List Lit) (numbers : List ℤ) : Type 0 where
  pub count : length numbers ≡ s.query.vars
  pub rows : All (RowIsAsSaid s.atoms (numbers_at numbers)) lits

-- a line without a row, each of whose literals is the contrary of one of these
pub record RefutesLits (s : State) (lits : List Lit) (n : ℕ) : Type 0 where
  pub there : n < length s.lines
  pub no_row : IsNone (line_at s.lines n).row
  pub contraries : All (λ l. Contains lits (contrary l)) (line_at s.lines n).lits

-- what is found, by a theory that may end without an answer or may not
abbrev pub IsFound : Bool → State → List Lit → Found → Type 0
IsFound leaves s lits (Model numbers) = SatisfiesRows s lits numbers
IsFound leaves s lits (Line n) = RefutesLits s lits n
IsFound leaves s lits Leaf = IsTrue leaves

-- the query is the same one, and the atoms and lines begin with those before
pub record HasGrown (before now : State) : Type 0 where
  pub query : now.query ≡ before.query
  pub atoms : take (length before.atoms) now.atoms ≡ before.atoms
  pub lines : take (length before.lines) now.lines ≡ before.lines
