-- What a kernel is: its query, its atoms and its lines.
use Rattle.std.specs.Prelude.{◌≡◌, ℕ, ◌<◌, ◌++◌, ◌∷◌, List, [], length, take, All, Option, Some, None, ⊤, slice_get}
use Rattle.ag_query.specs.declared.query.Query.{Query}
use Rattle.ag_query.specs.declared.rows.LRow.{LRow}
use Rattle.ag_query.specs.declared.rows.Atom.{Atom}
use Rattle.ag_query.specs.declared.rows.Atom.TheVariants.{Free, Bound}
use Rattle.ag_query.specs.Rows.{AreInOrder}
use Rattle.ag_query.specs.Meaning.{Assignment, Meets, Follows}
use Rattle.ag_kernel.specs.declared.line.Line.{Line}

-- the query, its atoms with those that were added, and the lines, the first of which has number 0
pub record State : Type 0 where
  pub query : Query
  pub atoms : List Atom
  pub lines : List Line

-- an atom without a row, or with one that is in order
abbrev pub IsAtomIn : ℕ → Atom → Type 0
IsAtomIn vars Free = ⊤
IsAtomIn vars (Bound row) = AreInOrder vars row.terms

-- no row, or one that is in order
abbrev pub IsRowIn : ℕ → Option LRow → Type 0
IsRowIn vars None = ⊤
IsRowIn vars (Some row) = AreInOrder vars row.terms

-- the line speaks of atoms and variables that are there, and follows from the query
pub record IsLineOf (s : State) (line : Line) : Type 0 where
  pub there : All (λ l. l.atom < length s.atoms) line.lits
  pub order : IsRowIn s.query.vars line.row
  pub follows : Follows s.query s.atoms line.lits line.row

-- the query's atoms come first, and every line follows
pub record IsSound (s : State) : Type 0 where
  pub begins : take (length s.query.atoms) s.atoms ≡ s.query.atoms
  pub rows : All (IsAtomIn s.query.vars) s.atoms
  pub lines : All (IsLineOf s) s.lines

-- the state with one line more
abbrev pub with_line : State → Line → State
with_line s line = record s { lines = s.lines ++ line ∷ [] }

-- no valuation meets the query
abbrev pub HasNoValuation : Query → Type 0
HasNoValuation query = (v : Assignment) → Meets query v → ⊥

-- the line of a number follows
abbrev pub FollowsAt : State → ℕ → Type 0
FollowsAt s n = (line : Line) → slice_get s.lines n ≡ Some line → Follows s.query s.atoms line.lits line.row
