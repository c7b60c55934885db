-- Which queries are about differences of two variables.
use Rattle.std.specs.Prelude.{◌≡◌, ◌<◌, ◌≤◌, ◌^◌, neg_ℤ, List, [], ◌∷◌, length, All, ⊤, unsigned_abs}
use Rattle.ag_query.specs.declared.rows.LTerm.{LTerm}
use Rattle.ag_query.specs.declared.rows.LRow.{LRow}
use Rattle.ag_query.specs.declared.rows.Atom.{Atom}
use Rattle.ag_query.specs.declared.rows.Atom.TheVariants.{Free, Bound}
use Rattle.ag_query.specs.declared.clauses.Lit.{Lit}
use Rattle.ag_query.specs.declared.query.Query.{Query}

-- no term, one with the factor 1 or -1, or two with the factors 1 and -1 in either order
abbrev pub IsDifference : List LTerm → Type 0
IsDifference [] = ⊤
IsDifference (t ∷ []) = unsigned_abs t.factor ≡ 1
IsDifference (s ∷ t ∷ []) = (unsigned_abs s.factor ≡ 1) × (t.factor ≡ neg_ℤ s.factor)
IsDifference (s ∷ t ∷ u ∷ ts) = ⊥

-- a difference with a bound of magnitude at most 2^48
abbrev pub IsDifferenceRow : LRow → Type 0
IsDifferenceRow row = IsDifference row.terms × (unsigned_abs row.bound ≤ 2 ^ 48)

-- the atom's row, if it has one, is a difference
abbrev pub IsDifferenceAtom : Atom → Type 0
IsDifferenceAtom Free = ⊤
IsDifferenceAtom (Bound row) = IsDifferenceRow row

-- at most 8192 variables, and every row is a difference
pub record IsDifferenceQuery (query : Query) : Type 0 where
  pub vars : query.vars ≤ 8192
  pub rows : All IsDifferenceAtom query.atoms

-- a query about differences, and literals of its atoms
pub record IsFitting (query : Query) (lits : List Lit) : Type 0 where
  pub difference : IsDifferenceQuery query
  pub there : All (λ l. l.atom < length query.atoms) lits
