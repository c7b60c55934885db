-- Which atoms and clauses make a query.
use Rattle.std.specs.Prelude.{ℕ, ◌<◌, ◌≤◌, ◌^◌, All, ⊤}
use Rattle.ag_query.specs.declared.rows.Atom.{Atom}
use Rattle.ag_query.specs.declared.rows.Atom.TheVariants.{Free, Bound}
use Rattle.ag_query.specs.declared.clauses.LClause.{LClause}
use Rattle.ag_query.specs.Rows.{AreInOrder, magnitude}

-- the atom's row, if it has one, is in order, and its factors are small
abbrev pub IsAtomOver : ℕ → Atom → Type 0
IsAtomOver vars Free = ⊤
IsAtomOver vars (Bound row) = AreInOrder vars row.terms × (magnitude row.terms ≤ 2 ^ 63)

-- each literal is of one of the first so many atoms
abbrev pub IsClauseOver : ℕ → LClause → Type 0
IsClauseOver atoms clause = All (λ l. l.atom < atoms) clause.lits
