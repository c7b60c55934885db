-- A list of literals with places for atoms.
use Rattle.std.specs.Prelude.{ℕ, List}
use Rattle.ag_query.specs.declared.clauses.Lit.{Lit}

-- how many atoms have a place, and the literals
pub record Has : Type 0 where
  pub atoms : ℕ
  pub lits : List Lit
