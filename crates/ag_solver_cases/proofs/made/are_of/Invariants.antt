use Rattle.std.proofs.Common.{ℕ, ◌<◌, get_or}
use Rattle.ag_query.specs.declared.clauses.Lit.{Lit}
use Rattle.ag_solver_cases.proofs.made.are_of.Given as goal

abbrev pub invariant-loop-lit : goal.invariant-loop-lit
invariant-loop-lit l = (j : ℕ) (e : Lit) → j < l.lit-index → (get_or l.lits j e).atom < l.atoms
