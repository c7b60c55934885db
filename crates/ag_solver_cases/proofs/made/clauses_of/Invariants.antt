use Rattle.std.proofs.Common.{All}
use Rattle.ag_query.specs.Made.{IsClauseOver}
use Rattle.ag_solver_cases.proofs.made.clauses_of.Given as goal

abbrev pub invariant-loop-lits : goal.invariant-loop-lits
invariant-loop-lits l = All (IsClauseOver l.atoms) l.made
