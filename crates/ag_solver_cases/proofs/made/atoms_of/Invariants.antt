use Rattle.std.proofs.Common.{◌≡◌, All, length}
use Rattle.ag_query.specs.Made.{IsAtomOver}
use Rattle.ag_solver_cases.proofs.made.atoms_of.Given as goal

abbrev pub invariant-loop-row : goal.invariant-loop-row
invariant-loop-row l = record {
  over : All (IsAtomOver l.vars) l.atoms;
  count : length l.atoms ≡ l.row-index;
}
