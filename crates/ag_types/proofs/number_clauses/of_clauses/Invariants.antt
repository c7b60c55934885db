use Rattle.std.proofs.Common.{◌≡◌, drop}
use Rattle.std.specs.List.{flat_map}
use Rattle.ag_types.specs.Firsts.{either}
use Rattle.ag_types.specs.NumberFaults.{clause_numbers}
use Rattle.ag_types.specs.Places.{first_broken}
use Rattle.ag_types.proofs.number_clauses.of_clauses.Given as goal

abbrev pub invariant-loop-clause : goal.invariant-loop-clause
invariant-loop-clause l =
    either l.broken (first_broken (flat_map (clause_numbers l.values l.site) (drop l.clause-index l.clauses))) ≡ first_broken (flat_map (clause_numbers l.values l.site) l.clauses)
