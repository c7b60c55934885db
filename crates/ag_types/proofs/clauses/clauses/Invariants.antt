use Rattle.std.proofs.Common.{◌≡◌, drop}
use Rattle.std.specs.List.{flat_map}
use Rattle.ag_types.specs.ClauseFaults.{clause_faults}
use Rattle.ag_types.specs.Firsts.{either}
use Rattle.ag_types.specs.Places.{first_broken}
use Rattle.ag_types.proofs.clauses.clauses.Given as goal

abbrev pub invariant-loop-part : goal.invariant-loop-part
invariant-loop-part l = either l.broken (first_broken (flat_map (clause_faults l.targets l.site) (drop l.part-index l.clauses))) ≡ first_broken (flat_map (clause_faults l.targets l.site) l.clauses)
