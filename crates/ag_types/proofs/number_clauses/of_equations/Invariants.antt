use Rattle.std.proofs.Common.{◌≡◌, drop}
use Rattle.std.specs.List.{flat_map}
use Rattle.ag_types.specs.Firsts.{either}
use Rattle.ag_types.specs.NumberFaults.{node_numbers}
use Rattle.ag_types.specs.Places.{first_broken}
use Rattle.ag_types.proofs.number_clauses.of_equations.Given as goal

abbrev pub invariant-loop-equation : goal.invariant-loop-equation
invariant-loop-equation l =
    either l.broken (first_broken (flat_map (node_numbers l.sight l.values) (drop l.equation-index l.equations))) ≡ first_broken (flat_map (node_numbers l.sight l.values) l.equations)
