use Rattle.std.proofs.Common.{◌≡◌, drop}
use Rattle.std.specs.List.{flat_map}
use Rattle.ag_types.specs.ClauseFaults.{equal_faults}
use Rattle.ag_types.specs.Firsts.{either}
use Rattle.ag_types.specs.Places.{first_broken}
use Rattle.ag_types.proofs.equations.equals.Given as goal

abbrev pub invariant-loop-equation : goal.invariant-loop-equation
invariant-loop-equation l = either l.broken (first_broken (flat_map (equal_faults l.sight l.targets) (drop l.equation-index l.equations))) ≡ first_broken (flat_map (equal_faults l.sight l.targets) l.equations)
