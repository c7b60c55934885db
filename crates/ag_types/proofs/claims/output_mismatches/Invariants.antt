use Rattle.std.proofs.Common.{◌≡◌, drop}
use Rattle.ag_types.specs.ClauseFaults.{output_mismatches}
use Rattle.ag_types.specs.Firsts.{either}
use Rattle.ag_types.specs.Places.{first_broken}
use Rattle.ag_types.proofs.claims.output_mismatches.Given as goal

abbrev pub invariant-loop-var : goal.invariant-loop-var
invariant-loop-var l = either l.broken (first_broken (output_mismatches (drop l.var-index l.vars) l.left l.place)) ≡ first_broken (output_mismatches l.vars l.outputs l.place)
