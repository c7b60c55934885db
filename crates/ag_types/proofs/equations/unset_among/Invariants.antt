use Rattle.std.proofs.Common.{◌≡◌, drop, map}
use Rattle.std.specs.List.{flat_map}
use Rattle.ag_types.specs.ClauseFaults.{unset}
use Rattle.ag_types.specs.Firsts.{either}
use Rattle.ag_types.specs.Places.{first_broken}
use Rattle.ag_types.proofs.equations.unset_among.Given as goal

abbrev pub invariant-loop-var : goal.invariant-loop-var
invariant-loop-var l = either l.broken (first_broken (flat_map (unset (map (λ e. e.name) l.set.equations.now)) (drop l.var-index l.vars))) ≡ first_broken (flat_map (unset (map (λ e. e.name) l.set.equations.now)) l.vars)
