use Rattle.std.proofs.Common.{◌≡◌, ◌+◌, drop, map}
use Rattle.ag_types.specs.Firsts.{either}
use Rattle.ag_types.specs.Places.{first_broken}
use Rattle.ag_types.specs.Uses.{circular_from}
use Rattle.ag_types.proofs.uses.circular_nodes.Given as goal

abbrev pub invariant-loop-at : goal.invariant-loop-at
invariant-loop-at l =
    either l.broken (first_broken (circular_from l.on_circle (l.constants + l.at) (map (λ n. n.now.name) (drop l.at l.nodes))))
    ≡ first_broken (circular_from l.on_circle l.constants (map (λ n. n.now.name) l.nodes))
