use Rattle.std.proofs.Common.{◌≡◌, ◌++◌, drop}
use Rattle.std.specs.Prelude.{map}
use Rattle.ag_types.specs.ClauseFaults.{twice_among}
use Rattle.ag_types.specs.Firsts.{either}
use Rattle.ag_types.specs.Places.{first_broken}
use Rattle.ag_types.proofs.twice.first_of_two.Given as goal

abbrev pub invariant-loop-name : goal.invariant-loop-name
invariant-loop-name l = either l.found (first_broken (twice_among (l.ones ++ l.others) (map (λ n. n.now) (drop l.name-index l.names)))) ≡ first_broken (twice_among (l.ones ++ l.others) (map (λ n. n.now) l.names))
