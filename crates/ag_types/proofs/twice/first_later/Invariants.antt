use Rattle.std.proofs.Common.{◌≡◌, drop}
use Rattle.std.specs.Prelude.{map}
use Rattle.ag_types.specs.ClauseFaults.{twice_among}
use Rattle.ag_types.specs.Firsts.{either}
use Rattle.ag_types.specs.Places.{first_broken}
use Rattle.ag_types.proofs.twice.first_later.Given as goal

abbrev pub invariant-loop-name : goal.invariant-loop-name
invariant-loop-name l = either l.later (first_broken (twice_among (map (λ n. n.now) (drop l.name-index l.names)) l.seen)) ≡ first_broken (twice_among (map (λ n. n.now) l.names) l.seen)
