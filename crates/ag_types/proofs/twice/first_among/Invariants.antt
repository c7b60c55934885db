use Rattle.std.proofs.Common.{◌≡◌, drop}
use Rattle.std.specs.Prelude.{map}
use Rattle.ag_types.specs.ClauseFaults.{twice_among}
use Rattle.ag_types.specs.Firsts.{either}
use Rattle.ag_types.specs.Places.{first_broken}
use Rattle.ag_types.proofs.twice.first_among.Given as goal

abbrev pub invariant-loop-other : goal.invariant-loop-other
invariant-loop-other l = either l.found (first_broken (twice_among l.names (map (λ n. n.now) (drop l.other-index l.others)))) ≡ first_broken (twice_among l.names (map (λ n. n.now) l.others))
