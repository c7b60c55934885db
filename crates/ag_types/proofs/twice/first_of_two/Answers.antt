use Rattle.std.proofs.Common.{◌++◌}
use Rattle.ag_types.specs.ClauseFaults.{twice}
use Rattle.ag_types.proofs.BreakingMore.{broken_more}
use Rattle.ag_types.proofs.twice.first_of_two.Goals as goal

pub loop-name-preserved : goal.loop-name-preserved
loop-name-preserved c =
    rw (c.either-found.ensures, c.twice_if.ensures, c.is_in_two.ensures)
    (broken_more (λ n. n.now) (twice (c.args.ones.now ++ c.args.others.now)) c.args.names.now c.loop-name.name-index c.name-item.result c.loop-name.found _ c.loop-name-test.true c.name-item.is c.loop-name.invariant)
