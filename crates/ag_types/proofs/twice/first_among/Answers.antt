use Rattle.ag_types.specs.ClauseFaults.{twice}
use Rattle.ag_types.proofs.BreakingMore.{broken_more}
use Rattle.ag_types.proofs.twice.first_among.Goals as goal

pub loop-other-preserved : goal.loop-other-preserved
loop-other-preserved c =
    rw (c.either-found.ensures, c.twice_if.ensures, c.is_declared_before.ensures)
    (broken_more (λ n. n.now) (twice c.args.names.now) c.args.others.now c.loop-other.other-index c.other-item.result c.loop-other.found _ c.loop-other-test.true c.other-item.is c.loop-other.invariant)
