use Rattle.ag_types.proofs.NextNames.{later_more, later_end}
use Rattle.ag_types.proofs.twice.first_later.Goals as goal

pub loop-name-preserved : goal.loop-name-preserved
loop-name-preserved c =
    rw (c.either-later.ensures, c.next_twice.ensures)
    (later_more (λ n. n.now) c.args.names.now c.args.seen.now c.loop-name.name-index c.name-item.result c.loop-name.later _ c.loop-name-test.true c.name-item.is c.loop-name.invariant)

pub returns : goal.returns
returns c = later_end (λ n. n.now) c.args.names.now c.args.seen.now c.loop-name.name-index c.loop-name.later _ c.loop-name-test.false c.loop-name.invariant
