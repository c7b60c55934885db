use Rattle.ag_kernel.proofs.Numbers.{floor_is, floor_below, floor_above}
use Rattle.ag_kernel.proofs.rows.round_down.Goals as goal

pub returns-clause-below : goal.returns-clause-below
returns-clause-below c = rw (floor_is c.div_euclid.result c.args.bound c.args.by c.requires c.ranges.bound c.ranges.by c.div_euclid.ensures) (floor_below c.args.bound c.args.by c.requires)

pub returns-clause-above : goal.returns-clause-above
returns-clause-above c = rw (floor_is c.div_euclid.result c.args.bound c.args.by c.requires c.ranges.bound c.ranges.by c.div_euclid.ensures) (floor_above c.args.bound c.args.by c.requires)
