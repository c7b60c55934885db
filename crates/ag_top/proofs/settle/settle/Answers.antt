use Rattle.std.proofs.Common.{arith}
use Rattle.ag_top.specs.Commands.{editing}
use Rattle.ag_top.proofs.Deciding.{keeps_keys, when_left}
use Rattle.ag_top.proofs.Serving.{decide_more, decide_all, when_true, when_false}
use Rattle.ag_top.proofs.settle.settle.Goals as goal

pub returns-clause-settled : goal.returns-clause-settled
returns-clause-settled c = decide_all (editing c.args.limits.now) c.loop.invariant.decides (when_false _ _ _ c.in_ok-decide_next.field-0 c.if-branch.false c.in_ok-decide_next.ensures.decided)

pub loop-preserved : goal.loop-preserved
loop-preserved c = record {
  decides = decide_more (editing c.args.limits.now) c.loop.invariant.decides (when_true _ _ _ c.in_ok-decide_next.field-0 c.if-branch.true c.in_ok-decide_next.ensures.decided);
  idle = c.in_ok-decide_next.ensures.idle;
  same = keeps_keys c.loop.invariant.same c.in_ok-decide_next.ensures.same;
  lighter = let w = when_left _ c.in_ok-decide_next.field-0 c.if-branch.true c.in_ok-decide_next.ensures.no_heavier in let v = c.loop.invariant.lighter in omega arith;
}
