use Rattle.std.proofs.Common.{arith}
use Rattle.ag_stream.proofs.Passes.{first_is}
use Rattle.ag_stream.proofs.dependence.first_on_cycle.Goals as goal

pub returns-then-branch : goal.returns-then-branch
returns-then-branch c = (omega arith, first_is c.args.draft.now c.requires.form c.loop-stream.stream (c.in_ok-depends_on_itself.ensures.0 c.if-branch.true) c.loop-stream.invariant)

pub returns : goal.returns
returns c = (c.requires.known, first_is c.args.draft.now c.requires.form c.args.known c.requires.itself (λ s lt. c.loop-stream.invariant s (omega arith)))
