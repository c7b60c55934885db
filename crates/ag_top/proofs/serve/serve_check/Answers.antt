use Rattle.std.proofs.Common.{refl}
use Rattle.ag_top.proofs.Turns.{turn_cut}
use Rattle.ag_top.proofs.serve.serve_check.Goals as goal

pub returns-in-Err-clause-served : goal.returns-in-Err-clause-served
returns-in-Err-clause-served g c =
    turn_cut c.in-Err.cut c.loop-command.command-index _ _ c.args.session.now c.loop-command.session _ _ _ c.loop-command.invariant.few refl c.loop-command.invariant.same.limits c.loop-command.invariant.went
    c.loop-command.invariant.runs c.in-Err.ensures.served
