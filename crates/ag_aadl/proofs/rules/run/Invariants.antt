use Rattle.std.proofs.Common.{◌≡◌, drop}
use Rattle.ag_aadl.specs.Rules.{run, start}
use Rattle.ag_aadl.proofs.rules.run.Given as goal

abbrev pub invariant-loop-token : goal.invariant-loop-token
invariant-loop-token l = run l.bytes l.context (drop l.token-index l.marked) ≡ run l.bytes start l.marked
