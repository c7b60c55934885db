use Rattle.std.proofs.Common.{◌≡◌, ◌++◌, drop}
use Rattle.ag_aadl.specs.Marked.{under}
use Rattle.ag_aadl.proofs.find.under.Given as goal

abbrev pub invariant-loop-token : goal.invariant-loop-token
invariant-loop-token l = l.found.items ++ under l.mark (drop l.token-index l.marked) ≡ under l.mark l.marked
