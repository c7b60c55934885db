use Rattle.std.proofs.Common.{◌≡◌, drop}
use Rattle.ag_aadl.specs.Marked.{under}
use Rattle.ag_aadl.proofs.find.first_under.Given as goal

-- none of the tokens before has the mark
abbrev pub invariant-loop-token : goal.invariant-loop-token
invariant-loop-token l = under l.mark (drop l.token-index l.marked) ≡ under l.mark l.marked
