use Rattle.std.proofs.Common.{◌≡◌, drop}
use Rattle.ag_aadl.specs.Marked.{has_mark}
use Rattle.ag_aadl.proofs.find.has_mark.Given as goal

-- none of the tokens before has the mark
abbrev pub invariant-loop-token : goal.invariant-loop-token
invariant-loop-token l = has_mark l.mark (drop l.token-index l.marked) ≡ has_mark l.mark l.marked
