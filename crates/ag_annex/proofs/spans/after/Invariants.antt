use Rattle.std.proofs.Common.{◌≡◌, drop}
use Rattle.ag_annex.specs.Clauses.{after}
use Rattle.ag_annex.proofs.spans.after.Given as goal

-- none of the tokens before has the mark
abbrev pub invariant-loop-at : goal.invariant-loop-at
invariant-loop-at l = after l.mark (drop l.at l.marked) ≡ after l.mark l.marked
