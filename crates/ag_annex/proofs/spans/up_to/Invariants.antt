use Rattle.std.proofs.Common.{◌≡◌, ◌++◌, drop, take}
use Rattle.ag_aadl.specs.Marked.{up_to}
use Rattle.ag_annex.proofs.spans.up_to.Given as goal

-- none of the tokens before has one of the marks
abbrev pub invariant-loop-at : goal.invariant-loop-at
invariant-loop-at l = take l.at l.marked ++ up_to l.marks (drop l.at l.marked) ≡ up_to l.marks l.marked
