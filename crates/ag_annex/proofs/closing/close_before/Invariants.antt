use Rattle.std.proofs.Common.{◌≡◌, length}
use Rattle.ag_annex.specs.Expressions.{close_before}
use Rattle.ag_annex.proofs.Ending.{close_on}
use Rattle.ag_annex.proofs.closing.close_before.Given as goal

-- what is left to close gives what was to be closed
abbrev pub invariant-loop-frame : goal.invariant-loop-frame
invariant-loop-frame l = close_on l.choosing l.next l.frames l.closed ≡ close_before l.fn.next l.fn.frames l.fn.last

abbrev pub decreases-loop-frame : goal.decreases-loop-frame
decreases-loop-frame l = length l.frames
