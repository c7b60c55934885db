use Rattle.std.proofs.Common.{◌≡◌, ◌≤◌, length}
use Rattle.ag_annex.specs.Nesting.{levels, behind_choice}
use Rattle.ag_annex.proofs.nest.Nest.end_choice.Given as goal

abbrev pub invariant-loop-top : goal.invariant-loop-top
invariant-loop-top l = record { left : behind_choice l.self ≡ behind_choice l.fn.self; fewer : levels l.self ≤ levels l.fn.self; shorter : length l.self ≤ length l.fn.self }

abbrev pub decreases-loop-top : goal.decreases-loop-top
decreases-loop-top l = length l.self
