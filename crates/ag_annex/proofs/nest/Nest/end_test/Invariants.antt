use Rattle.std.proofs.Common.{◌≡◌, ◌≤◌, length}
use Rattle.ag_annex.specs.Nesting.{levels, behind_then}
use Rattle.ag_annex.proofs.nest.Nest.end_test.Given as goal

abbrev pub invariant-loop-top : goal.invariant-loop-top
invariant-loop-top l = record { tested : behind_then l.self ≡ behind_then l.fn.self; fewer : levels l.self ≤ levels l.fn.self }

abbrev pub decreases-loop-top : goal.decreases-loop-top
decreases-loop-top l = length l.self
