use Rattle.std.proofs.Common.{◌≡◌, ◌≤◌, length}
use Rattle.ag_annex.specs.Nesting.{levels, behind_comparison}
use Rattle.ag_annex.proofs.nest.Nest.behind_comparison.Given as goal

abbrev pub invariant-loop-top : goal.invariant-loop-top
invariant-loop-top l = record { left : behind_comparison l.self ≡ behind_comparison l.fn.self; fewer : levels l.self ≤ 200 }

abbrev pub decreases-loop-top : goal.decreases-loop-top
decreases-loop-top l = length l.self
