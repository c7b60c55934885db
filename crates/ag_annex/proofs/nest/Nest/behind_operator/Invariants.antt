use Rattle.std.proofs.Common.{◌≡◌, ◌≤◌, length}
use Rattle.ag_annex.specs.Nesting.{levels, behind_operator}
use Rattle.ag_annex.proofs.nest.Nest.behind_operator.Given as goal

abbrev pub invariant-loop-top : goal.invariant-loop-top
invariant-loop-top l = record { left : behind_operator l.rank l.self ≡ behind_operator l.fn.rank l.fn.self; fewer : levels l.self ≤ 200 }

abbrev pub decreases-loop-top : goal.decreases-loop-top
decreases-loop-top l = length l.self
