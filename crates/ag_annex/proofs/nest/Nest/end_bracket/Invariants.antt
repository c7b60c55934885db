use Rattle.std.proofs.Common.{◌≡◌, ◌≤◌, length}
use Rattle.ag_annex.specs.Nesting.{levels, outside, inside}
use Rattle.ag_annex.proofs.nest.Nest.end_bracket.Given as goal

abbrev pub invariant-loop-top : goal.invariant-loop-top
invariant-loop-top l = record { outside : outside l.self ≡ outside l.fn.self; inside : inside l.self ≡ inside l.fn.self; fewer : levels l.self ≤ levels l.fn.self }

abbrev pub decreases-loop-top : goal.decreases-loop-top
decreases-loop-top l = length l.self
