use Rattle.std.proofs.Common.{Contains}
use Rattle.std.specs.List.{AllWithin, Any}
use Rattle.ag_tree.specs.Trail.{literals}
use Rattle.ag_tree.proofs.rounds.are_met.Given as goal

abbrev pub invariant-loop-clause : goal.invariant-loop-clause
invariant-loop-clause l = AllWithin (λ c. Any (Contains (literals l.trail.steps)) c.lits) l.clauses 0 l.clause-index
