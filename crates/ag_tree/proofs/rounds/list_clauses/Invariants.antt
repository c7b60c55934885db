use Rattle.ag_tree.proofs.Starting.{AreListedTo}
use Rattle.ag_tree.proofs.rounds.list_clauses.Given as goal

abbrev pub invariant-loop-clause : goal.invariant-loop-clause
invariant-loop-clause l = AreListedTo l.clauses l.fn.occurrences l.occurrences l.numbers.items l.clause-index
