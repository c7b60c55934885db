use Rattle.std.proofs.Common.{◌≡◌, length}
use Rattle.std.specs.List.{AllWithin}
use Rattle.ag_tree.specs.Facts.{HasNoneBothWays}
use Rattle.ag_tree.proofs.both_ways.has_plain_clauses.Given as goal

abbrev pub invariant-loop-clause : goal.invariant-loop-clause
invariant-loop-clause l = AllWithin (λ c. HasNoneBothWays c.lits) l.clause-items 0 l.clause-index × (l.seen.atoms ≡ length l.query.atoms)
