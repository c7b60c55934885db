use Rattle.ag_tree.proofs.Listing.{AreUnlisted}
use Rattle.ag_tree.proofs.occurrences.Occurrences.remove.Given as goal

abbrev pub invariant-loop-lit : goal.invariant-loop-lit
invariant-loop-lit l = AreUnlisted l.fn.self l.self-inside.lists.items l.line
