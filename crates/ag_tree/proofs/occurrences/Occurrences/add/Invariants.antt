use Rattle.ag_tree.proofs.Listing.{AreListed}
use Rattle.ag_tree.proofs.occurrences.Occurrences.add.Given as goal

abbrev pub invariant-loop-lit : goal.invariant-loop-lit
invariant-loop-lit l = AreListed l.fn.self l.self-inside.lists.items l.lits l.lit-index l.line
