use Rattle.std.proofs.Common.{◌≡◌}
use Rattle.ag_tree.proofs.BothWays.{AreSeen}
use Rattle.ag_tree.proofs.both_ways.has_none_both_ways.Given as goal

abbrev pub invariant-loop-lit : goal.invariant-loop-lit
invariant-loop-lit l = AreSeen l.lits l.seen.lits l.lit-index × (l.seen.atoms ≡ l.initial.seen.atoms)
