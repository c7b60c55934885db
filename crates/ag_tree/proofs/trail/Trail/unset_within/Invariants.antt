use Rattle.std.proofs.Common.{◌≤◌, ◌<◌, ℕ}
use Rattle.ag_tree.specs.Facts.{Lacks}
use Rattle.ag_tree.specs.Trail.{literals}
use Rattle.ag_tree.proofs.trail.Trail.unset_within.Given as goal

abbrev pub invariant-loop-atom : goal.invariant-loop-atom
invariant-loop-atom l = (a : ℕ) → l.low ≤ a → a < l.atom → Lacks (literals l.self.steps) a → ⊥
