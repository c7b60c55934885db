-- Answers that don't give up.
use Rattle.std.specs.Prelude.{⊤}
use Rattle.ag_tree.specs.declared.solved.Solved.{Solved}
use Rattle.ag_tree.specs.declared.solved.Solved.TheVariants.{Sat, Unsat, Work, Leaf}

-- the answer isn't a leaf
abbrev pub IsNoLeaf : Solved → Type 0
IsNoLeaf (Sat v) = ⊤
IsNoLeaf Unsat = ⊤
IsNoLeaf (Work facts) = ⊤
IsNoLeaf (Leaf lits) = ⊥
