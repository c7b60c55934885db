use Rattle.std.proofs.Common.{◌≡◌, [], ℕ, List, replicate}
use Rattle.ag_tree.proofs.occurrences.Occurrences.new.Given as goal

abbrev pub invariant-loop : goal.invariant-loop
invariant-loop l = l.lists.items ≡ replicate {A = List ℕ} l.counter []
