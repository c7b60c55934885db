use Rattle.std.proofs.Common.{◌≡◌, ℕ, ◌<◌, length}
use Rattle.ag_stream.specs.Work.{IsAt, IsMarked, IsOwned}
use Rattle.ag_stream.proofs.dependence.all_waiting.Given as goal

abbrev pub invariant-loop-k : goal.invariant-loop-k
invariant-loop-k l = (length l.waits.items ≡ l.draft.flags)
    × ((j s p : ℕ) → j < l.k → IsAt l.draft j s p → IsMarked l.waits.items s)
    × ((s : ℕ) → IsMarked l.waits.items s → IsOwned l.draft s)
