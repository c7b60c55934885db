use Rattle.std.proofs.Common.{◌≡◌, ℕ, ◌+◌, length}
use Rattle.ag_stream.specs.Work.{IsMarked}
use Rattle.ag_stream.specs.Dependence.{Leads}
use Rattle.ag_stream.specs.Spreading.{bare}
use Rattle.ag_stream.proofs.dependence.on_cycle.Given as goal

abbrev pub invariant-loop-seen : goal.invariant-loop-seen
invariant-loop-seen l = (length l.seen.items ≡ l.draft.flags) × IsMarked l.waits l.stream
    × ((v : ℕ) → IsMarked l.seen.items v → Leads l.draft (l.draft.ints + l.stream) (l.draft.ints + v))

abbrev pub decreases-loop-seen : goal.decreases-loop-seen
decreases-loop-seen l = bare l.seen.items
