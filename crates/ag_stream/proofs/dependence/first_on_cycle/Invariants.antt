use Rattle.std.proofs.Common.{ℕ, ◌+◌, ◌<◌}
use Rattle.ag_stream.specs.Dependence.{Leads}
use Rattle.ag_stream.proofs.dependence.first_on_cycle.Given as goal

abbrev pub invariant-loop-stream : goal.invariant-loop-stream
invariant-loop-stream l = (s : ℕ) → s < l.stream → Leads l.draft (l.draft.ints + s) (l.draft.ints + s) → ⊥
