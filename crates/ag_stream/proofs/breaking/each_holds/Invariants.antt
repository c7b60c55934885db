use Rattle.std.proofs.Common.{ℕ, ◌<◌, get_or}
use Rattle.ag_stream.specs.declared.problem.Instant.{Instant}
use Rattle.ag_stream.specs.Work.{AllHoldAt}
use Rattle.ag_stream.proofs.breaking.each_holds.Given as goal

abbrev pub invariant-loop-instant : goal.invariant-loop-instant
invariant-loop-instant l = (j : ℕ) (e : Instant) → j < l.instant-index → AllHoldAt l.draft l.parts (get_or l.instants j e)
