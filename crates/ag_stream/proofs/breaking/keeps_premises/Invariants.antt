use Rattle.std.proofs.Common.{ℕ, ◌<◌, get_or}
use Rattle.ag_stream.specs.declared.problem.Instant.{Instant}
use Rattle.ag_stream.specs.Work.{KeepsPremisesAt}
use Rattle.ag_stream.proofs.breaking.keeps_premises.Given as goal

abbrev pub invariant-loop-instant : goal.invariant-loop-instant
invariant-loop-instant l = (j : ℕ) (e : Instant) → j < l.instant-index → KeepsPremisesAt l.draft (get_or l.instant-items j e)
