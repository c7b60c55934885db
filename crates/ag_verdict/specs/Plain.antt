-- What single instants say of a plain problem.
use Rattle.std.specs.Prelude.{◌≡◌, ◌<◌, ℕ, List, [], ◌∷◌, length, replicate, Some, IsSome, IsNone}
use Rattle.ag_stream.specs.declared.problem.ProblemDraft.{ProblemDraft}
use Rattle.ag_stream.specs.declared.problem.Instant.{Instant}
use Rattle.ag_stream.specs.declared.problem.Run.{Run}
use Rattle.ag_stream.specs.declared.problem.Window.{Window}
use Rattle.ag_stream.specs.Forms.{IsPlain}
use Rattle.ag_stream.specs.Runs.{Breaks, IsPremisesRun, IsForbidden, last}
use Rattle.ag_verdict.specs.Verdicts.{IsProved, IsRefuted, IsConsistent, IsInconsistent}

-- the run of one instant
abbrev pub single : Instant → Run
single i = record { instants = i ∷ [] }

-- the run that stays at one instant
abbrev pub staying : ℕ → Instant → Run
staying n i = record { instants = replicate n i }

-- the last instant of a forbidden window is a breaking run
abbrev pub LastBreaks : Type 0
LastBreaks = (d : ProblemDraft) (w : Window) → IsPlain d → IsForbidden d w → (i : Instant) × (last w.run.instants ≡ Some i) × Breaks d (single i)

-- where no single instant breaks the problem it is proved, by windows of two instants
abbrev pub UnbrokenIsProved : Type 0
UnbrokenIsProved = (d : ProblemDraft) → IsPlain d → IsSome d.claim → ((i : Instant) → Breaks d (single i) → ⊥) → IsProved d 1

-- a single instant that breaks the problem is a shortest run that does
abbrev pub BrokenIsRefuted : Type 0
BrokenIsRefuted = (d : ProblemDraft) (i : Instant) → Breaks d (single i) → IsRefuted d (single i)

-- a single instant of the premises may stay as long as is asked
abbrev pub KeptIsConsistent : Type 0
KeptIsConsistent = (d : ProblemDraft) (i : Instant) → IsPlain d → IsNone d.claim → 0 < d.length → IsPremisesRun d (single i) → IsConsistent d (staying d.length i)

-- where no single instant keeps the premises there is no run of them
abbrev pub UnkeptIsInconsistent : Type 0
UnkeptIsInconsistent = (d : ProblemDraft) → IsPlain d → IsNone d.claim → ((i : Instant) → IsPremisesRun d (single i) → ⊥) → IsInconsistent d
