-- What trying every valuation looks for.
use Rattle.std.specs.Prelude.{◌≡◌, ◌<◌, ◌+◌, ℕ, Bool, false, List, Contains, Option, Some, None, slice_index_or}
use Rattle.ag_stream.specs.declared.problem.ProblemDraft.{ProblemDraft}
use Rattle.ag_stream.specs.declared.problem.Instant.{Instant}
use Rattle.ag_stream.specs.declared.problem.Run.{Run}
use Rattle.ag_stream.specs.Values.{flag_at}
use Rattle.ag_stream.specs.Forms.{targets}
use Rattle.ag_stream.specs.Runs.{Breaks, IsPremisesRun}
use Rattle.ag_verdict.specs.declared.verdict.Verdict.{Verdict}
use Rattle.ag_verdict.specs.declared.verdict.Verdict.TheVariants.{Proved, Refuted}

-- a run that breaks the claim, or, where there is none, a run of the premises
abbrev pub IsSoughtBy : ProblemDraft → Option ℕ → Run → Type 0
IsSoughtBy d None run = IsPremisesRun d run
IsSoughtBy d (Some part) run = Breaks d run

abbrev pub IsSought : ProblemDraft → Run → Type 0
IsSought d run = IsSoughtBy d d.claim run

-- the instant has these truths for each stream without an equation that isn't among the free ones
pub record AgreesOutside (d : ProblemDraft) (free : List ℕ) (flags : List Bool) (i : Instant) : Type 0 where
  pub each : (s : ℕ) → s < d.flags → (Contains (targets d) (d.ints + s) → ⊥) → (Contains free s → ⊥) → flag_at i s ≡ slice_index_or flags s false

-- a claim is proved by one instant and one more where no single instant breaks it
abbrev pub claim_verdict_of : Option Run → Verdict
claim_verdict_of None = Proved 1
claim_verdict_of (Some run) = Refuted run
