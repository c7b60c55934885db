-- The run that follows from the values of the streams without an equation.
use Rattle.std.specs.Prelude.{◌≡◌, ◌+◌, ◌<◌, ℕ, length, All, Contains}
use Rattle.std.specs.List.{AllZip}
use Rattle.ag_stream.specs.declared.problem.ProblemDraft.{ProblemDraft}
use Rattle.ag_stream.specs.declared.problem.Instant.{Instant}
use Rattle.ag_stream.specs.declared.problem.Run.{Run}
use Rattle.ag_stream.specs.Values.{whole_at, flag_at}
use Rattle.ag_stream.specs.Forms.{targets}
use Rattle.ag_stream.specs.Runs.{IsRun, KeepsEquations, moments_of}

-- the second instant has the first one's value for each stream without an equation
pub record AgreesOnFree (d : ProblemDraft) (free now : Instant) : Type 0 where
  pub whole : (s : ℕ) → s < d.ints → (Contains (targets d) s → ⊥) → whole_at now s ≡ whole_at free s
  pub flags : (s : ℕ) → s < d.flags → (Contains (targets d) (d.ints + s) → ⊥) → flag_at now s ≡ flag_at free s

-- the second run keeps the equations, is as long as the first, and has its values for the streams without an equation
pub record IsEvaluation (d : ProblemDraft) (given run : Run) : Type 0 where
  pub is_run : IsRun d run
  pub long : length run.instants ≡ length given.instants
  pub equations : All (KeepsEquations d) (moments_of run)
  pub free : AllZip (AgreesOnFree d) given.instants run.instants
