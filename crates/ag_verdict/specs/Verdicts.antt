-- When a verdict is true of a problem. The runs are all runs of whole numbers, without a bound.
use Rattle.std.specs.Prelude.{◌≡◌, ◌+◌, ◌<◌, ◌≤◌, ℕ, length, Option, None, IsSome, IsNone}
use Rattle.ag_stream.specs.declared.problem.ProblemDraft.{ProblemDraft}
use Rattle.ag_stream.specs.declared.problem.Run.{Run}
use Rattle.ag_stream.specs.declared.problem.Window.{Window}
use Rattle.ag_stream.specs.Runs.{Breaks, IsPremisesRun, IsForbidden, IsInductive}
use Rattle.ag_verdict.specs.declared.verdict.Why.{Why}
use Rattle.ag_verdict.specs.declared.verdict.Why.TheVariants.{Depth, Work, Leaf}
use Rattle.ag_verdict.specs.declared.verdict.Verdict.{Verdict}
use Rattle.ag_verdict.specs.declared.verdict.Verdict.TheVariants.{Proved, Refuted, Consistent, Inconsistent, Unknown}

-- no run breaks the problem, which is k-inductive, and j-inductive for no smaller j
pub record IsProved (d : ProblemDraft) (k : ℕ) : Type 0 where
  pub claim : IsSome d.claim
  pub some : 1 ≤ k
  pub unbroken : (run : Run) → Breaks d run → ⊥
  pub inductive : IsInductive d k
  pub least : (j : ℕ) → 1 ≤ j → j < k → IsInductive d j → ⊥

-- the run breaks the problem, and no shorter one does
pub record IsRefuted (d : ProblemDraft) (run : Run) : Type 0 where
  pub breaks : Breaks d run
  pub shortest : (other : Run) → Breaks d other → length run.instants ≤ length other.instants

-- a run of the premises, of as many instants as are sought
pub record IsConsistent (d : ProblemDraft) (run : Run) : Type 0 where
  pub claim : IsNone d.claim
  pub long : length run.instants ≡ d.length
  pub premises : IsPremisesRun d run

-- there is none
pub record IsInconsistent (d : ProblemDraft) : Type 0 where
  pub claim : IsNone d.claim
  pub none : (run : Run) → length run.instants ≡ d.length → IsPremisesRun d run → ⊥

-- no run of at most so many instants breaks the problem, and this window of one more is forbidden
pub record IsDeep (d : ProblemDraft) (depth : ℕ) (window : Window) : Type 0 where
  pub unbroken : (run : Run) → length run.instants ≤ depth → Breaks d run → ⊥
  pub long : length window.run.instants ≡ depth + 1
  pub forbidden : IsForbidden d window

-- the verdict is true of the problem. Of Work and Leaf it isn't said yet what they mean, so they are true of nothing
abbrev pub IsTrueOf : ProblemDraft → Verdict → Type 0
IsTrueOf d (Proved k) = IsProved d k
IsTrueOf d (Refuted run) = IsRefuted d run
IsTrueOf d (Consistent run) = IsConsistent d run
IsTrueOf d Inconsistent = IsInconsistent d
IsTrueOf d (Unknown depth (Depth window)) = IsDeep d depth window
IsTrueOf d (Unknown depth (Work which facts)) = ⊥
IsTrueOf d (Unknown depth (Leaf which literals)) = ⊥
