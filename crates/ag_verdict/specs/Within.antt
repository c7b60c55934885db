-- When the verdict of a problem keeps to the limits.
use Rattle.std.specs.Prelude.{◌≡◌, ◌≤◌, length}
use Rattle.ag_base.specs.declared.limits.Limits.{Limits}
use Rattle.ag_stream.specs.declared.problem.ProblemDraft.{ProblemDraft}
use Rattle.ag_verdict.specs.declared.verdict.Why.TheVariants.{Depth, Work, Leaf}
use Rattle.ag_verdict.specs.declared.verdict.Verdict.{Verdict}
use Rattle.ag_verdict.specs.declared.verdict.Verdict.TheVariants.{Proved, Refuted, Consistent, Inconsistent, Unknown}

-- the induction or the run is no longer than the depth, and a proof is given up at the depth alone
abbrev pub IsWithin : Limits → ProblemDraft → Verdict → Type 0
IsWithin l p (Proved k) = (1 ≤ k) × (k ≤ l.depth)
IsWithin l p (Refuted run) = (1 ≤ length run.instants) × (length run.instants ≤ l.depth)
IsWithin l p (Consistent run) = Unit {0}
IsWithin l p Inconsistent = Unit {0}
IsWithin l p (Unknown depth (Depth window)) = depth ≡ l.depth
IsWithin l p (Unknown depth (Work which facts)) = ⊥
IsWithin l p (Unknown depth (Leaf which literals)) = ⊥
