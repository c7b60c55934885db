-- Runs and windows of a problem, and what they keep and break.
use Rattle.std.specs.Prelude.{◌≡◌, ◌+◌, ◌<◌, ◌∷◌, [], ℕ, ℤ, pos, negsuc, ◌+ℤ◌, ◌*ℤ◌, Bool, true, false, if◌then◌else◌, List, length, All, Option, Some, None, IsSomeAnd, IfSome}
use Rattle.ag_stream.specs.declared.problem.Equation.{Equation}
use Rattle.ag_stream.specs.declared.problem.Equation.TheVariants as equations
use Rattle.ag_stream.specs.declared.problem.ProblemDraft.{ProblemDraft}
use Rattle.ag_stream.specs.declared.problem.Instant.{Instant}
use Rattle.ag_stream.specs.declared.problem.Run.{Run}
use Rattle.ag_stream.specs.declared.problem.Window.{Window}
use Rattle.ag_stream.specs.Values.{Moment, nothing, whole_at, flag_at, row_value, holds}

-- the moments of instants behind a prior one, or from the first instant of a run on
abbrev pub moments : Option Instant → List Instant → List Moment
moments before [] = []
moments None (i ∷ is) = record { first = true; before = nothing; now = i } ∷ moments (Some i) is
moments (Some before) (i ∷ is) = record { first = false; before = before; now = i } ∷ moments (Some i) is

abbrev pub moments_of : Run → List Moment
moments_of run = moments None run.instants

-- all but the last
abbrev pub front : {A : Type 0} → List A → List A
front [] = []
front (x ∷ []) = []
front (x ∷ y ∷ ys) = x ∷ front (y ∷ ys)

abbrev pub last : {A : Type 0} → List A → Option A
last [] = None
last (x ∷ []) = Some x
last (x ∷ y ∷ ys) = last (y ∷ ys)

abbrev pub magnitude : ℤ → ℕ
magnitude (pos n) = n
magnitude (negsuc n) = n + 1

-- the whole number of times that by goes into a number, and what is left, 0 or more and less than by's magnitude
pub record Divides (number by quotient remainder : ℤ) : Type 0 where
  pub sum : number ≡ (by *ℤ quotient) +ℤ remainder
  pub small : (n : ℕ) × (remainder ≡ pos n) × (n < magnitude by)

-- at this moment the equation's stream is what its right side says, where these are the truths of the parts
abbrev pub Keeps : Moment → (ℕ → Bool) → Equation → Type 0
Keeps m truth (equations.Flag stream part) = flag_at m.now stream ≡ truth part
Keeps m truth (equations.Whole stream row) = whole_at m.now stream ≡ row_value m row
Keeps m truth (equations.Choice stream part one other) = whole_at m.now stream ≡ (if truth part then row_value m one else row_value m other)
Keeps m truth (equations.First stream first later) = whole_at m.now stream ≡ (if m.first then row_value m first else row_value m later)
Keeps m truth (equations.Div stream row by) = (r : ℤ) × Divides (row_value m row) by (whole_at m.now stream) r
Keeps m truth (equations.Mod stream row by) = (q : ℤ) × Divides (row_value m row) by q (whole_at m.now stream)

abbrev pub KeepsEquations : ProblemDraft → Moment → Type 0
KeepsEquations d m = All (Keeps m (holds m d.parts)) d.equations

-- each part of the list holds
abbrev pub AllHold : ProblemDraft → List ℕ → Moment → Type 0
AllHold d list m = All (λ part. holds m d.parts part ≡ true) list

-- the claim is there, and has this truth
abbrev pub ClaimIs : ProblemDraft → Bool → Moment → Type 0
ClaimIs d truth m = IsSomeAnd d.claim (λ part. holds m d.parts part ≡ truth)

-- a value for each stream
pub record IsInstant (d : ProblemDraft) (i : Instant) : Type 0 where
  pub whole : length i.whole ≡ d.ints
  pub flags : length i.flags ≡ d.flags

-- one instant or more, each with a value for each stream, whatever its size
pub record IsRun (d : ProblemDraft) (run : Run) : Type 0 where
  pub some : 0 < length run.instants
  pub each : All (IsInstant d) run.instants

-- a run that keeps the equations and what holds so far at every instant
pub record IsPremisesRun (d : ProblemDraft) (run : Run) : Type 0 where
  pub is_run : IsRun d run
  pub equations : All (KeepsEquations d) (moments_of run)
  pub so_far : All (AllHold d d.so_far) (moments_of run)

-- a run of the premises in which what holds earlier does so before the last instant, and the claim fails at the last
pub record Breaks (d : ProblemDraft) (run : Run) : Type 0 where
  pub premises : IsPremisesRun d run
  pub earlier : All (AllHold d d.earlier) (front (moments_of run))
  pub claim : IsSomeAnd (last (moments_of run)) (ClaimIs d false)

abbrev pub moments_in : Window → List Moment
moments_in w = moments w.prior w.run.instants

-- a window with a value for each stream; the prior instant's values are free
pub record IsWindow (d : ProblemDraft) (w : Window) : Type 0 where
  pub prior : IfSome w.prior (IsInstant d)
  pub run : IsRun d w.run

-- it keeps the equations and what holds so far at each instant, what holds earlier and the claim at all but the last,
-- and fails the claim at the last
pub record IsForbidden (d : ProblemDraft) (w : Window) : Type 0 where
  pub window : IsWindow d w
  pub equations : All (KeepsEquations d) (moments_in w)
  pub so_far : All (AllHold d d.so_far) (moments_in w)
  pub earlier : All (AllHold d d.earlier) (front (moments_in w))
  pub claims : All (ClaimIs d true) (front (moments_in w))
  pub claim : IsSomeAnd (last (moments_in w)) (ClaimIs d false)

-- no window of k + 1 instants is forbidden
abbrev pub IsInductive : ProblemDraft → ℕ → Type 0
IsInductive d k = (w : Window) → length w.run.instants ≡ k + 1 → IsForbidden d w → ⊥
