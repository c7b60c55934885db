-- What the code of this crate keeps while it works on a plain problem.
use Rattle.std.specs.Prelude.{◌≡◌, ◌+◌, ◌<◌, ◌≤◌, ℕ, Bool, true, false, List, [], length, All, Contains, Some, slice_get, slice_index_or, count_by}
use Rattle.ag_stream.specs.declared.problem.Part.{Part}
use Rattle.ag_stream.specs.declared.problem.Part.TheVariants as parts
use Rattle.ag_stream.specs.declared.problem.Equation.TheVariants as equations
use Rattle.ag_stream.specs.declared.problem.ProblemDraft.{ProblemDraft}
use Rattle.ag_stream.specs.declared.problem.Instant.{Instant}
use Rattle.ag_stream.specs.Values.{Moment, nothing, holds}
use Rattle.ag_stream.specs.Runs.{IsInstant, KeepsEquations, AllHold, ClaimIs}
use Rattle.ag_stream.specs.Forms.{IsWellFormed, IsPlain, IsPlainPart, IsPartOf, targets}
use Rattle.ag_stream.specs.Dependence.{PartNames, DependsOn, HasNoCycle}
use Rattle.ag_stream.specs.Evaluation.{AgreesOnFree}

pub record IsPlainForm (d : ProblemDraft) : Type 0 where
  pub formed : IsWellFormed d
  pub plain : IsPlain d

-- the parts that a part is made of are before a number
abbrev pub AreBefore : ℕ → Part → Type 0
AreBefore n (parts.Not a) = a < n
AreBefore n (parts.And a b) = (a < n) × (b < n)
AreBefore n (parts.Or a b) = (a < n) × (b < n)
AreBefore n (parts.Same a b) = (a < n) × (b < n)
AreBefore n (parts.Choice test one other) = (test < n) × (one < n) × (other < n)
AreBefore n (parts.Arrow first later) = (first < n) × (later < n)
AreBefore n _ = Unit {0}

-- the part of that number in a plain problem
pub record IsPartAt (d : ProblemDraft) (n : ℕ) (p : Part) : Type 0 where
  pub there : slice_get d.parts n ≡ Some p
  pub before : AreBefore n p
  pub inside : IsPartOf d p
  pub plain : IsPlainPart p

-- the first moment of a run with these Boolean streams and no others
abbrev pub alone : List Bool → Moment
alone flags = record { first = true; before = nothing; now = record { whole = []; flags = flags } }

-- the part holds where the Boolean streams are these
abbrev pub holds_in : ProblemDraft → List Bool → ℕ → Bool
holds_in d flags part = holds (alone flags) d.parts part

-- the equation of that number is for this Boolean stream, and has this part
abbrev pub IsAt : ProblemDraft → ℕ → ℕ → ℕ → Type 0
IsAt d k stream part = slice_get d.equations k ≡ Some (equations.Flag stream part)

-- the number of the stream that the equation of that number is for
abbrev pub target_at : ProblemDraft → ℕ → ℕ
target_at d k = slice_index_or (targets d) k 0

abbrev pub IsMarked : List Bool → ℕ → Type 0
IsMarked marks stream = slice_index_or marks stream false ≡ true

-- the part names a stream that has a mark
abbrev pub NamesMarked : ProblemDraft → List Bool → ℕ → Type 0
NamesMarked d marks part = (s : ℕ) × IsMarked marks s × PartNames d (d.ints + s) part

-- some equation is for the Boolean stream
abbrev pub IsOwned : ProblemDraft → ℕ → Type 0
IsOwned d stream = (k : ℕ) × (p : ℕ) × IsAt d k stream p

-- equations by number, each once, so that none names a stream of itself or of one behind it
pub record IsOrder (d : ProblemDraft) (order : List ℕ) : Type 0 where
  pub within : All (λ k. k < length d.equations) order
  pub whole : (k : ℕ) → k < length d.equations → Contains order k
  pub pairs : (i j : ℕ) → i ≤ j → j < length order → DependsOn d (target_at d (slice_index_or order i 0)) (target_at d (slice_index_or order j 0)) → ⊥

-- what is kept while equations are put in order, and streams wait for theirs
pub record IsArranging (d : ProblemDraft) (order : List ℕ) (waits : List Bool) : Type 0 where
  pub size : length waits ≡ d.flags
  pub within : All (λ k. k < length d.equations) order
  pub placed : (k s p : ℕ) → IsAt d k s p → slice_index_or waits s false ≡ false → Contains order k
  pub owned : (s : ℕ) → IsMarked waits s → IsOwned d s
  pub behind : (j s : ℕ) → j < length order → IsMarked waits s → DependsOn d (target_at d (slice_index_or order j 0)) (d.ints + s) → ⊥
  pub pairs : (i j : ℕ) → i ≤ j → j < length order → DependsOn d (target_at d (slice_index_or order i 0)) (target_at d (slice_index_or order j 0)) → ⊥

abbrev pub waiting : List Bool → ℕ
waiting waits = count_by (λ w. w) waits

-- each equation of a stream that waits names one that waits
abbrev pub IsStuck : ProblemDraft → List Bool → Type 0
IsStuck d waits = (k s p : ℕ) → IsAt d k s p → IsMarked waits s → NamesMarked d waits p

-- what a made problem keeps
pub record IsMade (d : ProblemDraft) (equations : List ℕ) : Type 0 where
  pub formed : IsWellFormed d
  pub acyclic : HasNoCycle d
  pub order : IsOrder d equations

-- an instant that keeps the equations where it stands alone, and has the given values of streams without one
pub record IsEvaluationAt (d : ProblemDraft) (given now : Instant) : Type 0 where
  pub is_instant : IsInstant d now
  pub equations : KeepsEquations d (alone now.flags)
  pub free : AgreesOnFree d given now

-- what is asked of an instant by itself, where it stands alone
pub record KeepsPremisesAt (d : ProblemDraft) (i : Instant) : Type 0 where
  pub equations : KeepsEquations d (alone i.flags)
  pub so_far : AllHold d d.so_far (alone i.flags)

abbrev pub AllHoldAt : ProblemDraft → List ℕ → Instant → Type 0
AllHoldAt d parts i = AllHold d parts (alone i.flags)

abbrev pub ClaimFailsAt : ProblemDraft → Instant → Type 0
ClaimFailsAt d i = ClaimIs d false (alone i.flags)
