-- A plain problem says the same at every moment with the same instant.
use Rattle.std.proofs.Common.{◌≡◌, ◌+◌, ◌<◌, ◌≤◌, ◌+ℤ◌, ◌∙◌, ℕ, zero, suc, Bool, false, List, [], ◌∷◌, ◌++◌, length, replicate, get_or, true, Option, Some, None, IsSome, IsNone, refl, sym, ap, arith}
use Rattle.std.specs.Prelude.{All, IsSomeAnd}
use Rattle.std.specs.List.{AllByRecursion}
use Rattle.std.proofs.lemmas.List.{length-replicate}
use Rattle.std.proofs.lemmas.List.Elements.{All-from_recursion, recursion_from_All, All-replicate, All-nil, All-head}
use Rattle.ag_stream.specs.declared.problem.Row.{Row}
use Rattle.ag_stream.specs.declared.problem.RowTerm.{RowTerm}
use Rattle.ag_stream.specs.declared.problem.Part.{Part}
use Rattle.ag_stream.specs.declared.problem.Part.TheVariants as parts
use Rattle.ag_stream.specs.declared.problem.Equation.{Equation}
use Rattle.ag_stream.specs.declared.problem.Equation.TheVariants as equations
use Rattle.ag_stream.specs.declared.problem.ProblemDraft.{ProblemDraft}
use Rattle.ag_stream.specs.declared.problem.Instant.{Instant}
use Rattle.ag_stream.specs.declared.problem.Run.{Run}
use Rattle.ag_stream.specs.declared.problem.Window.{Window}
use Rattle.ag_stream.specs.Values.{Moment, nothing, flag_at, is_at_most_zero, terms_value, truth_of, truths_after, holds}
use Rattle.ag_stream.specs.Forms.{IsPlain, IsPlainPart, IsFlagEquation}
use Rattle.ag_stream.specs.Runs.{moments, moments_of, last, Keeps, KeepsEquations, AllHold, ClaimIs, IsInstant, IsRun, IsPremisesRun, Breaks, IsForbidden}
use Rattle.ag_verdict.specs.Verdicts.{IsProved, IsRefuted, IsConsistent, IsInconsistent}
use Rattle.ag_verdict.specs.Plain.{single, staying, LastBreaks, UnbrokenIsProved, BrokenIsRefuted, KeptIsConsistent, UnkeptIsInconsistent}

same_truth : (m n : Moment) → m.now ≡ n.now → (known : List Bool) (p : Part) → IsPlainPart p → truth_of m known p ≡ truth_of n known p
same_truth m n e known (parts.Truth b) h = refl
same_truth m n e known (parts.Flag stream before) h = rw h (ap (λ (i : Instant). flag_at i stream) e)
same_truth m n e known (parts.Compare row) h =
    ap (λ (ts : List RowTerm). is_at_most_zero (terms_value m ts +ℤ row.constant)) h
    ∙ sym (ap (λ (ts : List RowTerm). is_at_most_zero (terms_value n ts +ℤ row.constant)) h)
same_truth m n e known (parts.Not a) h = refl
same_truth m n e known (parts.And a b) h = refl
same_truth m n e known (parts.Or a b) h = refl
same_truth m n e known (parts.Same a b) h = refl
same_truth m n e known (parts.Choice test one other) h = refl
same_truth m n e known (parts.Arrow first later) h = absurd h

same_truths : (m n : Moment) → m.now ≡ n.now → (ps : List Part) (known : List Bool) → AllByRecursion IsPlainPart ps → truths_after m known ps ≡ truths_after n known ps
same_truths m n e [] known h = refl
same_truths m n e (p ∷ ps) known h =
    ap (λ (b : Bool). truths_after m (known ++ b ∷ []) ps) (same_truth m n e known p h.0)
    ∙ same_truths m n e ps (known ++ truth_of n known p ∷ []) h.1

same_kept : (m n : Moment) → m.now ≡ n.now → (t u : ℕ → Bool) → ((k : ℕ) → t k ≡ u k) → (es : List Equation)
    → AllByRecursion IsFlagEquation es → AllByRecursion (Keeps m t) es → AllByRecursion (Keeps n u) es
same_kept m n e t u s [] f k = tt
same_kept m n e t u s (equations.Flag stream part ∷ es) f k =
    (ap (λ (i : Instant). flag_at i stream) (sym e) ∙ (k.0 ∙ s part), same_kept m n e t u s es f.1 k.1)
same_kept m n e t u s (equations.Whole stream row ∷ es) f k = absurd f.0
same_kept m n e t u s (equations.Choice stream part one other ∷ es) f k = absurd f.0
same_kept m n e t u s (equations.First stream first later ∷ es) f k = absurd f.0
same_kept m n e t u s (equations.Div stream row by ∷ es) f k = absurd f.0
same_kept m n e t u s (equations.Mod stream row by ∷ es) f k = absurd f.0

-- what a plain problem says at a moment it says at each with the same instant
record SaysTheSame (d : ProblemDraft) (m n : Moment) : Type 0 where
  equations : KeepsEquations d m → KeepsEquations d n
  all_hold : (list : List ℕ) → AllHold d list m → AllHold d list n
  claim : (b : Bool) → ClaimIs d b m → ClaimIs d b n

same_claim : (o : Option ℕ) (b : Bool) (t u : ℕ → Bool) → ((k : ℕ) → t k ≡ u k) → IsSomeAnd o (λ part. t part ≡ b) → IsSomeAnd o (λ part. u part ≡ b)
same_claim None b t u s h = h
same_claim (Some part) b t u s h = sym (s part) ∙ h

says_the_same : (d : ProblemDraft) (m n : Moment) → IsPlain d → m.now ≡ n.now → SaysTheSame d m n
says_the_same d m n plain e =
    let t : ℕ → Bool = holds m d.parts in
    let u : ℕ → Bool = holds n d.parts in
    let s : (k : ℕ) → t k ≡ u k = λ k. ap (λ (ts : List Bool). get_or ts k false) (same_truths m n e d.parts [] (recursion_from_All IsPlainPart d.parts plain.parts)) in
    record {
      equations = λ k. All-from_recursion (Keeps n u) d.equations (same_kept m n e t u s d.equations (recursion_from_All IsFlagEquation d.equations plain.equations) (recursion_from_All (Keeps m t) d.equations k));
      all_hold = λ list h k x l. sym (s (get_or list k x)) ∙ h k x l;
      claim = λ b h. same_claim d.claim b t u s h;
    }

some_and : {A : Type 0} (o : Option A) (P : A → Type 0) → IsSomeAnd o P → (x : A) × (o ≡ Some x) × P x
some_and None P h = absurd h
some_and (Some x) P h = (x, refl, h)

All_last : {A : Type 0} (P : A → Type 0) (xs : List A) (x : A) → AllByRecursion P xs → last xs ≡ Some x → P x
All_last P [] x h e = cc
All_last P (y ∷ []) x h e = let s : y ≡ x = cc in rw (sym s) h.0
All_last P (y ∷ z ∷ ys) x h e = All_last P (z ∷ ys) x h.1 e

last_now : (before : Option Instant) (is : List Instant) (m : Moment) → last (moments before is) ≡ Some m → last is ≡ Some m.now
last_now before [] m e = cc
last_now None (i ∷ []) m e = let s : record { first = true; before = nothing; now = i } ≡ m = cc in ap (λ (x : Moment). Some x.now) s
last_now (Some b) (i ∷ []) m e = let s : record { first = false; before = b; now = i } ≡ m = cc in ap (λ (x : Moment). Some x.now) s
last_now None (i ∷ j ∷ is) m e = last_now (Some i) (j ∷ is) m e
last_now (Some b) (i ∷ j ∷ is) m e = last_now (Some i) (j ∷ is) m e

-- the moment at which a run of one instant stands
abbrev moment_of : Instant → Moment
moment_of i = record { first = true; before = nothing; now = i }

one : {A : Type 0} (P : A → Type 0) (x : A) → P x → All P (x ∷ [])
one P x h = All-from_recursion P (x ∷ []) (h, tt)

-- the last of these moments, by itself, keeps the premises, and breaks the problem where the claim fails there
last_breaks : (d : ProblemDraft) (before : Option Instant) (is : List Instant) → IsPlain d → All (IsInstant d) is
    → All (KeepsEquations d) (moments before is) → All (AllHold d d.so_far) (moments before is) → IsSomeAnd (last (moments before is)) (ClaimIs d false)
    → (i : Instant) × (last is ≡ Some i) × Breaks d (single i)
last_breaks d before is plain fits kept so_far claim =
    let ms : List Moment = moments before is in
    let found = some_and (last ms) (ClaimIs d false) claim in
    let m : Moment = found.0 in
    let at : last is ≡ Some m.now = last_now before is m found.1 in
    let same = says_the_same d m (moment_of m.now) plain refl in (
      m.now,
      at,
      record {
        premises = record {
          is_run = record {
            some = omega arith;
            each = one (IsInstant d) m.now (All_last (IsInstant d) is m.now (recursion_from_All (IsInstant d) is fits) at);
          };
          equations = one (KeepsEquations d) (moment_of m.now) (same.equations (All_last (KeepsEquations d) ms m (recursion_from_All (KeepsEquations d) ms kept) found.1));
          so_far = one (AllHold d d.so_far) (moment_of m.now) (same.all_hold d.so_far (All_last (AllHold d d.so_far) ms m (recursion_from_All (AllHold d d.so_far) ms so_far) found.1));
        };
        earlier = All-nil (AllHold d d.earlier);
        claim = same.claim false found.2;
      },
    )

pub forbidden_breaks : LastBreaks
forbidden_breaks d w plain f = last_breaks d w.prior w.run.instants plain f.window.run.each f.equations f.so_far f.claim

pub unbroken_is_proved : UnbrokenIsProved
unbroken_is_proved d plain claim none = record {
  claim = claim;
  some = omega arith;
  unbroken = λ run b. let found = last_breaks d None run.instants plain b.premises.is_run.each b.premises.equations b.premises.so_far b.claim in none found.0 found.2;
  inductive = λ w long f. let found = forbidden_breaks d w plain f in none found.0 found.2;
  least = λ j some few h. absurd (omega arith);
}

pub broken_is_refuted : BrokenIsRefuted
broken_is_refuted d i b = record {
  breaks = b;
  shortest = λ other o. let some = o.premises.is_run.some in omega arith;
}

-- each moment of a run that stays at an instant has it
moments_stay : (P : Moment → Type 0) (i : Instant) → ((m : Moment) → m.now ≡ i → P m) → (n : ℕ) (before : Option Instant) → AllByRecursion P (moments before (replicate n i))
moments_stay P i h zero before = tt
moments_stay P i h (suc n) None = (h (record { first = true; before = nothing; now = i }) refl, moments_stay P i h n (Some i))
moments_stay P i h (suc n) (Some b) = (h (record { first = false; before = b; now = i }) refl, moments_stay P i h n (Some i))

pub kept_is_consistent : KeptIsConsistent
kept_is_consistent d i plain none long p =
    let P : Moment → Type 0 = KeepsEquations d in
    let Q : Moment → Type 0 = AllHold d d.so_far in
    let same : (m : Moment) → m.now ≡ i → SaysTheSame d (moment_of i) m = λ m e. says_the_same d (moment_of i) m plain (sym e) in
    record {
      claim = none;
      long = length-replicate d.length i;
      premises = record {
        is_run = record {
          some = rw length-replicate long;
          each = All-replicate (IsInstant d) d.length i (All-head (IsInstant d) i [] p.is_run.each);
        };
        equations = All-from_recursion P (moments None (replicate d.length i)) (moments_stay P i (λ m e. (same m e).equations (All-head P (moment_of i) [] p.equations)) d.length None);
        so_far = All-from_recursion Q (moments None (replicate d.length i)) (moments_stay Q i (λ m e. (same m e).all_hold d.so_far (All-head Q (moment_of i) [] p.so_far)) d.length None);
      };
    }

-- the first instant of a run of the premises keeps them by itself
first_keeps : (d : ProblemDraft) (is : List Instant) → IsPremisesRun d (record { instants = is }) → (i : Instant) × IsPremisesRun d (single i)
first_keeps d [] p = absurd (let some = p.is_run.some in omega arith)
first_keeps d (i ∷ is) p =
    let P : Moment → Type 0 = KeepsEquations d in
    let Q : Moment → Type 0 = AllHold d d.so_far in (
      i,
      record {
        is_run = record { some = omega arith; each = one (IsInstant d) i (All-head (IsInstant d) i is p.is_run.each) };
        equations = one P (moment_of i) (All-head P (moment_of i) (moments (Some i) is) p.equations);
        so_far = one Q (moment_of i) (All-head Q (moment_of i) (moments (Some i) is) p.so_far);
      },
    )

pub unkept_is_inconsistent : UnkeptIsInconsistent
unkept_is_inconsistent d plain none unkept = record {
  claim = none;
  none = λ run long p. let found = first_keeps d run.instants p in unkept found.0 found.1;
}
