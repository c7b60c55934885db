-- A plain problem asks of a moment what it asks of the moment's instant by itself.
use Rattle.std.proofs.Common.{◌≡◌, ℕ, ◌+◌, ◌<◌, zero, suc, Bool, true, false, List, [], ◌∷◌, length, get_or, take, Option, Some, None, sym, refl, ap, subst, ◌∙◌, arith, All, IsSomeAnd, IfSome, IsTrue, ◌↔◌, inl, inr}
use Rattle.std.proofs.lemmas.Bool.{cases_lt}
use Rattle.std.proofs.lemmas.List.{get_or_read}
use Rattle.std.proofs.lemmas.List.Elements.{All-nil, All-cons, All-head, All-tail}
use Rattle.ag_stream.specs.declared.problem.ProblemDraft.{ProblemDraft}
use Rattle.ag_stream.specs.declared.problem.Instant.{Instant}
use Rattle.ag_stream.specs.declared.problem.Run.{Run}
use Rattle.ag_stream.specs.declared.problem.Equation.{Equation}
use Rattle.ag_stream.specs.declared.problem.Equation.TheVariants as equations
use Rattle.ag_stream.specs.Values.{Moment, holds, nothing}
use Rattle.ag_stream.specs.Runs.{moments, front, last, Keeps, KeepsEquations, AllHold, ClaimIs, IsRun, IsPremisesRun, Breaks}
use Rattle.ag_stream.specs.Work.{IsPlainForm, alone, holds_in, KeepsPremisesAt, AllHoldAt, ClaimFailsAt}
use Rattle.ag_stream.proofs.Truths.{holds_alone}
use Rattle.ag_stream.proofs.Equations.{all_kept, kept_at, equation_at, at_inside}
use Rattle.std.proofs.lemmas.Option.{get_or_from_slice_get}

-- what holds of each instant holds of each moment, and the other way round
pub all_moments : (P : Moment → Type 0) (Q : Instant → Type 0) → ((m : Moment) → Q m.now → P m) → (b : Option Instant) (is : List Instant) → All Q is → All P (moments b is)
all_moments P Q f b [] h = All-nil P
all_moments P Q f None (i ∷ is) h = All-cons P (record { first = true; before = nothing; now = i }) (moments (Some i) is) (f (record { first = true; before = nothing; now = i }) (All-head Q i is h)) (all_moments P Q f (Some i) is (All-tail Q i is h))
all_moments P Q f (Some b) (i ∷ is) h = All-cons P (record { first = false; before = b; now = i }) (moments (Some i) is) (f (record { first = false; before = b; now = i }) (All-head Q i is h)) (all_moments P Q f (Some i) is (All-tail Q i is h))

pub all_instants : (P : Moment → Type 0) (Q : Instant → Type 0) → ((m : Moment) → P m → Q m.now) → (b : Option Instant) (is : List Instant) → All P (moments b is) → All Q is
all_instants P Q f b [] h = All-nil Q
all_instants P Q f None (i ∷ is) h = All-cons Q i is (f (record { first = true; before = nothing; now = i }) (All-head P (record { first = true; before = nothing; now = i }) (moments (Some i) is) h)) (all_instants P Q f (Some i) is (All-tail P (record { first = true; before = nothing; now = i }) (moments (Some i) is) h))
all_instants P Q f (Some b) (i ∷ is) h = All-cons Q i is (f (record { first = false; before = b; now = i }) (All-head P (record { first = false; before = b; now = i }) (moments (Some i) is) h)) (all_instants P Q f (Some i) is (All-tail P (record { first = false; before = b; now = i }) (moments (Some i) is) h))

pub front_moments : (P : Moment → Type 0) (Q : Instant → Type 0) → ((m : Moment) → Q m.now → P m) → (b : Option Instant) (is : List Instant) → All Q (front is) → All P (front (moments b is))
front_moments P Q f b [] h = All-nil P
front_moments P Q f None (i ∷ []) h = All-nil P
front_moments P Q f (Some b) (i ∷ []) h = All-nil P
front_moments P Q f None (i ∷ j ∷ is) h = All-cons P (record { first = true; before = nothing; now = i }) (front (moments (Some i) (j ∷ is))) (f (record { first = true; before = nothing; now = i }) (All-head Q i (front (j ∷ is)) h)) (front_moments P Q f (Some i) (j ∷ is) (All-tail Q i (front (j ∷ is)) h))
front_moments P Q f (Some b) (i ∷ j ∷ is) h = All-cons P (record { first = false; before = b; now = i }) (front (moments (Some i) (j ∷ is))) (f (record { first = false; before = b; now = i }) (All-head Q i (front (j ∷ is)) h)) (front_moments P Q f (Some i) (j ∷ is) (All-tail Q i (front (j ∷ is)) h))

pub front_instants : (P : Moment → Type 0) (Q : Instant → Type 0) → ((m : Moment) → P m → Q m.now) → (b : Option Instant) (is : List Instant) → All P (front (moments b is)) → All Q (front is)
front_instants P Q f b [] h = All-nil Q
front_instants P Q f None (i ∷ []) h = All-nil Q
front_instants P Q f (Some b) (i ∷ []) h = All-nil Q
front_instants P Q f None (i ∷ j ∷ is) h = All-cons Q i (front (j ∷ is)) (f (record { first = true; before = nothing; now = i }) (All-head P (record { first = true; before = nothing; now = i }) (front (moments (Some i) (j ∷ is))) h)) (front_instants P Q f (Some i) (j ∷ is) (All-tail P (record { first = true; before = nothing; now = i }) (front (moments (Some i) (j ∷ is))) h))
front_instants P Q f (Some b) (i ∷ j ∷ is) h = All-cons Q i (front (j ∷ is)) (f (record { first = false; before = b; now = i }) (All-head P (record { first = false; before = b; now = i }) (front (moments (Some i) (j ∷ is))) h)) (front_instants P Q f (Some i) (j ∷ is) (All-tail P (record { first = false; before = b; now = i }) (front (moments (Some i) (j ∷ is))) h))

pub last_moment : (P : Moment → Type 0) (Q : Instant → Type 0) → ((m : Moment) → Q m.now → P m) → (b : Option Instant) (is : List Instant) → IsSomeAnd (last is) Q → IsSomeAnd (last (moments b is)) P
last_moment P Q f b [] h = absurd h
last_moment P Q f None (i ∷ []) h = f (record { first = true; before = nothing; now = i }) h
last_moment P Q f (Some b) (i ∷ []) h = f (record { first = false; before = b; now = i }) h
last_moment P Q f None (i ∷ j ∷ is) h = last_moment P Q f (Some i) (j ∷ is) h
last_moment P Q f (Some b) (i ∷ j ∷ is) h = last_moment P Q f (Some i) (j ∷ is) h

pub last_instant : (P : Moment → Type 0) (Q : Instant → Type 0) → ((m : Moment) → P m → Q m.now) → (b : Option Instant) (is : List Instant) → IsSomeAnd (last (moments b is)) P → IsSomeAnd (last is) Q
last_instant P Q f b [] h = absurd h
last_instant P Q f None (i ∷ []) h = f (record { first = true; before = nothing; now = i }) h
last_instant P Q f (Some b) (i ∷ []) h = f (record { first = false; before = b; now = i }) h
last_instant P Q f None (i ∷ j ∷ is) h = last_instant P Q f (Some i) (j ∷ is) h
last_instant P Q f (Some b) (i ∷ j ∷ is) h = last_instant P Q f (Some i) (j ∷ is) h

-- all but the last, and the last, by number
pub front_take : (is : List Instant) (n : ℕ) → suc n ≡ length is → front is ≡ take n is
front_take [] n e = absurd (omega (arith, e))
front_take (i ∷ []) zero e = refl
front_take (i ∷ []) (suc n) e = absurd (omega (arith, e))
front_take (i ∷ j ∷ is) zero e = absurd (omega (arith, e))
front_take (i ∷ j ∷ is) (suc n) e = ap (λ (xs : List Instant). i ∷ xs) (front_take (j ∷ is) n (omega (arith, e)))

pub last_get : (is : List Instant) (n : ℕ) (d : Instant) → suc n ≡ length is → last is ≡ Some (get_or is n d)
last_get [] n d e = absurd (omega (arith, e))
last_get (i ∷ []) zero d e = refl
last_get (i ∷ []) (suc n) d e = absurd (omega (arith, e))
last_get (i ∷ j ∷ is) zero d e = absurd (omega (arith, e))
last_get (i ∷ j ∷ is) (suc n) d e = last_get (j ∷ is) n d (omega (arith, e))

-- equations, lists of parts and the claim at a moment
pub keeps_at : (d : ProblemDraft) → IsPlainForm d → (m : Moment) → KeepsEquations d (alone m.now.flags) → KeepsEquations d m
keeps_at d form m keeps k e lt =
    let at = equation_at d form k lt in
    let K : Equation → Type 0 = Keeps m (holds m d.parts) in
    subst K (sym (get_or_from_slice_get d.equations k (equations.Flag at.0 at.1) e at.2))
    (kept_at d m.now.flags k keeps at.0 at.1 at.2 ∙ sym (holds_alone d form m at.1 (at_inside d form k at.0 at.1 at.2).1))

pub keeps_alone : (d : ProblemDraft) → IsPlainForm d → (m : Moment) → KeepsEquations d m → KeepsEquations d (alone m.now.flags)
keeps_alone d form m keeps =
    all_kept d form m.now.flags (λ k lt s p at.
    let e : Equation = equations.Flag s p in
    let K : Equation → Type 0 = Keeps m (holds m d.parts) in
    let kept : K e = subst K (get_or_from_slice_get d.equations k e e at) (keeps k e lt) in
    kept ∙ holds_alone d form m p (at_inside d form k s p at).1)

pub hold_at : (d : ProblemDraft) → IsPlainForm d → (list : List ℕ) → All (λ p. p < length d.parts) list → (m : Moment) → AllHoldAt d list m.now → AllHold d list m
hold_at d form list within m h k e lt = holds_alone d form m (get_or list k e) (within k e lt) ∙ h k e lt

pub hold_alone : (d : ProblemDraft) → IsPlainForm d → (list : List ℕ) → All (λ p. p < length d.parts) list → (m : Moment) → AllHold d list m → AllHoldAt d list m.now
hold_alone d form list within m h k e lt = sym (holds_alone d form m (get_or list k e) (within k e lt)) ∙ h k e lt

claim_to : (o : Option ℕ) (n : ℕ) (P Q : ℕ → Type 0) → IfSome o (λ p. p < n) → ((p : ℕ) → p < n → P p → Q p) → IsSomeAnd o P → IsSomeAnd o Q
claim_to None n P Q within f h = h
claim_to (Some p) n P Q within f h = f p within h

pub claim_at : (d : ProblemDraft) → IsPlainForm d → (m : Moment) → ClaimFailsAt d m.now → ClaimIs d false m
claim_at d form m h =
    claim_to d.claim (length d.parts) (λ p. holds_in d m.now.flags p ≡ false) (λ p. holds m d.parts p ≡ false) form.formed.claim (λ p within e. holds_alone d form m p within ∙ e) h

pub claim_alone : (d : ProblemDraft) → IsPlainForm d → (m : Moment) → ClaimIs d false m → ClaimFailsAt d m.now
claim_alone d form m h =
    claim_to d.claim (length d.parts) (λ p. holds m d.parts p ≡ false) (λ p. holds_in d m.now.flags p ≡ false) form.formed.claim (λ p within e. sym (holds_alone d form m p within) ∙ e) h

-- premises, instant by instant
pub premises_from : (d : ProblemDraft) → IsPlainForm d → (run : Run) → IsRun d run → All (KeepsPremisesAt d) run.instants → IsPremisesRun d run
premises_from d form run is_run all = record {
  is_run = is_run;
  equations = all_moments (KeepsEquations d) (KeepsPremisesAt d) (λ m h. keeps_at d form m h.equations) None run.instants all;
  so_far = all_moments (AllHold d d.so_far) (KeepsPremisesAt d) (λ m h. hold_at d form d.so_far form.formed.so_far m h.so_far) None run.instants all;
}

pub premises_each : (d : ProblemDraft) → IsPlainForm d → (run : Run) → IsPremisesRun d run → (k : ℕ) (e : Instant) → k < length run.instants → KeepsPremisesAt d (get_or run.instants k e)
premises_each d form run h k e lt =
    let E : Instant → Type 0 = λ i. KeepsEquations d (alone i.flags) in
    record {
      equations = all_instants (KeepsEquations d) E (keeps_alone d form) None run.instants h.equations k e lt;
      so_far = all_instants (AllHold d d.so_far) (AllHoldAt d d.so_far) (hold_alone d form d.so_far form.formed.so_far) None run.instants h.so_far k e lt;
    }

-- breaking, by the instants before the last and the last
pub breaks_from : (d : ProblemDraft) → IsPlainForm d → (run : Run) → IsPremisesRun d run → All (AllHoldAt d d.earlier) (front run.instants) → IsSomeAnd (last run.instants) (ClaimFailsAt d) → Breaks d run
breaks_from d form run premises earlier claim = record {
  premises = premises;
  earlier = front_moments (AllHold d d.earlier) (AllHoldAt d d.earlier) (hold_at d form d.earlier form.formed.earlier) None run.instants earlier;
  claim = last_moment (ClaimIs d false) (ClaimFailsAt d) (claim_at d form) None run.instants claim;
}

pub breaks_earlier : (d : ProblemDraft) → IsPlainForm d → (run : Run) → Breaks d run → All (AllHoldAt d d.earlier) (front run.instants)
breaks_earlier d form run h = front_instants (AllHold d d.earlier) (AllHoldAt d d.earlier) (hold_alone d form d.earlier form.formed.earlier) None run.instants h.earlier

pub breaks_claim : (d : ProblemDraft) → IsPlainForm d → (run : Run) → Breaks d run → IsSomeAnd (last run.instants) (ClaimFailsAt d)
breaks_claim d form run h = last_instant (ClaimIs d false) (ClaimFailsAt d) (claim_alone d form) None run.instants h.claim

pub some_at : (o : Option Instant) (i : Instant) (Q : Instant → Type 0) → o ≡ Some i → Q i → IsSomeAnd o Q
some_at o i Q e h = let S : Option Instant → Type 0 = λ x. IsSomeAnd x Q in subst S (sym e) h

pub at_some : (o : Option Instant) (i : Instant) (Q : Instant → Type 0) → o ≡ Some i → IsSomeAnd o Q → Q i
at_some o i Q e h = let S : Option Instant → Type 0 = λ x. IsSomeAnd x Q in subst S e h

-- whether the run breaks the problem, once the premises and what holds earlier are known to hold
pub breaks_by_claim : (d : ProblemDraft) → IsPlainForm d → (run : Run) (n : ℕ) (i : Instant) (answer : Bool) → suc n ≡ length run.instants → i ≡ get_or run.instants n i → IsPremisesRun d run → All (AllHoldAt d d.earlier) (take n run.instants) → (IsTrue answer ↔ ClaimFailsAt d i) → IsTrue answer ↔ Breaks d run
breaks_by_claim d form run n i answer long is premises earlier fails =
    let A : List Instant → Type 0 = All (AllHoldAt d d.earlier) in
    let l : last run.instants ≡ Some i = last_get run.instants n i long ∙ ap (λ (x : Instant). Some x) (sym is) in (
      (λ t. breaks_from d form run premises (subst A (sym (front_take run.instants n long)) earlier) (some_at (last run.instants) i (ClaimFailsAt d) l (fails.0 t))),
      (λ b. fails.1 (at_some (last run.instants) i (ClaimFailsAt d) l (breaks_claim d form run b))),
    )

pub breaks_take : (d : ProblemDraft) → IsPlainForm d → (run : Run) (n : ℕ) → suc n ≡ length run.instants → Breaks d run → All (AllHoldAt d d.earlier) (take n run.instants)
breaks_take d form run n long b =
    let A : List Instant → Type 0 = All (AllHoldAt d d.earlier) in
    subst A (front_take run.instants n long) (breaks_earlier d form run b)

-- one instant more
pub each_more : (P : Instant → Type 0) (is : List Instant) (n : ℕ) (i : Instant) → n < length is → i ≡ get_or is n i → ((j : ℕ) (e : Instant) → j < n → P (get_or is j e)) → P i → (j : ℕ) (e : Instant) → j < n + 1 → P (get_or is j e)
each_more P is n i lt read below here j e less =
    elim (cases_lt j n) [
      | inl before ↦ below j e before
      | inr past ↦
          let same : n ≡ j = omega (arith, less, past) in
          let Q : ℕ → Type 0 = λ x. P (get_or is x e) in
          subst Q same (subst P (get_or_read is n i lt read e) here)
    ]
