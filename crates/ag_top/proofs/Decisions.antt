-- What trying every instant decides.
use Rattle.std.proofs.Common.{◌≡◌, ◌<◌, ◌≤◌, ◌∙◌, [], ◌∷◌, ℕ, ℤ, List, Option, Some, None, IsSome, IsNone, refl, sym, ap, arith, subst, length}
use Rattle.std.specs.Prelude.{IfSome, IfNone, MatchOption}
use Rattle.std.proofs.lemmas.List.Elements.{All-head}
use Rattle.ag_base.specs.declared.limits.Limits.{Limits}
use Rattle.ag_stream.specs.declared.problem.ProblemDraft.{ProblemDraft}
use Rattle.ag_stream.specs.declared.problem.Instant.{Instant}
use Rattle.ag_stream.specs.declared.problem.Run.{Run}
use Rattle.ag_stream.specs.Forms.{IsPlain, IsWellFormed}
use Rattle.ag_stream.specs.Runs.{Breaks, IsPremisesRun, IsInstant}
use Rattle.ag_verdict.specs.declared.verdict.Verdict.{Verdict}
use Rattle.ag_verdict.specs.declared.verdict.Verdict.TheVariants.{Refuted, Consistent, Inconsistent}
use Rattle.ag_verdict.specs.Plain.{single, staying, UnbrokenIsProved, BrokenIsRefuted, KeptIsConsistent, UnkeptIsInconsistent}
use Rattle.ag_verdict.specs.Verdicts.{IsTrueOf}
use Rattle.ag_verdict.specs.Within.{IsWithin}
use Rattle.ag_top.specs.Trying.{IsSought, IsSoughtBy, claim_verdict_of}
use Rattle.ag_top.proofs.Tries.{sought_premises}

-- a run of one instant that is sought, or none where there is none
pub record Found (d : ProblemDraft) (o : Option Run) : Type 0 where
  pub found : IfSome o (λ run. (i : Instant) × (run ≡ single i) × IsSought d run)
  pub none : IfNone o ((i : Instant) → IsSought d (single i) → ⊥)

pub claim_true : UnbrokenIsProved → BrokenIsRefuted → (d : ProblemDraft) (part : ℕ) (o : Option Run) → IsPlain d → d.claim ≡ Some part → Found d o → IsTrueOf d (claim_verdict_of o)
claim_true proved refuted d part None plain e f =
    proved d plain (subst IsSome (sym e) refl) (λ i b. f.none i (subst (λ (c : Option ℕ). IsSoughtBy d c (single i)) (sym e) b))
claim_true proved refuted d part (Some run) plain e f =
    let i : Instant = f.found.0 in
    let is : run ≡ single i = f.found.1 in
    let b : Breaks d (single i) = subst (Breaks d) is (subst (λ (c : Option ℕ). IsSoughtBy d c run) e f.found.2) in
    subst (λ (r : Run). IsTrueOf d (Refuted r)) (sym is) (refuted d i b)

some_length : (d : ProblemDraft) → d.claim ≡ None → IsWellFormed d → 0 < d.length
some_length d e w = let l = subst (λ (c : Option ℕ). MatchOption c ((1 ≤ d.length) × (d.length ≤ 30)) (λ part. d.length ≡ 0)) e w.length in omega (arith, l.0)

pub premises_true : KeptIsConsistent → UnkeptIsInconsistent → (d : ProblemDraft) (o : Option Run) (v : Verdict) (n : ℕ) → n ≡ d.length → IsPlain d → IsWellFormed d → d.claim ≡ None → Found d o
    → MatchOption o (v ≡ Inconsistent) (λ run. (i : Instant) → run ≡ single i → v ≡ Consistent (staying n i)) → IsTrueOf d v
premises_true kept unkept d None v n en plain w e f m =
    subst (IsTrueOf d) (sym m) (unkept d plain (subst IsNone (sym e) refl) (λ i p. f.none i (subst (λ (c : Option ℕ). IsSoughtBy d c (single i)) (sym e) p)))
premises_true kept unkept d (Some run) v n en plain w e f m =
    let i : Instant = f.found.0 in
    let is : run ≡ single i = f.found.1 in
    let p : IsPremisesRun d (single i) = subst (IsPremisesRun d) is (subst (λ (c : Option ℕ). IsSoughtBy d c run) e f.found.2) in
    subst (IsTrueOf d) (sym (m i is ∙ ap (λ k. Consistent (staying k i)) en)) (kept d i plain (subst IsNone (sym e) refl) (some_length d e w) p)

some_depth : (l : Limits) → 1 ≤ l.depth
some_depth l = l.in_range.some_depth

pub claim_within : (d : ProblemDraft) (o : Option Run) → Found d o → (l : Limits) → IsWithin l d (claim_verdict_of o)
claim_within d None f l = (omega arith, some_depth l)
claim_within d (Some run) f l = subst (λ (r : Run). IsWithin l d (Refuted r)) (sym f.found.1) (omega arith, some_depth l)

pub premises_within : (d : ProblemDraft) (o : Option Run) (v : Verdict) (n : ℕ) → Found d o → MatchOption o (v ≡ Inconsistent) (λ run. (i : Instant) → run ≡ single i → v ≡ Consistent (staying n i)) → (l : Limits) → IsWithin l d v
premises_within d None v n f m l = subst (IsWithin l d) (sym m) tt
premises_within d (Some run) v n f m l = subst (IsWithin l d) (sym (m f.found.0 f.found.1)) tt

empty_by : (ns : List ℤ) → length ns ≡ 0 → ns ≡ []
empty_by [] e = refl
empty_by (n ∷ ns) e = absurd (omega arith)

no_whole : (d : ProblemDraft) (i : Instant) → IsPlain d → IsPremisesRun d (single i) → i.whole ≡ []
no_whole d i plain p = empty_by i.whole (let w = (All-head (IsInstant d) i [] p.is_run.each).whole in let z = plain.ints in omega (arith, w, z))

-- the one instant that was found has no whole numbers
pub found_flat : (d : ProblemDraft) (o : Option Run) → IsPlain d → Found d o → IfSome o (λ run. (i : Instant) × (run ≡ single i) × (i.whole ≡ []))
found_flat d None plain f = tt
found_flat d (Some run) plain f =
    (f.found.0, f.found.1, no_whole d f.found.0 plain (subst (IsPremisesRun d) f.found.1 (sought_premises d d.claim run f.found.2)))
