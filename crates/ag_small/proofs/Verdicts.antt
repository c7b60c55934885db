-- Each obligation is a guarantee's or the consistency, and its verdict is one of the named runs.
use Rattle.std.proofs.Common.{◌≡◌, ℕ, zero, suc, ◌+◌, ◌-◌, ◌<◌, false, ◌⊎◌, List, [], ◌∷◌, length, map, get_or, Option, Some, None, refl, sym, ap, subst, ◌∙◌, inl, inr, arith, All}
use Rattle.std.specs.Prelude.{slice_get, IsSomeAnd, Contains}
use Rattle.std.proofs.lemmas.List.Elements.{Contains-append_cases}
use Rattle.ag_stream.specs.declared.problem.ProblemDraft.{ProblemDraft}
use Rattle.ag_stream.specs.declared.problem.Instant.{Instant}
use Rattle.ag_stream.specs.declared.problem.Run.{Run}
use Rattle.ag_stream.specs.Values.{Moment}
use Rattle.ag_stream.specs.Runs.{KeepsEquations, ClaimIs, moments_of, last, IsPremisesRun, Breaks}
use Rattle.ag_verdict.specs.declared.key.KeyKind.TheVariants as kinds
use Rattle.ag_verdict.specs.declared.key.Obligation.{Obligation}
use Rattle.ag_verdict.specs.declared.verdict.Why.TheVariants.{Depth, Work, Leaf}
use Rattle.ag_verdict.specs.declared.verdict.Verdict.{Verdict}
use Rattle.ag_verdict.specs.declared.verdict.Verdict.TheVariants.{Proved, Refuted, Consistent, Inconsistent, Unknown}
use Rattle.ag_verdict.specs.Verdicts.{IsTrueOf}
use Rattle.ag_small.specs.declared.package.Package.{Package}
use Rattle.ag_small.specs.declared.package.ClaimKind.TheVariants.{Guarantee}
use Rattle.ag_small.specs.declared.package.Formula.{Formula}
use Rattle.ag_small.specs.Rules.{IsWellFormed}
use Rattle.ag_small.specs.Named.{NamedInstant, BreaksNamed, claimed, claim_of, stand_in, StandsFor, IsTrueOfNamed}
use Rattle.ag_small.specs.Numbered.{numbers_from, draft_of, key_of, guarantees_from, obligations_of}
use Rattle.ag_small.specs.Carried.{KeepsAll, NamedHaveNumbered, NumberedHaveNamed, PremisesAgree, BreakingAgrees, VerdictsCarryOver}
use Rattle.ag_small.proofs.Formed.{length_mapped}
use Rattle.ag_small.proofs.Meaning.{IsClaimAt, claim_numbered}
use Rattle.ag_small.proofs.Carry.{numbered, numbered_is_run, assigns_from, equations_of, premises_to, premises_of, breaks_to, breaks_of, named_for}

abbrev guarantee_of : Package → ℕ → ℕ → Obligation
guarantee_of p number part = record { key = key_of p kinds.Guarantee number; layer = 0; problem = draft_of p (Some part) 0 }

abbrev consistency_of : Package → ℕ → Obligation
consistency_of p sought = record { key = key_of p kinds.Consistent 1; layer = 0; problem = draft_of p None sought }

guarantee_in : (p : Package) (number : ℕ) (parts : List ℕ) (k : ℕ) (o : Obligation) → k < length (guarantees_from p number parts) → get_or (guarantees_from p number parts) k o ≡ o
    → (n : ℕ) × (part : ℕ) × (slice_get parts n ≡ Some part) × (o ≡ guarantee_of p (number + n) part)
guarantee_in p number [] k o lt e = absurd (omega arith)
guarantee_in p number (part ∷ parts) zero o lt e = (0, part, refl, sym e ∙ ap (λ (n : ℕ). guarantee_of p n part) (omega arith))
guarantee_in p number (part ∷ parts) (suc k) o lt e =
    let g = guarantee_in p (number + 1) parts k o (omega arith) e in
    (suc g.0, g.1, g.2, g.3 ∙ ap (λ (n : ℕ). guarantee_of p n g.1) (omega arith))

record IsGuarantee (p : Package) (o : Obligation) : Type 0 where
  part : ℕ
  formula : Formula
  at : IsClaimAt p.claims 0 part formula
  problem_is : o.problem ≡ draft_of p (Some part) 0
  claim_is : claim_of p o.key ≡ Some formula

record IsConsistency (p : Package) (sought : ℕ) (o : Obligation) : Type 0 where
  problem_is : o.problem ≡ draft_of p None sought
  claim_is : claim_of p o.key ≡ None

kinds_of : (p : Package) (sought : ℕ) (o : Obligation) → Contains (obligations_of p sought) o → IsGuarantee p o ⊎ IsConsistency p sought o
kinds_of p sought o there =
    elim (Contains-append_cases (guarantees_from p 1 (numbers_from Guarantee 0 p.claims)) (consistency_of p sought ∷ []) o there) [
      | inl front ↦ inl (as_guarantee (guarantee_in p 1 (numbers_from Guarantee 0 p.claims) front.0 o front.1 front.2))
      | inr back ↦ inr (as_consistency back.0 back.1 back.2)
    ]
  where
    as_guarantee : (n : ℕ) × (part : ℕ) × (slice_get (numbers_from Guarantee 0 p.claims) n ≡ Some part) × (o ≡ guarantee_of p (1 + n) part) → IsGuarantee p o
    as_guarantee g =
        let c = claim_numbered Guarantee 0 p.claims g.0 g.1 g.2 in
        let back : (1 + g.0) - 1 ≡ g.0 = omega arith in
        record {
          part = g.1;
          formula = c.0;
          at = c.2;
          problem_is = ap (λ (x : Obligation). x.problem) g.3;
          claim_is = ap (λ (x : Obligation). claim_of p x.key) g.3 ∙ ap (λ (n : ℕ). slice_get (claimed Guarantee p) n) back ∙ c.1;
        }

    as_consistency : (k : ℕ) → k < 1 → get_or (consistency_of p sought ∷ []) k o ≡ o → IsConsistency p sought o
    as_consistency zero lt e = record { problem_is = ap (λ (x : Obligation). x.problem) (sym e); claim_is = ap (λ (x : Obligation). claim_of p x.key) (sym e) }
    as_consistency (suc k) lt e = absurd (omega arith)

some_draft : (p : Package) (sought : ℕ) (o : Obligation) → Contains (obligations_of p sought) o → (claim : Option ℕ) × (long : ℕ) × (o.problem ≡ draft_of p claim long)
some_draft p sought o there =
    elim (kinds_of p sought o there) [ inl g ↦ (Some g.part, 0, g.problem_is) | inr c ↦ (None, sought, c.problem_is) ]

abbrev run_of : List Instant → Run
run_of xs = record { instants = xs }

run_is : (p : Package) (run : Run) (named : List NamedInstant) → StandsFor p run named → run ≡ numbered p named
run_is p run named e = ap run_of e

pub named_have_numbered : NamedHaveNumbered
named_have_numbered p sought o named kept there some keeps =
    let d = some_draft p sought o there in
    let all : KeepsAll (draft_of p d.0 d.1) (numbered p named) = record { is_run = numbered_is_run p d.0 d.1 named some; equations = equations_of p d.0 d.1 kept named keeps } in
    (numbered p named, refl, subst (λ (x : ProblemDraft). KeepsAll x (numbered p named)) (sym d.2) all, λ other e. run_is p other named e)

pub numbered_have_named : NumberedHaveNamed
numbered_have_named p sought o run kept there keeps =
    let d = some_draft p sought o there in
    let all : KeepsAll (draft_of p d.0 d.1) run = subst (λ (x : ProblemDraft). KeepsAll x run) d.2 keeps in
    let n = named_for p d.0 d.1 run kept all.is_run in
    let equations = subst (λ (r : Run). All (KeepsEquations (draft_of p d.0 d.1)) (moments_of r)) (run_is p run n.0 n.1) all.equations in
    (n.0, n.1, assigns_from p d.0 d.1 kept n.0 equations)

pub premises_agree : PremisesAgree
premises_agree p sought o run named kept there stands =
    let d = some_draft p sought o there in
    let e = run_is p run named stands in (
      λ h. premises_to p d.0 d.1 kept named (subst (λ (r : Run). IsPremisesRun (draft_of p d.0 d.1) r) e (subst (λ (x : ProblemDraft). IsPremisesRun x run) d.2 h)),
      λ h. subst (λ (x : ProblemDraft). IsPremisesRun x run) (sym d.2) (subst (λ (r : Run). IsPremisesRun (draft_of p d.0 d.1) r) (sym e) (premises_of p d.0 d.1 kept named h)),
    )

some_formula : (a b : Formula) (o : Option Formula) → o ≡ Some a → o ≡ Some b → a ≡ b
some_formula a b o x y = cc

pub breaking_agrees : BreakingAgrees
breaking_agrees p sought o claim run named kept there is stands =
    elim (kinds_of p sought o there) [
      | inl g ↦
          let e = run_is p run named stands in
          let f = some_formula g.formula claim (claim_of p o.key) g.claim_is is in (
            λ h. subst (λ (c : Formula). BreaksNamed p c named) f
                (breaks_to p g.part 0 g.formula kept g.at named (subst (λ (r : Run). Breaks (draft_of p (Some g.part) 0) r) e (subst (λ (x : ProblemDraft). Breaks x run) g.problem_is h))),
            λ h. subst (λ (x : ProblemDraft). Breaks x run) (sym g.problem_is)
                (subst (λ (r : Run). Breaks (draft_of p (Some g.part) 0) r) (sym e) (breaks_of p g.part 0 g.formula kept g.at named (subst (λ (c : Formula). BreaksNamed p c named) (sym f) h))),
          )
      | inr c ↦ absurd (none_some (claim_of p o.key) claim c.claim_is is)
    ]
  where
    none_some : (o : Option Formula) (f : Formula) → o ≡ None → o ≡ Some f → ⊥
    none_some o f x y = cc

length-numbered : (p : Package) (named : List NamedInstant) → length (map (stand_in p) named) ≡ length named
length-numbered p named = length_mapped (stand_in p) named

guarantee_verdict : (p : Package) (sought : ℕ) (o : Obligation) (v : Verdict) → IsWellFormed p → (g : IsGuarantee p o) → IsTrueOf (draft_of p (Some g.part) 0) v → IsTrueOfNamed p sought o.key v
guarantee_verdict p sought o (Proved k) kept g h = record {
  claimed = rw g.claim_is refl;
  unbroken = λ f run e b. h.unbroken (numbered p run) (breaks_of p g.part 0 g.formula kept g.at run (subst (λ (c : Formula). BreaksNamed p c run) (some_formula f g.formula (claim_of p o.key) e g.claim_is) b));
}
guarantee_verdict p sought o (Refuted run) kept g h =
    let n = named_for p (Some g.part) 0 run kept h.breaks.premises.is_run in
    let breaks = breaks_to p g.part 0 g.formula kept g.at n.0 (subst (λ (r : Run). Breaks (draft_of p (Some g.part) 0) r) (run_is p run n.0 n.1) h.breaks) in
    record {
      formula = g.formula;
      claimed = g.claim_is;
      run = n.0;
      stands = n.1;
      breaks = breaks;
      shortest = λ other b.
          let least = h.shortest (numbered p other) (breaks_of p g.part 0 g.formula kept g.at other b) in
          let long = ap length n.1 in
          omega (arith, least, long, length-numbered p n.0, length-numbered p other);
    }
guarantee_verdict p sought o (Consistent run) kept g h = absurd (let none = h.claim in cc)
guarantee_verdict p sought o Inconsistent kept g h = absurd (let none = h.claim in cc)
guarantee_verdict p sought o (Unknown depth (Depth window)) kept g h = record {
  claimed = rw g.claim_is refl;
  unbroken = λ f run e short b.
      h.unbroken (numbered p run) (omega (arith, short, length-numbered p run)) (breaks_of p g.part 0 g.formula kept g.at run (subst (λ (c : Formula). BreaksNamed p c run) (some_formula f g.formula (claim_of p o.key) e g.claim_is) b));
}
guarantee_verdict p sought o (Unknown depth (Work which facts)) kept g h = absurd h
guarantee_verdict p sought o (Unknown depth (Leaf which literals)) kept g h = absurd h

no_claim : (p : Package) (sought : ℕ) (m : Option Moment) → IsSomeAnd m (ClaimIs (draft_of p None sought) false) → ⊥
no_claim p sought None h = h
no_claim p sought (Some m) h = h

consistency_verdict : (p : Package) (sought : ℕ) (o : Obligation) (v : Verdict) → IsWellFormed p → IsConsistency p sought o → IsTrueOf (draft_of p None sought) v → IsTrueOfNamed p sought o.key v
consistency_verdict p sought o (Proved k) kept c h = absurd (let some = h.claim in cc)
consistency_verdict p sought o (Refuted run) kept c h = absurd (no_claim p sought (last (moments_of run)) h.breaks.claim)
consistency_verdict p sought o (Consistent run) kept c h =
    let n = named_for p None sought run kept h.premises.is_run in
    record {
      unclaimed = rw c.claim_is refl;
      run = n.0;
      stands = n.1;
      long = let long = ap length n.1 in omega (arith, long, h.long, length-numbered p n.0);
      premises = premises_to p None sought kept n.0 (subst (λ (r : Run). IsPremisesRun (draft_of p None sought) r) (run_is p run n.0 n.1) h.premises);
    }
consistency_verdict p sought o Inconsistent kept c h = record {
  unclaimed = rw c.claim_is refl;
  none = λ run e premises. h.none (numbered p run) (length-numbered p run ∙ e) (premises_of p None sought kept run premises);
}
consistency_verdict p sought o (Unknown depth (Depth window)) kept c h = absurd (no_claim p sought _ h.forbidden.claim)
consistency_verdict p sought o (Unknown depth (Work which facts)) kept c h = absurd h
consistency_verdict p sought o (Unknown depth (Leaf which literals)) kept c h = absurd h

pub verdicts_carry_over_lem : VerdictsCarryOver
verdicts_carry_over_lem p sought o v kept there h =
    elim (kinds_of p sought o there) [
      | inl g ↦ guarantee_verdict p sought o v kept g (subst (λ (x : ProblemDraft). IsTrueOf x v) g.problem_is h)
      | inr c ↦ consistency_verdict p sought o v kept c (subst (λ (x : ProblemDraft). IsTrueOf x v) c.problem_is h)
    ]
