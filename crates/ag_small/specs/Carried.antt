-- What the numbered problems of a package are like, and the laws between a layer's named runs and the numbered ones.
use Rattle.std.specs.Prelude.{◌≡◌, ◌≢◌, ◌<◌, ◌≤◌, ◌↔◌, ℕ, List, length, All, AllPairs, Some, Contains}
use Rattle.ag_small.specs.declared.package.Package.{Package}
use Rattle.ag_small.specs.declared.package.Formula.{Formula}
use Rattle.ag_small.specs.Rules.{IsWellFormed}
use Rattle.ag_small.specs.Named.{NamedInstant, KeepsAssigns, StandsFor, IsNamedRunOfPremises, BreaksNamed, claim_of, IsTrueOfNamed}
use Rattle.ag_small.specs.Numbered.{obligations_of}
use Rattle.ag_stream.specs.declared.problem.ProblemDraft.{ProblemDraft}
use Rattle.ag_stream.specs.declared.problem.Run.{Run}
use Rattle.ag_stream.specs.Forms.{IsPlain}
use Rattle.ag_stream.specs.Runs.{IsRun, KeepsEquations, moments_of, IsPremisesRun, Breaks}
use Rattle.ag_verdict.specs.declared.key.Obligation.{Obligation}
use Rattle.ag_verdict.specs.declared.verdict.Verdict.{Verdict}
use Rattle.ag_verdict.specs.Verdicts.{IsTrueOf}

-- a numbered run that keeps the problem's equations
pub record KeepsAll (d : ProblemDraft) (run : Run) : Type 0 where
  pub is_run : IsRun d run
  pub equations : All (KeepsEquations d) (moments_of run)

-- a named run that keeps the assigns is stood for by one numbered run, which keeps the equations
abbrev pub NamedHaveNumbered : Type 0
NamedHaveNumbered = (p : Package) (sought : ℕ) (o : Obligation) (named : List NamedInstant) → IsWellFormed p → Contains (obligations_of p sought) o → 0 < length named → All (KeepsAssigns p) named
    → (run : Run) × StandsFor p run named × KeepsAll o.problem run × ((other : Run) → StandsFor p other named → other ≡ run)

-- a numbered run that keeps the equations stands for a named one, which keeps the assigns
abbrev pub NumberedHaveNamed : Type 0
NumberedHaveNamed = (p : Package) (sought : ℕ) (o : Obligation) (run : Run) → IsWellFormed p → Contains (obligations_of p sought) o → KeepsAll o.problem run
    → (named : List NamedInstant) × StandsFor p run named × All (KeepsAssigns p) named

-- where one stands for the other, both are runs of the premises or neither is
abbrev pub PremisesAgree : Type 0
PremisesAgree = (p : Package) (sought : ℕ) (o : Obligation) (run : Run) (named : List NamedInstant) → IsWellFormed p → Contains (obligations_of p sought) o → StandsFor p run named
    → IsPremisesRun o.problem run ↔ IsNamedRunOfPremises p named

-- and both break the claim or neither does
abbrev pub BreakingAgrees : Type 0
BreakingAgrees = (p : Package) (sought : ℕ) (o : Obligation) (claim : Formula) (run : Run) (named : List NamedInstant) → IsWellFormed p → Contains (obligations_of p sought) o
    → claim_of p o.key ≡ Some claim → StandsFor p run named → Breaks o.problem run ↔ BreaksNamed p claim named

-- a verdict that is true of an obligation's problem is true of what its key says of the package
abbrev pub VerdictsCarryOver : Type 0
VerdictsCarryOver = (p : Package) (sought : ℕ) (o : Obligation) (v : Verdict) → IsWellFormed p → Contains (obligations_of p sought) o → IsTrueOf o.problem v → IsTrueOfNamed p sought o.key v

-- each problem is plain, no two are equal, and there are at most 1,001
pub record AreFit (list : List Obligation) : Type 0 where
  pub plain : All (λ o. IsPlain o.problem) list
  pub different : AllPairs (λ a b. a.problem ≢ b.problem) list
  pub few : length list ≤ 1001

-- the obligations of a package that keeps the rules are so
abbrev pub ObligationsAreFit : Type 0
ObligationsAreFit = (p : Package) (sought : ℕ) → IsWellFormed p → AreFit (obligations_of p sought)
