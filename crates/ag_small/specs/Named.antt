-- The layer by name: what its runs are, and when a verdict is true of one of its obligations. No number occurs here.
use Rattle.std.specs.Prelude.{◌≡◌, ◌-◌, ◌<◌, ◌≤◌, ℕ, Bool, true, false, not, ◌&&◌, ◌||◌, List, [], length, map, All, Option, Some, None, IsSome, IsNone, IsSomeAnd, slice_get}
use Rattle.std.specs.List.{filter}
use Rattle.ag_small.specs.declared.package.Package.{Package}
use Rattle.ag_small.specs.declared.package.ClaimKind.{ClaimKind}
use Rattle.ag_small.specs.declared.package.ClaimKind.TheVariants.{Assume, Guarantee}
use Rattle.ag_small.specs.declared.package.Assign.{Assign}
use Rattle.ag_small.specs.declared.package.Formula.{Formula}
use Rattle.ag_small.specs.Expressions.{Truth, Named, Group, Not, And, Or, Implies}
use Rattle.ag_small.specs.Characters.{folded}
use Rattle.ag_stream.specs.declared.problem.Run.{Run}
use Rattle.ag_stream.specs.declared.problem.Instant.{Instant}
use Rattle.ag_stream.specs.Runs.{last}
use Rattle.ag_verdict.specs.declared.key.Key.{Key}
use Rattle.ag_verdict.specs.declared.key.KeyKind.{KeyKind}
use Rattle.ag_verdict.specs.declared.key.KeyKind.TheVariants as kinds
use Rattle.ag_verdict.specs.declared.verdict.Verdict.{Verdict}
use Rattle.ag_verdict.specs.declared.verdict.Verdict.TheVariants.{Proved, Refuted, Consistent, Inconsistent, Unknown}

-- an instant gives each name, in small letters, a truth
abbrev pub NamedInstant : Type 0
NamedInstant = List ℕ → Bool

-- what a name has at an instant, in any case
abbrev pub value_at : NamedInstant → List ℕ → Bool
value_at i name = i (folded name)

-- whether a formula holds at an instant
abbrev pub formula_holds : NamedInstant → Formula → Bool
formula_holds i (Truth holds) = holds
formula_holds i (Named name) = value_at i name
formula_holds i (Group f) = formula_holds i f
formula_holds i (Not f) = not (formula_holds i f)
formula_holds i (And f g) = formula_holds i f && formula_holds i g
formula_holds i (Or f g) = formula_holds i f || formula_holds i g
formula_holds i (Implies f g) = not (formula_holds i f) || formula_holds i g

-- the assigned name has the value of its right side
abbrev pub KeepsAssign : NamedInstant → Assign → Type 0
KeepsAssign i a = value_at i a.name ≡ formula_holds i a.value

abbrev pub KeepsAssigns : Package → NamedInstant → Type 0
KeepsAssigns p i = All (KeepsAssign i) p.assigns

abbrev pub is_of : ClaimKind → ClaimKind → Bool
is_of Assume Assume = true
is_of Assume Guarantee = false
is_of Guarantee Assume = false
is_of Guarantee Guarantee = true

-- the formulas of the claims of a kind, in their order
abbrev pub claimed : ClaimKind → Package → List Formula
claimed kind p = map (λ c. c.formula) (filter (λ c. is_of kind c.kind) p.claims)

abbrev pub KeepsAssumptions : Package → NamedInstant → Type 0
KeepsAssumptions p i = All (λ f. formula_holds i f ≡ true) (claimed Assume p)

-- one instant or more, each of which keeps the assigns and the assumptions
pub record IsNamedRunOfPremises (p : Package) (run : List NamedInstant) : Type 0 where
  pub some : 0 < length run
  pub assigns : All (KeepsAssigns p) run
  pub assumptions : All (KeepsAssumptions p) run

-- a run of the premises at whose last instant the formula fails
pub record BreaksNamed (p : Package) (claim : Formula) (run : List NamedInstant) : Type 0 where
  pub premises : IsNamedRunOfPremises p run
  pub fails : IsSomeAnd (last run) (λ i. formula_holds i claim ≡ false)

-- a numbered instant has the truths of the ports' names, in the ports' order, and nothing else
abbrev pub stand_in : Package → NamedInstant → Instant
stand_in p i = record { whole = []; flags = map (λ q. value_at i q.name) p.ports }

-- a numbered run stands for a named one, instant by instant
abbrev pub StandsFor : Package → Run → List NamedInstant → Type 0
StandsFor p numbered named = numbered.instants ≡ map (stand_in p) named

-- the formula that a key claims: guarantees count from 1, and consistency claims none
abbrev pub claim_at : Package → KeyKind → ℕ → Option Formula
claim_at p kinds.Guarantee number = slice_get (claimed Guarantee p) (number - 1)
claim_at p kinds.Assume number = None
claim_at p kinds.Lemma number = None
claim_at p kinds.Consistent number = None

abbrev pub claim_of : Package → Key → Option Formula
claim_of p key = claim_at p key.kind key.number

-- no run breaks the claim
pub record IsProvedNamed (p : Package) (claim : Option Formula) : Type 0 where
  pub claimed : IsSome claim
  pub unbroken : (f : Formula) (run : List NamedInstant) → claim ≡ Some f → BreaksNamed p f run → ⊥

-- the numbered run stands for one that breaks the claim, and no shorter one does
pub record IsRefutedNamed (p : Package) (claim : Option Formula) (numbered : Run) : Type 0 where
  pub formula : Formula
  pub claimed : claim ≡ Some formula
  pub run : List NamedInstant
  pub stands : StandsFor p numbered run
  pub breaks : BreaksNamed p formula run
  pub shortest : (other : List NamedInstant) → BreaksNamed p formula other → length run ≤ length other

-- the numbered run stands for a run of the premises, of as many instants as are sought
pub record IsConsistentNamed (p : Package) (sought : ℕ) (claim : Option Formula) (numbered : Run) : Type 0 where
  pub unclaimed : IsNone claim
  pub run : List NamedInstant
  pub stands : StandsFor p numbered run
  pub long : length run ≡ sought
  pub premises : IsNamedRunOfPremises p run

-- there is no run of the premises of as many instants as are sought
pub record IsInconsistentNamed (p : Package) (sought : ℕ) (claim : Option Formula) : Type 0 where
  pub unclaimed : IsNone claim
  pub none : (run : List NamedInstant) → length run ≡ sought → IsNamedRunOfPremises p run → ⊥

-- no run of at most so many instants breaks the claim
pub record IsUnbrokenNamed (p : Package) (claim : Option Formula) (depth : ℕ) : Type 0 where
  pub claimed : IsSome claim
  pub unbroken : (f : Formula) (run : List NamedInstant) → claim ≡ Some f → length run ≤ depth → BreaksNamed p f run → ⊥

-- the verdict is true of what the key says of the package, where consistency is sought over so many instants
abbrev pub IsTrueOfNamed : Package → ℕ → Key → Verdict → Type 0
IsTrueOfNamed p sought key (Proved k) = IsProvedNamed p (claim_of p key)
IsTrueOfNamed p sought key (Refuted run) = IsRefutedNamed p (claim_of p key) run
IsTrueOfNamed p sought key (Consistent run) = IsConsistentNamed p sought (claim_of p key) run
IsTrueOfNamed p sought key Inconsistent = IsInconsistentNamed p sought (claim_of p key)
IsTrueOfNamed p sought key (Unknown depth why) = IsUnbrokenNamed p (claim_of p key) depth
