-- What a search has chosen and what it has drawn from that, the newest step first.
use Rattle.std.specs.Prelude.{◌≡◌, ◌⊎◌, ◌<◌, ◌≤◌, ◌++◌, ◌∷◌, ◌==◌, ℕ, Bool, List, [], length, map, filter, reverse, Option, Some, None, All, Contains, IsNone, IsSome, is_none, cond, filter_map, ⊤}
use Rattle.ag_query.specs.declared.clauses.Lit.{Lit}
use Rattle.ag_query.specs.declared.clauses.LClause.{LClause}
use Rattle.ag_query.specs.Meaning.{contrary}
use Rattle.ag_kernel.specs.declared.line.Line.{Line}
use Rattle.ag_kernel.specs.Rules.{line_at}
use Rattle.ag_tree.specs.declared.trail.Step.{Step}
use Rattle.ag_tree.specs.declared.trail.Look.{Look}
use Rattle.ag_tree.specs.declared.trail.Look.TheVariants.{Rest, Last, Conflict}
use Rattle.ag_tree.specs.Facts.{Lacks, IsAtRest, IsAtRestAlong}

-- how many atoms may have a value, and the steps
pub record Seen : Type 0 where
  pub atoms : ℕ
  pub steps : List Step

abbrev pub literals : List Step → List Lit
literals steps = map (λ s. s.lit) steps

-- the contraries of the choices
abbrev pub denial : List Step → List Lit
denial steps = map (λ s. contrary s.lit) (filter (λ s. is_none s.reason) steps)

-- the lines from which steps were drawn, the oldest first
abbrev pub reasons : List Step → List ℕ
reasons steps = filter_map (λ s. s.reason) (reverse steps)

-- a step was drawn from the line
abbrev pub HasReason : List Step → ℕ → Type 0
HasReason steps n = (s : Step) × Contains steps s × (s.reason ≡ Some n)

-- what a list of literals says of an atom
abbrev pub truth_in : List Lit → ℕ → Option Bool
truth_in [] a = None
truth_in (l ∷ ls) a = cond (a == l.atom) (Some l.holds) (truth_in ls a)

-- each other literal of the line is denied
pub record IsDrawnBy (lines : List Line) (n : ℕ) (l : Lit) (lits : List Lit) : Type 0 where
  pub there : n < length lines
  pub no_row : IsNone (line_at lines n).row
  pub others : All (λ m. (m ≡ l) ⊎ Contains lits (contrary m)) (line_at lines n).lits

-- the step's atom has no value before, and a step that is no choice is drawn by its line
pub record IsSoundStep (lines : List Line) (step : Step) (rest : List Step) : Type 0 where
  pub fresh : Lacks (literals rest) step.lit.atom
  pub drawn : (n : ℕ) → step.reason ≡ Some n → IsDrawnBy lines n step.lit (literals rest)

abbrev pub AreSound : List Line → List Step → Type 0
AreSound lines [] = ⊤
AreSound lines (s ∷ rest) = IsSoundStep lines s rest × AreSound lines rest

-- before each choice the literals were at rest along the clauses
abbrev pub RestsBefore : List LClause → List Step → Type 0
RestsBefore clauses [] = ⊤
RestsBefore clauses (s ∷ rest) = (s.reason ≡ None → IsAtRestAlong (literals rest) clauses) × RestsBefore clauses rest

-- each literal of the line is denied
pub record IsAgainst (lines : List Line) (steps : List Step) (n : ℕ) : Type 0 where
  pub there : n < length lines
  pub no_row : IsNone (line_at lines n).row
  pub denied : All (λ l. Contains (literals steps) (contrary l)) (line_at lines n).lits

-- a literal of the clause is denied by a step that has so many steps before it, or more
pub record IsPending (from : ℕ) (steps : List Step) (clause : List Lit) : Type 0 where
  pub newer : List Step
  pub step : Step
  pub older : List Step
  pub is : steps ≡ newer ++ step ∷ older
  pub late : from ≤ length older
  pub denied : Contains clause (contrary step.lit)

-- at rest, or still to be looked at
abbrev pub IsSettled : ℕ → List Step → List Lit → Type 0
IsSettled from steps clause = IsAtRest (literals steps) clause ⊎ IsPending from steps clause

-- steps were drawn, and nothing was chosen
pub record Draws (lines : List Line) (before now : Seen) : Type 0 where
  pub atoms : now.atoms ≡ before.atoms
  pub added : List Step
  pub steps : now.steps ≡ added ++ before.steps
  pub drawn : All (λ s. IsSome s.reason) added
  pub sound : AreSound lines now.steps

-- what stood before the last choice, and that choice
pub record IsBackTo (before now : List Step) (l : Lit) : Type 0 where
  pub drawn : List Step
  pub is : before ≡ drawn ++ record { lit = l; reason = None } ∷ now
  pub none_chosen : All (λ s. IsSome s.reason) drawn

-- all but the one literal are denied, and that one's atom has no value
pub record IsLast (lits clause : List Lit) (last : Lit) : Type 0 where
  pub has : Contains clause last
  pub lacks : Lacks lits last.atom
  pub others : All (λ l. (l ≡ last) ⊎ Contains lits (contrary l)) clause

abbrev pub LooksAs : List Lit → List Lit → Look → Type 0
LooksAs lits clause Rest = IsAtRest lits clause
LooksAs lits clause (Last l) = IsLast lits clause l
LooksAs lits clause Conflict = All (λ l. Contains lits (contrary l)) clause
