-- Which rule on the clauses of a scope is answered: of all that they break the first.
use Rattle.std.specs.Prelude.{◌⊎◌, Option, Some, None, List, Contains}
use Rattle.ag_base.specs.declared.place.Refusal.{Refusal}
use Rattle.ag_base.specs.Rules.{IsFirstOf}
use Rattle.ag_symbols.specs.Seen.{Seen}
use Rattle.ag_linear.specs.declared.value.Value.{Value}
use Rattle.ag_types.specs.ClauseFaults.{faults_of}
use Rattle.ag_types.specs.NumberFaults.{number_faults}
use Rattle.ag_types.specs.Uses.{AreValues, IsCircular}

-- the clauses break a rule at a place: one on names and types, one on circles, or one on numbers
abbrev pub Breaks : Seen → List (Option Value) → Refusal → Type 0
Breaks s values r = Contains (faults_of s) r ⊎ (IsCircular s r ⊎ Contains (number_faults s values) r)

-- of what is broken the first; none, where nothing is
abbrev pub IsFirst : (Refusal → Type 0) → Option Refusal → Type 0
IsFirst P None = (q : Refusal) → P q → ⊥
IsFirst P (Some r) = IsFirstOf P r

-- the clauses break this rule, and none that comes before it
pub record IsRefusal (s : Seen) (r : Refusal) : Type 0 where
  pub values : List (Option Value)
  pub valued : AreValues s values
  pub first : IsFirst (Breaks s values) (Some r)

-- the clauses break no rule
pub record IsSound (s : Seen) : Type 0 where
  pub values : List (Option Value)
  pub valued : AreValues s values
  pub none : IsFirst (Breaks s values) None
