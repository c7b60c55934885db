-- Which clauses have a canonical text in which no level passes the limit: each `(`, each operator and each `if` opens a level for
-- what stands in it or behind it, and `pre` its `(` alone.
use Rattle.std.specs.Prelude.{ℕ, ◌≤◌, ◌+◌, List, [], ◌∷◌, Option, Some, None}
use Rattle.ag_terms.specs.declared.clauses.Clause.{Clause}
use Rattle.ag_terms.specs.declared.clauses.Clause.TheVariants as clause
use Rattle.ag_terms.specs.declared.clauses.Equal.{Equal}
use Rattle.ag_terms.specs.declared.terms.Term.{Term, Number, Truth, Named, Unary', Binary', Choice', Call', Row_of-Term, end_of-Term, more_of-Term}
use Rattle.ag_terms.specs.declared.terms.Unary.TheVariants as unary
use Rattle.ag_annex.specs.Nesting.{most_levels}

-- behind so many levels the text of an expression has no level past the limit
abbrev mutual
  pub Fits : ℕ → Term → Type 0
  Fits n (Number value place) = Unit {0}
  Fits n (Truth value place) = Unit {0}
  Fits n (Named path) = Unit {0}
  Fits n (Unary' unary.Pre place _ (more_of-Term t end_of-Term)) = (n + 1 ≤ most_levels) × Fits (n + 1) t
  Fits n (Unary' op place _ (more_of-Term t end_of-Term)) = (n + 2 ≤ most_levels) × Fits (n + 2) t
  Fits n (Binary' op place _ (more_of-Term left end_of-Term) _ (more_of-Term right end_of-Term)) = (n + 2 ≤ most_levels) × Fits (n + 1) left × Fits (n + 2) right
  Fits n (Choice' place _ (more_of-Term test end_of-Term) _ (more_of-Term chosen end_of-Term) _ (more_of-Term other end_of-Term)) =
      (n + 2 ≤ most_levels) × Fits (n + 2) test × Fits (n + 2) chosen × Fits (n + 2) other
  Fits n (Call' path _ args) = (n + 1 ≤ most_levels) × AllFit (n + 1) args

  pub AllFit : {m : _} → ℕ → Row_of-Term m → Type 0
  AllFit n end_of-Term = Unit {0}
  AllFit n (more_of-Term t rest) = Fits n t × AllFit n rest

abbrev pub EquationsFit : List Equal → Type 0
EquationsFit [] = Unit {0}
EquationsFit (e ∷ es) = Fits 0 e.value × EquationsFit es

abbrev pub ValueFits : Option Term → Type 0
ValueFits None = Unit {0}
ValueFits (Some t) = Fits 0 t

abbrev pub IsShallow : Clause → Type 0
IsShallow (clause.Assume l) = Fits 0 l.claim
IsShallow (clause.Guarantee l) = Fits 0 l.claim
IsShallow (clause.Lemma l) = Fits 0 l.claim
IsShallow (clause.Eq names value) = ValueFits value
IsShallow (clause.Assign e) = Fits 0 e.value
IsShallow (clause.Const name value) = Fits 0 value
IsShallow (clause.Node n) = EquationsFit n.equations

-- no level of the clauses' canonical text passes the limit
abbrev pub AreShallow : List Clause → Type 0
AreShallow [] = Unit {0}
AreShallow (c ∷ cs) = IsShallow c × AreShallow cs
