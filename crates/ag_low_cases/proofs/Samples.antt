-- The two small problems of the tests are well formed.
use Rattle.std.proofs.Common.{◌≡◌, ℕ, ◌<◌, zero, suc, false, List, [], ◌∷◌, Some, None, refl, subst, arith, All, nat_eq}
use Rattle.std.specs.List.{slice_get, IsDistinct}
use Rattle.std.proofs.lemmas.Option.{same_Some, none-some}
use Rattle.std.proofs.lemmas.List.Elements.{All-nil, All-cons, All-from_recursion}
use Rattle.ag_stream.specs.declared.problem.Part.{Part}
use Rattle.ag_stream.specs.declared.problem.Part.TheVariants as parts
use Rattle.ag_stream.specs.declared.problem.Equation.{Equation}
use Rattle.ag_stream.specs.declared.problem.Equation.TheVariants as equations
use Rattle.ag_stream.specs.declared.problem.ProblemDraft.{ProblemDraft}
use Rattle.ag_stream.specs.Forms.{operands, IsPartOf, IsEquationOf, IsWellFormed}

abbrev pub chain_parts : List Part
chain_parts = parts.Flag 2 false ∷ parts.Not 0 ∷ parts.Flag 0 false ∷ parts.Flag 1 false ∷ []

abbrev pub chain_equations : List Equation
chain_equations = equations.Flag 1 1 ∷ equations.Flag 2 2 ∷ []

abbrev pub chain : ProblemDraft
chain = record { ints = 0; flags = 3; parts = chain_parts; equations = chain_equations; so_far = []; earlier = []; claim = Some 3; length = 0 }

abbrev pub looped : ProblemDraft
looped = record { ints = 0; flags = 2; parts = parts.Flag 1 false ∷ []; equations = equations.Flag 1 0 ∷ []; so_far = []; earlier = []; claim = None; length = 1 }

nothing_before : (n : ℕ) (q p : Part) → operands q ≡ [] → ◌≡◌ {A = _} (Some q) (Some p) → All (λ a. a < n) (operands p)
nothing_before n q p none e =
    let O : List ℕ → Type 0 = λ xs. All (λ a. a < n) xs in
    let P : Part → Type 0 = λ x. All (λ a. a < n) (operands x) in
    subst P (same_Some q p e) (rw none (All-nil (λ a. a < n)))

chain_before : (n : ℕ) (p : Part) → slice_get chain_parts n ≡ Some p → All (λ a. a < n) (operands p)
chain_before zero p e = nothing_before 0 (parts.Flag 2 false) p refl e
chain_before (suc zero) p e =
    let P : Part → Type 0 = λ x. All (λ a. a < 1) (operands x) in
    subst P (same_Some (parts.Not 0) p e) (All-cons (λ a. a < 1) 0 [] (omega arith) (All-nil (λ a. a < 1)))
chain_before (suc (suc zero)) p e = nothing_before 2 (parts.Flag 0 false) p refl e
chain_before (suc (suc (suc zero))) p e = nothing_before 3 (parts.Flag 1 false) p refl e
chain_before (suc (suc (suc (suc n)))) p e = absurd (none-some p e)

chain_once : IsDistinct nat_eq (0 ∷ [])
unfolding IsDistinct
chain_once = (tt, tt)

chain_targets : IsDistinct nat_eq (1 ∷ 2 ∷ [])
unfolding IsDistinct
chain_targets = ((refl, tt), (tt, tt))

pub chain_formed : IsWellFormed chain
chain_formed = record {
  ints = omega arith;
  flags = omega arith;
  parts = omega arith;
  each_part = All-from_recursion (IsPartOf chain) chain_parts (omega arith, (tt, (omega arith, (omega arith, tt))));
  before = chain_before;
  once = chain_once;
  each_equation = All-from_recursion (IsEquationOf chain) chain_equations ((omega arith, omega arith), ((omega arith, omega arith), tt));
  one_each = chain_targets;
  so_far = All-nil _;
  earlier = All-nil _;
  claim = omega arith;
  length = refl;
}

looped_before : (n : ℕ) (p : Part) → slice_get (parts.Flag 1 false ∷ []) n ≡ Some p → All (λ a. a < n) (operands p)
looped_before zero p e = nothing_before 0 (parts.Flag 1 false) p refl e
looped_before (suc n) p e = absurd (none-some p e)

looped_once : IsDistinct nat_eq []
unfolding IsDistinct
looped_once = tt

looped_targets : IsDistinct nat_eq (1 ∷ [])
unfolding IsDistinct
looped_targets = (tt, tt)

pub looped_formed : IsWellFormed looped
looped_formed = record {
  ints = omega arith;
  flags = omega arith;
  parts = omega arith;
  each_part = All-cons (IsPartOf looped) (parts.Flag 1 false) [] (omega arith) (All-nil (IsPartOf looped));
  before = looped_before;
  once = looped_once;
  each_equation = All-cons (IsEquationOf looped) (equations.Flag 1 0) [] (omega arith, omega arith) (All-nil (IsEquationOf looped));
  one_each = looped_targets;
  so_far = All-nil _;
  earlier = All-nil _;
  claim = tt;
  length = (omega arith, omega arith);
}
