use Rattle.std.proofs.Common.{◌≡◌, List, ◌⊎◌, inl, inr, ap, sym, ◌∙◌}
use Rattle.std.specs.Prelude.{Option, Result, IfOk}
use Rattle.ag_base.specs.declared.place.Refusal.{Refusal}
use Rattle.ag_terms.specs.declared.clauses.Clause.{Clause}
use Rattle.ag_terms.specs.declared.clauses.Clause.TheVariants as clause
use Rattle.ag_terms.specs.declared.clauses.Equal.{Equal}
use Rattle.ag_terms.specs.declared.clauses.Labelled.{Labelled}
use Rattle.ag_symbols.specs.Seen.{Names}
use Rattle.ag_linear.specs.declared.value.Value.{Value}
use Rattle.ag_types.specs.declared.numbered.Numbered.{Numbered}
use Rattle.ag_types.specs.NumberFaults.{formula_faults, side_faults, clause_numbers}
use Rattle.ag_types.specs.Places.{first_broken}
use Rattle.ag_types.proofs.number_clauses.of_clause.Goals as goal

answered : {E : Type 0} (r : Result (Option Refusal) E) (a b : Option Refusal) → a ≡ b → IfOk r (λ o. o ≡ a) → IfOk r (λ o. o ≡ b)
answered r a b e h = rw e at h

assigned : (names other : Names) (values : List (Option Value)) (e : Equal) (c : Clause) → other ≡ names → c ≡ clause.Assign e →
    first_broken (side_faults other values e.value) ≡ first_broken (clause_numbers values names c)
assigned names other values e c s t =
    ap (λ (z : Names). first_broken (side_faults z values e.value)) s ∙ ap (λ (z : Clause). first_broken (clause_numbers values names z)) (sym t)

claimed : (names other : Names) (values : List (Option Value)) (l : Labelled) (c : Clause) → other ≡ names → (c ≡ clause.Assume l) ⊎ ((c ≡ clause.Guarantee l) ⊎ (c ≡ clause.Lemma l)) →
    first_broken (formula_faults other values l.claim) ≡ first_broken (clause_numbers values names c)
claimed names other values l c s (inl t) =
    ap (λ (z : Names). first_broken (formula_faults z values l.claim)) s ∙ ap (λ (z : Clause). first_broken (clause_numbers values names z)) (sym t)
claimed names other values l c s (inr (inl t)) =
    ap (λ (z : Names). first_broken (formula_faults z values l.claim)) s ∙ ap (λ (z : Clause). first_broken (clause_numbers values names z)) (sym t)
claimed names other values l c s (inr (inr t)) =
    ap (λ (z : Names). first_broken (formula_faults z values l.claim)) s ∙ ap (λ (z : Clause). first_broken (clause_numbers values names z)) (sym t)

pub returns-in-Assign : goal.returns-in-Assign
returns-in-Assign c =
    answered c.side.result _ _ (assigned c.args.site.now c.sight-sight.result c.args.values.now c.in-Assign.equal c.args.clause.now c.sight-sight.ensures c.in-Assign.is) c.side.ensures

pub returns-in_ok-numbered-in-Assume : goal.returns-in_ok-numbered-in-Assume
returns-in_ok-numbered-in-Assume c =
    ap (λ (n : Numbered). n.broken) c.in_ok-numbered-in-Assume.ensures
    ∙ claimed c.args.site.now c.sight-sight.result c.args.values.now c.in-Assume.labelled c.args.clause.now c.sight-sight.ensures c.in-Assume.is
