use Rattle.std.proofs.Common.{◌≡◌, ◌<◌, ◌∙◌, ℕ, List, length, map, reverse, ap, sym, subst, All}
use Rattle.std.proofs.lemmas.List.Elements.{All-map}
use Rattle.ag_query.specs.declared.clauses.Lit.{Lit}
use Rattle.ag_tree.specs.declared.trail.Step.{Step}
use Rattle.ag_tree.specs.Trail.{Seen, literals}
use Rattle.ag_tree.specs.Keeping.{seen}
use Rattle.ag_tree.proofs.Lits.{contains_all}
use Rattle.ag_tree.proofs.Values.{in_order, step_below}
use Rattle.ag_tree.proofs.trail.Trail.lits.Goals as goal

pub returns-clause-value : goal.returns-clause-value
returns-clause-value c =
    let view : seen c.self.inside ≡ c.args.self.now = c.self.view_is in
    let said : c.in_ok-literals_of.field-0.items ≡ map (λ (s : Step). s.lit) c.self.inside.steps.items = c.in_ok-literals_of.ensures ∙ ap literals c.deref.ensures.value in
    said ∙ in_order c.self.inside.steps.items ∙ ap (λ (t : Seen). reverse (literals t.steps)) view

pub returns-clause-range : goal.returns-clause-range
returns-clause-range c =
    let steps : List Step = c.self.inside.steps.items in
    let view : seen c.self.inside ≡ c.args.self.now = c.self.view_is in
    let said : c.in_ok-literals_of.field-0.items ≡ map (λ (s : Step). s.lit) steps = c.in_ok-literals_of.ensures ∙ ap literals c.deref.ensures.value in
    let below : ℕ → List Lit → Type 0 = λ n ls. All (λ (l : Lit). l.atom < n) ls in
    let here : below (length c.self.inside.values.items) (map (λ (s : Step). s.lit) steps) =
    All-map (λ (l : Lit). l.atom < length c.self.inside.values.items) (λ (s : Step). s.lit) steps
    (contains_all (λ (s : Step). s.lit.atom < length c.self.inside.values.items) steps (step_below c.self.inside.values.items steps c.self.invariant.tied c.self.invariant.fresh)) in
    subst (λ (n : ℕ). below n c.in_ok-literals_of.field-0.items) (ap (λ (t : Seen). t.atoms) view)
    (subst (below (length c.self.inside.values.items)) (sym said) here)
