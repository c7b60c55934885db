use Rattle.std.proofs.Common.{◌≡◌, ◌<◌, ◌∙◌, ℕ, List, length, filter, reverse, ap, sym, subst, All}
use Rattle.std.specs.Option.{is_none}
use Rattle.std.proofs.lemmas.List.Elements.{All-map, All-filter}
use Rattle.ag_query.specs.declared.clauses.Lit.{Lit}
use Rattle.ag_query.specs.Meaning.{contrary}
use Rattle.ag_tree.specs.declared.trail.Step.{Step}
use Rattle.ag_tree.specs.Trail.{Seen, denial}
use Rattle.ag_tree.specs.Keeping.{seen}
use Rattle.ag_tree.proofs.Lits.{contains_all}
use Rattle.ag_tree.proofs.Values.{step_below_back}
use Rattle.ag_tree.proofs.trail.Trail.denial.Goals as goal

pub returns-clause-value : goal.returns-clause-value
returns-clause-value c =
    let view : seen c.self.inside ≡ c.args.self.now = c.self.view_is in
    let said : c.in_ok-denial_of.field-0.items ≡ denial (reverse c.self.inside.steps.items) = c.in_ok-denial_of.ensures ∙ ap (λ (xs : List Step). denial (reverse xs)) c.deref.ensures.value in
    said ∙ ap (λ (t : Seen). denial t.steps) view

pub returns-clause-range : goal.returns-clause-range
returns-clause-range c =
    let steps : List Step = reverse c.self.inside.steps.items in
    let n : ℕ = length c.self.inside.values.items in
    let view : seen c.self.inside ≡ c.args.self.now = c.self.view_is in
    let said : c.in_ok-denial_of.field-0.items ≡ denial steps = c.in_ok-denial_of.ensures ∙ ap (λ (xs : List Step). denial (reverse xs)) c.deref.ensures.value in
    let below : ℕ → List Lit → Type 0 = λ n ls. All (λ (l : Lit). l.atom < n) ls in
    let here : below n (denial steps) =
    All-map (λ (l : Lit). l.atom < n) (λ (s : Step). contrary s.lit) (filter (λ s. is_none s.reason) steps)
    (All-filter (λ (s : Step). is_none s.reason) (λ (s : Step). s.lit.atom < n) steps
    (contains_all (λ (s : Step). s.lit.atom < n) steps (step_below_back c.self.inside.values.items steps c.self.invariant.tied c.self.invariant.fresh))) in
    subst (λ (n : ℕ). below n c.in_ok-denial_of.field-0.items) (ap (λ (t : Seen). t.atoms) view)
    (subst (below n) (sym said) here)
