use Rattle.std.proofs.Common.{◌≡◌, ◌<◌, ◌∙◌, List, length, reverse, ap, sym, subst, arith, get_or, Contains}
use Rattle.std.proofs.lemmas.List.{length-reverse, get_or-map}
use Rattle.std.proofs.lemmas.List.Elements.{Contains-get_or}
use Rattle.ag_query.specs.declared.clauses.Lit.{Lit}
use Rattle.ag_tree.specs.declared.trail.Step.{Step}
use Rattle.ag_tree.specs.Trail.{Seen, literals}
use Rattle.ag_tree.specs.Keeping.{seen}
use Rattle.ag_tree.proofs.Values.{in_order, step_below}
use Rattle.ag_tree.proofs.trail.Trail.literal.Goals as goal

pub returns-clause-value : goal.returns-clause-value
returns-clause-value c d =
    let steps : List Step = c.self.inside.steps.items in
    let view : seen c.self.inside ≡ c.args.self.now = c.self.view_is in
    let lt : c.args.place < length steps = omega (arith, c.requires, ap (λ (t : Seen). length t.steps) view, length-reverse {A = Step}) in
    ap (λ (s : Step). s.lit) c.index.ensures
    ∙ sym (get_or-map (λ (s : Step). s.lit) steps c.args.place c.index.result.now d lt)
    ∙ ap (λ (ls : List Lit). get_or ls c.args.place d) (in_order steps)
    ∙ ap (λ (t : Seen). get_or (reverse (literals t.steps)) c.args.place d) view

pub returns-clause-range : goal.returns-clause-range
returns-clause-range c =
    let steps : List Step = c.self.inside.steps.items in
    let view : seen c.self.inside ≡ c.args.self.now = c.self.view_is in
    let lt : c.args.place < length steps = omega (arith, c.requires, ap (λ (t : Seen). length t.steps) view, length-reverse {A = Step}) in
    let has : Contains steps c.index.result.now = subst (Contains steps) (sym c.index.ensures) (Contains-get_or steps c.args.place c.index.result.now lt) in
    let below = step_below c.self.inside.values.items steps c.self.invariant.tied c.self.invariant.fresh c.index.result.now has in
    omega (arith, below, ap (λ (t : Seen). t.atoms) view)
