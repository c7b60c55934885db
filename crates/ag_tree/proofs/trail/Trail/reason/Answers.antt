use Rattle.std.proofs.Common.{◌≡◌, ◌<◌, List, length, ap, arith, refl, sym, subst, Contains}
use Rattle.std.proofs.lemmas.List.{length-reverse}
use Rattle.std.proofs.lemmas.List.Elements.{Contains-get_or}
use Rattle.ag_tree.specs.declared.trail.Step.{Step}
use Rattle.ag_tree.specs.Trail.{Seen}
use Rattle.ag_tree.specs.Keeping.{seen}
use Rattle.ag_tree.proofs.Lits.{contains_reverse}
use Rattle.ag_tree.proofs.Values.{reason_said}
use Rattle.ag_tree.proofs.trail.Trail.reason.Goals as goal

pub returns : goal.returns
returns c =
    let steps : List Step = c.self.inside.steps.items in
    let s : Step = c.index.result.now in
    let view : seen c.self.inside ≡ c.args.self.now = c.self.view_is in
    let lt : c.args.place < length steps = omega (arith, c.requires, ap (λ (t : Seen). length t.steps) view, length-reverse {A = Step}) in
    let has : Contains steps s = subst (Contains steps) (sym c.index.ensures) (Contains-get_or steps c.args.place s lt) in
    reason_said c.args.self.now.steps s s.reason (subst (λ (t : Seen). Contains t.steps s) view (contains_reverse s steps has)) refl
