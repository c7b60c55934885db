use Rattle.std.proofs.Common.{◌≡◌, ◌∙◌, ◌∷◌, ◌++◌, [], ℕ, List, ap, sym}
use Rattle.std.specs.List.{filter_map}
use Rattle.std.proofs.lemmas.List.{reverse-reverse}
use Rattle.ag_tree.specs.declared.trail.Step.{Step}
use Rattle.ag_tree.specs.Trail.{Seen, reasons}
use Rattle.ag_tree.specs.Keeping.{seen}
use Rattle.ag_tree.proofs.trail.Trail.reasons.Goals as goal

pub returns : goal.returns
returns c =
    let view : seen c.self.inside ≡ c.args.self.now = c.self.view_is in
    let said : c.in_ok-lines.lines.items ≡ filter_map (λ (s : Step). s.reason) c.self.inside.steps.items = c.in_ok-lines.ensures ∙ ap (filter_map (λ (s : Step). s.reason)) c.deref.ensures.value in
    c.in_ok-push.ensures.items
    ∙ ap (λ (ns : List ℕ). ns ++ c.args.last ∷ []) (said ∙ ap (filter_map (λ (s : Step). s.reason)) (sym (reverse-reverse c.self.inside.steps.items)) ∙ ap (λ (t : Seen). reasons t.steps) view)
