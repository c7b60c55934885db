use Rattle.std.proofs.Common.{◌≡◌, ◌++◌, ◌∷◌, [], ℕ, List, Option, Some, length, get_or, sym, subst, ap, ◌∙◌, arith, pos, false}
use Rattle.std.proofs.lemmas.List.{length-set, length_push}
use Rattle.ag_diff.specs.declared.edges.Edge.{Edge}
use Rattle.ag_diff.specs.Edges.{IsWithin}
use Rattle.ag_diff.specs.Fans.{AreBefore}
use Rattle.ag_diff.proofs.Fanning.{below_more, before_more}
use Rattle.ag_diff.proofs.fan.Fan.group.Goals as goal

pub loop-place-preserved : goal.loop-place-preserved
loop-place-preserved c =
    let inv = c.loop-place.invariant in
    let last : List (Option ℕ) = c.loop-place.last.items in
    let before : List (Option ℕ) = c.loop-place.before.items in
    let d : Edge = record { from = 0; to = 0; weight = pos 0; lit = record { atom = 0; holds = false } } in
    let from : ℕ = (get_or c.args.edges.now c.loop-place.place d).from in
    let within : IsWithin c.args.vertices (get_or c.args.edges.now c.loop-place.place d) = c.requires c.loop-place.place d c.loop-place-test.true in
    let there = within.from in
    let more : c.push.new.self.items ≡ before ++ c.index.result.now ∷ [] = c.in_ok-push.ensures.items in
    record {
      vertices = length-set last from (Some c.loop-place.place) ∙ inv.vertices;
      edges = omega (arith, inv.edges, ap (λ (xs : List (Option ℕ)). length xs) more, length_push before c.index.result.now);
      below = below_more last c.loop-place.place from inv.below;
      before = subst AreBefore (sym more) (before_more last before c.loop-place.place from c.index.result.now inv.edges (omega (arith, there, inv.vertices)) c.index.ensures inv.below inv.before);
    }
