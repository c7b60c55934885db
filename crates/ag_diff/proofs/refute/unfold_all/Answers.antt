use Rattle.std.proofs.Common.{◌≡◌, ◌<◌, ◌+◌, ◌++◌, ◌∷◌, [], ℕ, ℤ, pos, List, length, map, take, All, ap, sym, subst, ◌∙◌}
use Rattle.ag_kernel.specs.State.{State}
use Rattle.ag_diff.specs.declared.edges.Edge.{Edge}
use Rattle.ag_diff.specs.Unfolding.{named, unfolded_once}
use Rattle.ag_diff.proofs.Unfolds.{grown_more, there_more, lines_more}
use Rattle.ag_diff.proofs.refute.unfold_all.Goals as goal

pub loop-edge-preserved : goal.loop-edge-preserved
loop-edge-preserved c =
    let inv = c.loop-edge.invariant in
    let old : State = c.args.kernel.now in
    let s : State = c.loop-edge.kernel in
    let now : State = c.unfold.new.kernel in
    let cycle : List Edge = c.args.cycle.now in
    let parts : List (ℕ × ℤ) = c.loop-edge.parts.items in
    let n : ℕ = c.in_ok-line.line in
    let add = c.in_ok-line.ensures.line in
    let more : c.push.new.self.items ≡ parts ++ (n, pos 1) ∷ [] = c.in_ok-push.ensures.items in
    let T : List (ℕ × ℤ) → Type 0 = All (λ (p : ℕ × ℤ). p.0 < length now.lines) in
    let L : List (ℕ × ℤ) → Type 0 = λ ps. map (named now.lines) ps ≡ map (unfolded_once old.atoms) (take (c.loop-edge.edge-index + 1) cycle) in
    record {
      atoms = ap (λ (t : State). t.atoms) add.1 ∙ inv.atoms;
      grown = grown_more old s now n _ inv.grown add;
      there = subst T (sym more) (there_more s now n _ parts (pos 1) add inv.there);
      lines = subst L (sym more) (lines_more old.atoms s now n parts cycle c.loop-edge.edge-index _ c.loop-edge-test.true inv.atoms add inv.there inv.lines);
    }
