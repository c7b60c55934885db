use Rattle.std.proofs.Common.{◌≤◌, ℕ, Bool, List, sym, subst, arith}
use Rattle.std.proofs.lemmas.List.Elements.{Contains-get_or}
use Rattle.ag_diff.specs.declared.edges.Edge.{Edge}
use Rattle.ag_diff.specs.declared.vertices.Vertex.{Vertex}
use Rattle.ag_diff.specs.Vertices.{HaveCauses}
use Rattle.ag_diff.specs.Sweeps.{IsSweptTo, work}
use Rattle.ag_diff.proofs.Sweeping.{causes_among, swept_less, swept_more, swept_whole}
use Rattle.ag_diff.proofs.sweep.sweep_once.Goals as goal
use Rattle.ag_diff.proofs.sweep.sweep_once.Goals.{in-Still, in-Lowered, then-sunk, else-sunk}

pub returns-in_err-visit-clause-causes : goal.returns-in_err-visit-clause-causes
returns-in_err-visit-clause-causes c = c.visit.ensures.causes c.args.edges.now (Contains-get_or _ _ _ c.loop-edge-test.true) c.loop-edge.invariant.causes

pub returns-in-Cycle-clause-swept : goal.returns-in-Cycle-clause-swept
returns-in-Cycle-clause-swept c =
    let found = rw c.in-Cycle.is at c.in_ok-visit.ensures.visited in
    (found.0, causes_among c.args.edges.now c.loop-edge.vertices c.in-Cycle.cycle.items c.loop-edge.invariant.causes found.1)

pub returns-in-Cycle-clause-causes : goal.returns-in-Cycle-clause-causes
returns-in-Cycle-clause-causes c = c.visit.ensures.causes c.args.edges.now (Contains-get_or _ _ _ c.loop-edge-test.true) c.loop-edge.invariant.causes

pub loop-edge-preserved : goal.loop-edge-preserved
loop-edge-preserved c =
    let inv = c.loop-edge.invariant in
    let edges : List Edge = c.args.edges.now in
    let vs : List Vertex = c.loop-edge.vertices in
    let ws : List Vertex = c.visit.new.vertices in
    let i : ℕ = c.loop-edge.edge-index in
    let worked : ℕ = work c.args.vertices.now c.args.pending.now in
    let before : ℕ = work vs c.loop-edge.pending in
    let left : ℕ = work ws c.visit.new.pending in
    let less : before ≤ worked = swept_less edges vs worked before i c.loop-edge.sunk inv.swept in
    let causes : HaveCauses edges ws = c.visit.ensures.causes edges (Contains-get_or _ _ _ c.loop-edge-test.true) inv.causes in
    elim c.match-branch-2.branch [
      | in-Still w ↦
          let found = rw w.in-Still.is at c.in_ok-visit.ensures.visited in
          let V : List Vertex → Type 0 = λ us. IsSweptTo edges us worked before i c.loop-edge.sunk in
          let W : ℕ → Type 0 = λ n. IsSweptTo edges ws worked n i c.loop-edge.sunk in
          let so-far : W left = subst W (sym found.1) (subst V (sym found.0) inv.swept) in
          record {
            pending = omega (arith, c.visit.ensures.pending, inv.pending, c.visit.auto.vertices);
            vertices = c.visit.ensures.vertices;
            causes = causes;
            swept = rw w.sunk-is (swept_more edges ws worked left i _ c.loop-edge.sunk c.loop-edge-test.true so-far found.2);
          }
      | in-Lowered w ↦
          let found = rw w.in-Lowered.is at c.in_ok-visit.ensures.visited in
          record {
            pending = omega (arith, c.visit.ensures.pending, inv.pending, c.visit.auto.vertices);
            vertices = c.visit.ensures.vertices;
            causes = causes;
            swept = rw w.sunk-is (omega (arith, found, less));
          }
    ]

pub returns-clause-swept : goal.returns-clause-swept
returns-clause-swept c =
    let edges : List Edge = c.args.edges.now in
    let worked : ℕ = work c.args.vertices.now c.args.pending.now in
    let left : ℕ = work c.loop-edge.vertices c.loop-edge.pending in
    let S : Bool → Type 0 = IsSweptTo edges c.loop-edge.vertices worked left c.loop-edge.edge-index in
    elim c.if-sunk.branch [
      | then-sunk w ↦ rw w.result-is (subst S w.if-sunk.true c.loop-edge.invariant.swept)
      | else-sunk w ↦ rw w.result-is (swept_whole edges c.loop-edge.vertices worked left c.loop-edge.edge-index c.loop-edge-test.false (subst S w.if-sunk.false c.loop-edge.invariant.swept))
    ]
