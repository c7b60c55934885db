use Rattle.std.proofs.Common.{◌<◌, pos, false, length, get_or, arith}
use Rattle.std.proofs.lemmas.List.Elements.{Contains-get_or}
use Rattle.ag_diff.specs.declared.edges.Edge.{Edge}
use Rattle.ag_diff.specs.Sweeps.{work}
use Rattle.ag_diff.proofs.Sweeping.{causes_among, visited_less, place_below}
use Rattle.ag_diff.proofs.sweep.spread.Goals as goal

pub returns-in_err-cycle-clause-causes : goal.returns-in_err-cycle-clause-causes
returns-in_err-cycle-clause-causes c =
    let lt : c.in-Some.place < length c.args.edges.now = rw c.in-Some.is at c.loop-at.invariant.there in
    c.visit.ensures.causes c.args.edges.now (Contains-get_or _ _ _ lt) c.loop-at.invariant.causes

pub returns-in-Cycle-clause-found : goal.returns-in-Cycle-clause-found
returns-in-Cycle-clause-found c =
    let found = rw c.in-Cycle.is at c.in_ok-cycle.ensures.visited in
    (found.0, causes_among c.args.edges.now c.loop-at.vertices c.in-Cycle.cycle.items c.loop-at.invariant.causes found.1)

pub returns-in-Cycle-clause-causes : goal.returns-in-Cycle-clause-causes
returns-in-Cycle-clause-causes c =
    let lt : c.in-Some.place < length c.args.edges.now = rw c.in-Some.is at c.loop-at.invariant.there in
    c.visit.ensures.causes c.args.edges.now (Contains-get_or _ _ _ lt) c.loop-at.invariant.causes

pub loop-at-preserved : goal.loop-at-preserved
loop-at-preserved c =
    let inv = c.loop-at.invariant in
    let lt : c.in-Some.place < length c.args.edges.now = rw c.in-Some.is at inv.there in
    let e : Edge = get_or c.args.edges.now c.in-Some.place (record { from = 0; to = 0; weight = pos 0; lit = record { atom = 0; holds = false } }) in
    let less = visited_less e c.loop-at.vertices c.visit.new.vertices (work c.loop-at.vertices c.loop-at.pending) (work c.visit.new.vertices c.visit.new.pending) c.in_ok-cycle.field-0 c.in_default-2.not-Cycle c.in_ok-cycle.ensures.visited in
    record {
      there = place_below c.before-at.result c.in-Some.place (length c.args.edges.now) lt c.before-at.ensures;
      pending = omega (arith, c.visit.ensures.pending, inv.pending, c.visit.auto.vertices);
      vertices = c.visit.ensures.vertices;
      causes = c.visit.ensures.causes c.args.edges.now (Contains-get_or _ _ _ lt) inv.causes;
      less = omega (arith, less, inv.less);
    }
