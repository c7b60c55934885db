use Rattle.std.proofs.Common.{◌<◌, sym, subst, arith}
use Rattle.ag_diff.specs.Vertices.{HaveCauses, room}
use Rattle.ag_diff.proofs.Sweeping.{causes_sunk, causes_kept, room_kept}
use Rattle.ag_diff.proofs.sweep.sink.Goals as goal

pub returns-then-rank-vertices-clause-causes : goal.returns-then-rank-vertices-clause-causes
returns-then-rank-vertices-clause-causes c edges has h = subst (HaveCauses edges) (sym c.lower.ensures.set) (causes_sunk edges c.args.vertices.now c.args.edge.now c.requires.within.to has h)

pub returns-in_err-find_cycle-clause-causes : goal.returns-in_err-find_cycle-clause-causes
returns-in_err-find_cycle-clause-causes c edges has h = causes_kept edges c.args.vertices.now c.find_cycle.new.vertices c.find_cycle.ensures.same h

pub returns-in-None-clause-found : goal.returns-in-None-clause-found
returns-in-None-clause-found c =
    let same = room_kept c.args.vertices.now c.find_cycle.new.vertices c.find_cycle.ensures.same in
    subst (λ n. room c.lower-in-None.new.vertices < n) same c.lower-in-None.ensures.sinks

pub returns-in-None-clause-causes : goal.returns-in-None-clause-causes
returns-in-None-clause-causes c edges has h =
    let to = c.lower-in-None.ensures.set in
    subst (HaveCauses edges) (sym to) (causes_sunk edges c.find_cycle.new.vertices c.args.edge.now (omega (arith, c.requires.within.to, c.find_cycle.ensures.same.count)) has (causes_kept edges c.args.vertices.now c.find_cycle.new.vertices c.find_cycle.ensures.same h))

pub returns-in-Some-clause-causes : goal.returns-in-Some-clause-causes
returns-in-Some-clause-causes c edges has h = causes_kept edges c.args.vertices.now c.find_cycle.new.vertices c.find_cycle.ensures.same h
