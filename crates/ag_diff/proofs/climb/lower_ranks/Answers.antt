use Rattle.std.proofs.Common.{List, ap}
use Rattle.ag_diff.specs.declared.vertices.Vertex.{Vertex}
use Rattle.ag_diff.proofs.Values.{at_end_of}
use Rattle.ag_diff.proofs.Ranks.{ranked, ranked_same, same_twice, top_vertices, down_begin, down_at, down_more}
use Rattle.ag_diff.proofs.climb.lower_ranks.Goals as goal

pub loop-edge-init : goal.loop-edge-init
loop-edge-init c =
    let vs : List Vertex = c.args.vertices.now in
    let way = c.requires.way.1 in
    let same = ranked_same vs c.args.top 0 in
    let zero' = ap (λ (v : Vertex). v.rank) (at_end_of vs c.args.top (ranked vs c.args.top 0) way.top_there) in
    record {
      vertices = top_vertices vs c.args.top way.top_there c.requires.vertices way.no_cause;
      same = same;
      left = λ at h. down_begin vs _ at c.args.top c.args.path.items same zero' h;
    }

pub lower_rank-requires-clause-cause : goal.lower_rank-requires-clause-cause
lower_rank-requires-clause-cause c = (down_at c.loop-edge.vertices c.requires.way.0 c.loop-edge.path.items c.pop.new.self.items c.in-Some.edge c.loop-edge.rank c.in-Some.ensures.items (c.loop-edge.invariant.left c.requires.way.0 c.requires.way.1)).0

pub lower_rank-requires-clause-begin : goal.lower_rank-requires-clause-begin
lower_rank-requires-clause-begin c = (down_at c.loop-edge.vertices c.requires.way.0 c.loop-edge.path.items c.pop.new.self.items c.in-Some.edge c.loop-edge.rank c.in-Some.ensures.items (c.loop-edge.invariant.left c.requires.way.0 c.requires.way.1)).1

pub loop-edge-preserved : goal.loop-edge-preserved
loop-edge-preserved c = record {
  vertices = c.lower_rank.ensures.vertices;
  same = same_twice c.args.vertices.now c.loop-edge.vertices c.lower_rank.new.vertices c.loop-edge.invariant.same c.lower_rank.ensures.same;
  left = λ at h. down_more c.loop-edge.vertices c.lower_rank.new.vertices at c.loop-edge.path.items c.pop.new.self.items c.in-Some.edge c.loop-edge.rank c.in-Some.ensures.items c.lower_rank.ensures.same c.lower_rank.ensures.below (c.loop-edge.invariant.left at h);
}
