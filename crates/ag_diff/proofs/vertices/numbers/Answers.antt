use Rattle.std.proofs.Common.{refl}
use Rattle.ag_diff.proofs.Values.{number_more}
use Rattle.ag_diff.proofs.vertices.numbers.Goals as goal

pub loop-vertex-preserved : goal.loop-vertex-preserved
loop-vertex-preserved c = number_more c.args.vertices.now c.loop-vertex.numbers c.push.new.self c.loop-vertex.vertex-index _ c.requires.size c.requires.vertices c.requires.some c.loop-vertex-test.true c.loop-vertex.invariant refl c.in_ok-push.ensures.ok
