use Rattle.std.specs.Bool.{⊤}
use Rattle.std.proofs.lemmas.Option.{MatchOption-at_some}
use Rattle.ag_tree.specs.Trail.{HasReason}
use Rattle.ag_tree.proofs.Units.{sound_drawn}
use Rattle.ag_tree.proofs.cone.cone_of.Goals as goal

pub line-requires-in-loop-place : goal.line-requires-in-loop-place
line-requires-in-loop-place c =
    let steps = c.args.trail.now.steps in
    let from : HasReason steps c.in-Some.reason = MatchOption-at_some ⊤ (HasReason steps) c.in-Some.reason c.in-Some.is c.reason.ensures in
    (sound_drawn c.args.kernel.now.lines steps from.0 c.in-Some.reason c.requires.sound from.1 from.2).0
