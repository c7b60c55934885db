use Rattle.std.proofs.lemmas.Result.{on_ok_weaker}
use Rattle.ag_unparse.proofs.WritingSteps.{front_written}
use Rattle.ag_unparse.proofs.words.write_front.Goals as goal

pub returns : goal.returns
returns c =
    let path = c.args.path.now in
    on_ok_weaker c.write_name-3.result
    (front_written c.args.writer.now c.write_name-2.new.writer c.joint.new.self c.write_name-3.new.writer path.«package» c.in-Some.«package» path.name.text c.in-Some.is c.in_ok-write_name.ensures c.in_ok-joint.ensures)
    c.write_name-3.ensures
