use Rattle.ag_small.specs.Reading.{has}
use Rattle.ag_small.proofs.Bytes.{eqb-prefix_len}
use Rattle.ag_small.proofs.class.Class.holds_all.Goals as goal

pub returns : goal.returns
returns c = rw c.front_len.ensures.value (eqb-prefix_len (has c.args.self) c.args.bytes.now)
