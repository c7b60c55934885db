use Rattle.ag_small.proofs.Laws.{is_read, only_read}
use Rattle.ag_small.proofs.read.Goals as goal

pub returns-clause-ok : goal.returns-clause-ok
returns-clause-ok c = is_read c.args.bytes.now c.whole.result c.whole.ensures

pub returns-clause-only : goal.returns-clause-only
returns-clause-only c = only_read c.args.bytes.now c.whole.result c.whole.ensures
