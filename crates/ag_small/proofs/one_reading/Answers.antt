use Rattle.ag_small.proofs.Laws.{one_reading_lem}
use Rattle.ag_small.proofs.one_reading.Goals as goal

pub returns : goal.returns
returns c = one_reading_lem
