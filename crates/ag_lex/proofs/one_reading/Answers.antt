use Rattle.ag_lex.proofs.Whole.{one_reading}
use Rattle.ag_lex.proofs.one_reading.Goals as goal

pub returns : goal.returns
returns c = one_reading
