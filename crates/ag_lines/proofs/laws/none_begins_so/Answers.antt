use Rattle.ag_lines.proofs.Obeying.{none-begins}
use Rattle.ag_lines.proofs.laws.none_begins_so.Goals as goal

pub returns : goal.returns
returns c = none-begins
