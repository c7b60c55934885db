use Rattle.ag_lines.proofs.Obeying.{clauses-obey}
use Rattle.ag_lines.proofs.laws.clauses_obey.Goals as goal

pub returns : goal.returns
returns c = clauses-obey
