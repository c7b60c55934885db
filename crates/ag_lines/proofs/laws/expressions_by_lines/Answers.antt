use Rattle.ag_lines.proofs.EachExpression.{by-lines}
use Rattle.ag_lines.proofs.laws.expressions_by_lines.Goals as goal

pub returns : goal.returns
returns c = by-lines
