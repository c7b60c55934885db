use Rattle.ag_lines.proofs.FarLines.{far-lines}
use Rattle.ag_lines.proofs.FarReading.{far-read}
use Rattle.ag_lines.proofs.laws.one_expression.Goals as goal

pub returns : goal.returns
returns c bytes ms t is = (far-read bytes ms t is, far-lines bytes ms t is)
