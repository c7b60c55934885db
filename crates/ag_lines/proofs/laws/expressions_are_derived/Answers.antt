use Rattle.ag_lines.proofs.Completing.{expression-made}
use Rattle.ag_lines.proofs.laws.expressions_are_derived.Goals as goal

pub returns : goal.returns
returns c bytes ms t is meant = let w = expression-made bytes ms t is meant in (w.steps, w.derives, w.marks)
