use Rattle.ag_small.proofs.Verdicts.{verdicts_carry_over_lem}
use Rattle.ag_small.proofs.carried.verdicts_carry_over.Goals as goal

pub returns : goal.returns
returns c = verdicts_carry_over_lem
