use Rattle.ag_aadl.specs.Grammar.{aadl}
use Rattle.ag_aadl.proofs.Settling.{settled}
use Rattle.ag_aadl.proofs.laws.one_of_the_two.Goals as goal

pub returns : goal.returns
returns c = settled (c.one_of_the_two.ensures aadl c.aadl_is_founded.ensures)
