use Rattle.ag_grammar.proofs.Finishing.{one_of_the_two}
use Rattle.ag_grammar.proofs.one_of_the_two.Goals as goal

pub returns : goal.returns
returns c = one_of_the_two
