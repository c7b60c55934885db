use Rattle.ag_lex.proofs.Either.{one_of_the_two}
use Rattle.ag_lex.proofs.one_of_the_two.Goals as goal

pub returns : goal.returns
returns c = one_of_the_two
