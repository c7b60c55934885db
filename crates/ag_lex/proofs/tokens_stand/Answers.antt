use Rattle.ag_lex.proofs.Annexes.{tokens_stand}
use Rattle.ag_lex.proofs.tokens_stand.Goals as goal

pub returns : goal.returns
returns c = tokens_stand
