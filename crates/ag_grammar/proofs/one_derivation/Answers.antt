use Rattle.ag_grammar.proofs.Reaching.{one_derivation}
use Rattle.ag_grammar.proofs.one_derivation.Goals as goal

pub returns : goal.returns
returns c = one_derivation
