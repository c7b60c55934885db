use Rattle.ag_lex.proofs.Whole.{one_refusal}
use Rattle.ag_lex.proofs.one_refusal.Goals as goal

pub returns : goal.returns
returns c = one_refusal
