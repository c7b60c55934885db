use Rattle.ag_lex.proofs.Longest.{text_found}
use Rattle.ag_lex.proofs.texts_end.Goals as goal

pub returns : goal.returns
returns c = text_found
