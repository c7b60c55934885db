use Rattle.ag_lex.proofs.Made.{pieces_keep}
use Rattle.ag_lex.proofs.pieces_keep.Goals as goal

pub returns : goal.returns
returns c = pieces_keep
