use Rattle.ag_print.proofs.RereadingWhole.{rereads}
use Rattle.ag_print.proofs.rereading.words_reread.Goals as goal

pub returns : goal.returns
returns c = rereads
