use Rattle.ag_print.proofs.RereadingWhole.{text_rereads}
use Rattle.ag_print.proofs.rereading.canonical_rereads.Goals as goal

pub returns : goal.returns
returns c = text_rereads c.one_text.ensures c.canonical_spells.ensures
