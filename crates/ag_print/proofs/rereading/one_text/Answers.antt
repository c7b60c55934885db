use Rattle.ag_print.proofs.RereadingAgain.{same_text}
use Rattle.ag_print.proofs.RereadingWhole.{same_packages}
use Rattle.ag_print.proofs.rereading.one_text.Goals as goal

pub returns-clause-text : goal.returns-clause-text
returns-clause-text c = same_text c.one_text.ensures

pub returns-clause-same : goal.returns-clause-same
returns-clause-same c = same_packages c.canonical_rereads.ensures c.one_reading.ensures c.one_reading-2.ensures
