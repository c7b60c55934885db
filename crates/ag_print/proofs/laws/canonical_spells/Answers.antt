use Rattle.ag_print.proofs.Standing.{canonical_spells}
use Rattle.ag_print.proofs.laws.canonical_spells.Goals as goal

pub returns : goal.returns
returns c = canonical_spells c.text_never_closes.ensures c.text_is_utf8.ensures c.lines_read.ensures
