use Rattle.ag_print.proofs.RereadingClauses.{stated_again}
use Rattle.ag_print.proofs.RereadingShallow.{shallow_where_stated}
use Rattle.ag_print.proofs.rereading.annexes_reread.Goals as goal

pub returns-clause-read : goal.returns-clause-read
returns-clause-read c = stated_again c.one_text.ensures c.clauses_reread.ensures.read c.tokens_stand.ensures c.files_are_printable.ensures.annexes c.canonical_spells.ensures

pub returns-clause-shallow : goal.returns-clause-shallow
returns-clause-shallow c =
    shallow_where_stated c.one_text.ensures c.clauses_reread.ensures.shallow c.tokens_stand.ensures c.files_are_printable.ensures.annexes c.canonical_spells.ensures c.one_reading.ensures c.one_reading-2.ensures
