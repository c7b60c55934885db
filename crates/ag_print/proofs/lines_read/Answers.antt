use Rattle.ag_print.proofs.Lines.{lines_read}
use Rattle.ag_print.proofs.lines_read.Goals as goal

pub returns : goal.returns
returns c = lines_read c.names_end.ensures c.symbols_end.ensures c.annexes_end.ensures c.pieces_keep.ensures
