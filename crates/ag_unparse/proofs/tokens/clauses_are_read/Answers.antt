use Rattle.ag_unparse.proofs.TokensClauses.{clauses_read}
use Rattle.ag_unparse.proofs.tokens.clauses_are_read.Goals as goal

pub returns : goal.returns
returns c =
    clauses_read (record {
      names = c.names_end.ensures;
      numbers = c.numbers_end.ensures;
      texts = c.texts_end.ensures;
      symbols = c.symbols_end.ensures;
    }) c.pieces_keep.ensures
