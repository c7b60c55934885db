use Rattle.std.proofs.lemmas.Bool.{not-true}
use Rattle.ag_lex.specs.Characters.{begins, is_word_byte}
use Rattle.ag_lex.proofs.Made.{name_ends}
use Rattle.ag_lex.proofs.names_end.Goals as goal

pub returns : goal.returns
returns c = λ l own rest is ends. name_ends l own rest is (not-true (begins is_word_byte rest) ends)
