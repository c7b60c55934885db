use Rattle.std.proofs.lemmas.Bool.{not-true}
use Rattle.ag_lex.specs.Characters.{begins}
use Rattle.ag_lex.specs.Spelling.{goes_on}
use Rattle.ag_lex.proofs.Made.{symbol_ends}
use Rattle.ag_lex.proofs.symbols_end.Goals as goal

pub returns : goal.returns
returns c = λ l own rest is ends. symbol_ends l own rest is (not-true (begins (goes_on own) rest) ends)
