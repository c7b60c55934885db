use Rattle.std.proofs.Common.{◌||◌, ◌==◌}
use Rattle.std.proofs.lemmas.Bool.{not-true}
use Rattle.ag_lex.specs.Characters.{begins, is_number_byte}
use Rattle.ag_lex.proofs.Made.{number_ends}
use Rattle.ag_lex.proofs.numbers_end.Goals as goal

pub returns : goal.returns
returns c = λ l own rest is ends. number_ends l own rest is (not-true (begins (λ b. is_number_byte l b || b == 46) rest) ends)
