use Rattle.ag_stream.proofs.Same.{draft_decides}
use Rattle.ag_board.proofs.laws.problems_are_compared.Goals as goal

pub returns : goal.returns
returns c = λ p q. draft_decides p q
