use Rattle.ag_board.proofs.Staying.{rising-tickets}
use Rattle.ag_board.proofs.laws.tickets_rise.Goals as goal

pub returns : goal.returns
returns c = λ history legal. rising-tickets history
