use Rattle.ag_board.proofs.Staying.{stays-out}
use Rattle.ag_board.proofs.laws.tickets_stay.Goals as goal

pub returns : goal.returns
returns c = λ s t seat call out other. stays-out s t seat call out other
