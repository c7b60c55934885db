use Rattle.ag_board.specs.Machine.{start, state_after}
use Rattle.ag_board.specs.Laws.{all_lines}
use Rattle.ag_board.proofs.Verdicts.{each-to}
use Rattle.ag_board.proofs.Truths.{HasTrue, good-history}
use Rattle.ag_board.proofs.laws.verdicts_are_true.Goals as goal

pub returns : goal.returns
returns c = λ history legal. each-to HasTrue (all_lines (state_after start history)) (good-history history legal).1
