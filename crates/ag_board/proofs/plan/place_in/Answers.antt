use Rattle.std.proofs.Common.{◌∙◌}
use Rattle.ag_board.proofs.Plans.{position-same}
use Rattle.ag_board.proofs.plan.place_in.Goals as goal

pub returns-clause-place : goal.returns-clause-place
returns-clause-place c = c.get_index_of.ensures.index ∙ position-same c.args.problem.now c.args.rows.now.entries

pub returns-clause-within : goal.returns-clause-within
returns-clause-within c = c.get_index_of.ensures.within
