use Rattle.std.proofs.Common.{List, sym, subst}
use Rattle.ag_stream.specs.declared.problem.ProblemDraft.{ProblemDraft}
use Rattle.ag_verdict.specs.declared.key.Key.{Key}
use Rattle.ag_board.proofs.Publishing.{HasKeysOnce, keys-plain}
use Rattle.ag_board.proofs.board.Board.publish.Goals as goal

pub enter_list-requires-clause-different : goal.enter_list-requires-clause-different
enter_list-requires-clause-different c =
    subst (λ (l : List (Key × ProblemDraft)). HasKeysOnce l) (sym c.in_ok-plan.ensures.plan.shared) (keys-plain c.args.list c.requires.different)
