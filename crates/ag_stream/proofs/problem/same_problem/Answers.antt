use Rattle.std.proofs.Common.{sym, ◌∙◌}
use Rattle.ag_stream.proofs.Same.{draft_decides}
use Rattle.ag_stream.proofs.problem.same_problem.Goals as goal

pub returns : goal.returns
returns c =
    let by = draft_decides c.draft.result.now c.draft-2.result.now in (
      (λ t. sym c.draft.ensures ∙ by.0 (sym c.eq.ensures ∙ t) ∙ c.draft-2.ensures),
      (λ e. c.eq.ensures ∙ by.1 (c.draft.ensures ∙ e ∙ sym c.draft-2.ensures)),
    )
