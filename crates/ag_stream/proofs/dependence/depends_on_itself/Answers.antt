use Rattle.std.proofs.lemmas.Bool.{false≢true}
use Rattle.ag_stream.proofs.Passes.{rest_clear}
use Rattle.ag_stream.proofs.dependence.depends_on_itself.Goals as goal

pub returns-in-Rest : goal.returns-in-Rest
returns-in-Rest c = ((λ e. absurd (false≢true e)), (λ leads. absurd (rest_clear c.args.draft.now c.requires.form c.args.stream _ c.in-Rest.ensures.spreading c.in-Rest.ensures.spread leads)))
