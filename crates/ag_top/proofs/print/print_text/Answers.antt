use Rattle.std.proofs.Common.{◌∙◌, List, ℕ, ap, subst, inr}
use Rattle.std.proofs.Common as common
use Rattle.ag_top.specs.Stages.{Partly}
use Rattle.ag_top.proofs.Tops.{is_no_write_fault}
use Rattle.ag_top.proofs.print.print_text.Goals as goal

pub returns-in-Ok-refusal_line-clause-broken : goal.returns-in-Ok-refusal_line-clause-broken
returns-in-Ok-refusal_line-clause-broken g c = λ m.
    inr (
      c.in-Err-Model.refusal,
      c.in-Err-Model.ensures.refused c.in-Err-Model.refusal (ap common.Err c.in-Err-Model.field-0-is),
      subst (λ (text : List ℕ). Partly text (g.K.Sink.written c.args.sink.now) (g.K.Sink.written c.tell-in-Ok-refusal_line.new.sink)) (c.as_slice-in-Ok-refusal_line.ensures ∙ c.in-Ok-refusal_line.ensures) (c.tell-in-Ok-refusal_line.ensures.partly is_no_write_fault m),
    )
