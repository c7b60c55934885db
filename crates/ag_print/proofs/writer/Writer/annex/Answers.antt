use Rattle.std.proofs.Common.{◌++◌, ap, ◌∙◌}
use Rattle.std.specs.Prelude.{codes}
use Rattle.ag_print.specs.Shares.{joined}
use Rattle.ag_print.specs.Written.{Written}
use Rattle.ag_print.proofs.Writing.{annex_step}
use Rattle.ag_print.proofs.writer.Writer.annex.Goals as goal

pub returns : goal.returns
returns c =
    annex_step c.args.self.now c.space.new.self (joined c.args.clauses.now) _ _ _ c.in_ok-space.ensures
    (c.in_ok-push_str.ensures.bytes ∙ ap (λ (w : Written). w.bytes ++ codes "{**\n") c.self.view_is) c.in_ok-write_lists.ensures c.in_ok-push_str-2.ensures.bytes
