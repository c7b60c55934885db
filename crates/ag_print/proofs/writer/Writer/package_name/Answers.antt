use Rattle.std.proofs.Common.{◌++◌, ap, ◌∙◌}
use Rattle.ag_print.specs.Written.{Written}
use Rattle.ag_print.proofs.Writing.{name_step}
use Rattle.ag_print.proofs.writer.Writer.package_name.Goals as goal

pub returns : goal.returns
returns c =
    name_step c.args.self.now c.space.new.self c.args.name.now _ c.in_ok-space.ensures
    (c.in_ok-push_str.ensures.bytes ∙ ap (λ (w : Written). w.bytes ++ c.args.name.now) c.self.view_is)
