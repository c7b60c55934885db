use Rattle.std.proofs.Common.{ap, ◌∙◌}
use Rattle.ag_print.specs.Canonical.{canonical_text}
use Rattle.ag_print.specs.Shares.{shares}
use Rattle.ag_print.proofs.Sharing.{shares_are_stated}
use Rattle.ag_print.proofs.print.print_packages.Goals as goal

pub returns-in-Ok-write_packages-clause-text : goal.returns-in-Ok-write_packages-clause-text
returns-in-Ok-write_packages-clause-text c =
    let packages = c.args.packages.now in (
      shares packages c.in-Ok.clauses,
      shares_are_stated c.args.bytes.now packages c.in-Ok.clauses c.in-Ok.ensures.ok,
      c.in-Ok-write_packages.ensures ∙ ap (λ z. canonical_text packages (shares packages z)) c.as_slice.ensures,
    )
