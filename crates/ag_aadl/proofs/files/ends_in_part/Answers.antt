use Rattle.std.proofs.Common.{sym, ap, ◌∙◌}
use Rattle.std.specs.Option.{option_copied}
use Rattle.ag_aadl.proofs.Ending.{ends-in-last}
use Rattle.ag_aadl.proofs.files.ends_in_part.Goals as goal

pub returns-in-Some : goal.returns-in-Some
returns-in-Some c = ends-in-last c.args.marked.now c.in-Some.token.now (sym c.last.ensures.value ∙ ap option_copied c.in-Some.is)
