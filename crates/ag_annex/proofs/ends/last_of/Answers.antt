use Rattle.std.proofs.Common.{sym, ap, ◌∙◌}
use Rattle.std.specs.Option.{option_copied}
use Rattle.ag_annex.proofs.AnnexEnds.{is-last}
use Rattle.ag_annex.proofs.ends.last_of.Goals as goal

pub returns-in-Some : goal.returns-in-Some
returns-in-Some c = is-last c.args.tokens.now c.in-Some.token.now (sym c.last.ensures.value ∙ ap option_copied c.in-Some.is)
