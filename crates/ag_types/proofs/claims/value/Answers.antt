use Rattle.std.proofs.Common.{◌∙◌}
use Rattle.std.specs.Option.{option_copied}
use Rattle.ag_types.proofs.Claiming.{broken_value}
use Rattle.ag_types.proofs.claims.value.Goals as goal

pub returns : goal.returns
returns c =
    c.either.ensures ∙ rw (c.mismatch-of_value.ensures, c.type_of_target.ensures, c.typing-typing.ensures.ty, c.typing-typing.ensures.broken, c.typing-typing.ensures.first)
    (broken_value c.args.sight.now (option_copied c.args.target) c.args.term.now)
