use Rattle.std.proofs.Common.{sym, ◌∙◌}
use Rattle.ag_types.proofs.Sound.{sound_is_typed, sound_has_type}
use Rattle.ag_types.proofs.types.type_of_term.Goals as goal

pub unreachable-requires : goal.unreachable-requires
unreachable-requires c =
    sound_has_type c.args.sight.now c.args.term.now (sym c.typing-typing.ensures.broken ∙ c.in-None-None.is-0) (sym c.typing-typing.ensures.ty ∙ c.in-None-None.is-1)

pub returns-in-None-Some-clause-ok : goal.returns-in-None-Some-clause-ok
returns-in-None-Some-clause-ok c =
    sound_is_typed c.args.sight.now c.args.term.now c.in-None-Some.ty (sym c.typing-typing.ensures.broken ∙ c.in-None-Some.is-0) (sym c.typing-typing.ensures.ty ∙ c.in-None-Some.is-1)
