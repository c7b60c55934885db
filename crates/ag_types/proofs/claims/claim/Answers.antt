use Rattle.std.proofs.Common.{◌∙◌}
use Rattle.ag_types.proofs.Claiming.{broken_claim}
use Rattle.ag_types.proofs.claims.claim.Goals as goal

pub returns : goal.returns
returns c =
    c.either.ensures ∙ rw (c.mismatch-of_claim.ensures, c.typing-typing.ensures.ty, c.typing-typing.ensures.broken, c.typing-typing.ensures.first)
    (broken_claim c.args.sight.now c.args.labelled.now)
