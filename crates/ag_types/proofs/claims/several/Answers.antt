use Rattle.std.proofs.Common.{sym, ◌∙◌}
use Rattle.ag_types.proofs.Claiming.{broken_several}
use Rattle.ag_types.proofs.claims.several.Goals as goal

pub returns-in-Call : goal.returns-in-Call
returns-in-Call c =
    c.either.ensures ∙ rw (c.first_of_several-of_call.ensures, c.arguments-arguments.ensures.mismatched, c.arguments-arguments.ensures.broken, c.inputs_of.ensures, c.node_of-node.ensures, c.path_place.ensures, c.as_slice.ensures, c.as_slice-given.ensures, c.in-Call.is)
    (sym (broken_several c.args.sight.now c.args.vars.now c.in-Call.path c.in-Call.args))
